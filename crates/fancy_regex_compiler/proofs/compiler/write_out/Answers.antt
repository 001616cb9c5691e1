use Rattle.std.proofs.Common.{arith, true, ap, ◌∙◌}
use Rattle.fancy_regex_info.specs.Infos.{info_of}
use Rattle.fancy_regex_compiler.specs.Rooms.{room_with}
use Rattle.fancy_regex_compiler.specs.Known.{pat_with}
use Rattle.fancy_regex_compiler.specs.Writing.{Draft, infos_of, layout_of}
use Rattle.std.specs.Prelude.{length}
use Rattle.fancy_regex_compiler.proofs.MainLemmas.{whole_of_main}
use Rattle.fancy_regex_compiler.proofs.NeedLemmas.{allowed_written_out, none_stays, none_drafted}
use Rattle.fancy_regex_compiler.proofs.RoomLemmas.{late, room_written_out}
use Rattle.fancy_regex_compiler.proofs.compiler.write_out.Goals as goal

pub returns-clause-wrote : goal.returns-clause-wrote
returns-clause-wrote c =
    let context = c.args.context.now in
    let main = c.in_ok-slots.ensures.wrote in
    whole_of_main context.unicode context.whole c.args.options.now.anchored (layout_of context) (pat_with (infos_of context) (info_of c.args.info.now))
    (length (infos_of context)) c.into_insns.result.items c.in_ok-slots.slots (none_drafted context c.requires)
    (c.into_insns.ensures.ops ∙ ap (λ (d : Draft). d.ops) main.draft_is) main.slots_are

pub returns-clause-allowed : goal.returns-clause-allowed
returns-clause-allowed c =
    let context = c.args.context.now in
    let needs = c.write_main.new.emitter.needs.list.items in
    allowed_written_out (layout_of context) needs context.unicode true (pat_with (infos_of context) (info_of c.args.info.now))
    (none_stays (layout_of context) (none_drafted context c.requires)) (c.in_ok-slots.ensures.allowed needs (λ n h. h))

pub returns-in_err-slots-clause-full : goal.returns-in_err-slots-clause-full
returns-in_err-slots-clause-full c =
    let context = c.args.context.now in
    let p = pat_with (infos_of context) (info_of c.args.info.now) in
    let r = c.from_residual in
    let same = ap (λ l. room_with l p) (none_drafted context c.requires) ∙ room_written_out p in
    late r.result c.in_err-slots.field-0.0 _ _ r.ensures.1 c.in_err-slots.ensures.full
    (λ lt. omega (arith, lt, same, c.new_emitter-emitter.ensures.cap))
