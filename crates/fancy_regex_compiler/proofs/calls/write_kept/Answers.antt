use Rattle.std.proofs.Common.{map, ap, ◌∙◌}
use Rattle.fancy_regex_info.specs.Infos.{info_of}
use Rattle.fancy_regex_program.specs.Assembled.{resolved}
use Rattle.fancy_regex_program.specs.Ops.{ops_of}
use Rattle.fancy_regex_compiler.specs.Kept.{table_of, WholeStands}
use Rattle.fancy_regex_compiler.specs.Refusals.{IsReasonWhere}
use Rattle.fancy_regex_compiler.specs.Writing.{draft_of, infos_of}
use Rattle.fancy_regex_compiler.proofs.KeptLemmas.{keeps_calls, kept_allowed}
use Rattle.fancy_regex_compiler.proofs.MetLemmas.{noted_groups, noted_stand}
use Rattle.fancy_regex_compiler.proofs.RefusalLemmas.{passed_on}
use Rattle.fancy_regex_compiler.proofs.calls.write_kept.Goals as goal

pub returns-clause-kept : goal.returns-clause-kept
returns-clause-kept c =
    let context = c.args.context.now in
    let x = info_of c.args.info.now in
    let wrote = c.in_ok-bodies.ensures.wrote in
    let all = c.write_bodies.new.emitter.needs.list.items in
    let table = table_of c.in_ok-places.places.of_groups.items in
    keeps_calls context x c.args.anchored c.in_ok-slot.slot (draft_of c.write_main.new.emitter.body) (draft_of c.write_bodies.new.emitter.body) (draft_of c.push_insn.new.self)
    c.in_ok-bodies.bodies all table c.in_ok-places.places.end c.in_ok-insns.insns.items c.requires.inlined c.requires.some c.requires.drafted
    c.in_ok-slot.ensures.wrote wrote.bodies c.in_ok-push_insn.ensures.draft wrote.met wrote.needed (c.in_ok-slot.ensures.allowed all wrote.among)
    (c.in_ok-places.ensures.places c.in_ok-slot.slot wrote.bodies.stacked)
    (c.in_ok-insns.ensures ∙ ap (λ places. map (resolved (table_of places)) (ops_of c.into_insns.result.items)) c.deref.ensures.value
    ∙ ap (map (resolved table)) c.into_insns.ensures.ops)

pub returns-clause-allowed : goal.returns-clause-allowed
returns-clause-allowed c =
    let context = c.args.context.now in
    let x = info_of c.args.info.now in
    let wrote = c.in_ok-bodies.ensures.wrote in
    let all = c.write_bodies.new.emitter.needs.list.items in
    let table = table_of c.in_ok-places.places.of_groups.items in
    kept_allowed context x c.args.anchored c.in_ok-slot.slot (draft_of c.write_main.new.emitter.body) (draft_of c.write_bodies.new.emitter.body) (draft_of c.push_insn.new.self)
    c.in_ok-bodies.bodies all table c.in_ok-places.places.end c.in_ok-insns.insns.items c.requires.inlined c.requires.some c.requires.drafted
    c.in_ok-slot.ensures.wrote wrote.bodies c.in_ok-push_insn.ensures.draft wrote.met wrote.needed (c.in_ok-slot.ensures.allowed all wrote.among)
    (c.in_ok-places.ensures.places c.in_ok-slot.slot wrote.bodies.stacked)
    (c.in_ok-insns.ensures ∙ ap (λ places. map (resolved (table_of places)) (ops_of c.into_insns.result.items)) c.deref.ensures.value
    ∙ ap (map (resolved table)) c.into_insns.ensures.ops)

pub write_bodies-requires-clause-of_groups : goal.write_bodies-requires-clause-of_groups
write_bodies-requires-clause-of_groups c =
    noted_groups (infos_of c.args.context.now) c.new_emitter-emitter.result.needs.list.items c.write_main.new.emitter.needs.list.items (WholeStands (info_of c.args.info.now))
    c.new_emitter-emitter.ensures.needs c.in_ok-slot.ensures.notes

pub returns-in_err-bodies-clause-refused : goal.returns-in_err-bodies-clause-refused
returns-in_err-bodies-clause-refused c =
    let context = c.args.context.now in
    let S = WholeStands (info_of c.args.info.now) in
    let r = c.from_residual-in_err-bodies in
    passed_on r.result c.in_err-bodies.field-0.0 (IsReasonWhere context.unicode (infos_of context) S) r.ensures.1
    (λ tree_context analyzed stand. c.in_err-bodies.ensures.refused tree_context analyzed
    (noted_stand (infos_of context) c.new_emitter-emitter.result.needs.list.items c.write_main.new.emitter.needs.list.items S c.new_emitter-emitter.ensures.needs c.in_ok-slot.ensures.notes
    tree_context analyzed stand))
