use Rattle.std.proofs.Common.{rules, arith, ◌≡◌, ◌+◌, ◌*◌, true, length, sym, ap, ap₂, subst, ◌∙◌}
use Rattle.std.proofs.lemmas.List.{length-map}
use Rattle.fancy_regex_class.specs.Classes.{in_class, folded}
use Rattle.fancy_regex_info.specs.Infos.{info_of}
use Rattle.fancy_regex_program.specs.Code.{slots_with}
use Rattle.fancy_regex_program.specs.Layouts.{main_code}
use Rattle.fancy_regex_compiler.specs.Rooms.{room_with}
use Rattle.fancy_regex_compiler.specs.Known.{most_calls_in}
use Rattle.fancy_regex_compiler.specs.Tasks.{IsLetThrough}
use Rattle.fancy_regex_compiler.specs.Writing.{draft_of, info_at, infos_of, layout_of}
use Rattle.fancy_regex_compiler.proofs.Drafts.{same_draft}
use Rattle.fancy_regex_compiler.proofs.MainLemmas.{main_is}
use Rattle.fancy_regex_compiler.proofs.RoomLemmas.{took, late, extent_nothing}
use Rattle.fancy_regex_compiler.proofs.WholeLemmas.{body_is}
use Rattle.fancy_regex_compiler.proofs.main_program.write_main.Goals as goal

pub returns-clause-wrote : goal.returns-clause-wrote
returns-clause-wrote c =
    let context = c.args.context.now in
    let u = context.unicode in
    let groups = context.groups.now.items in
    let count = length (infos_of context) in
    let layout = layout_of context in
    let long : c.len.result ≡ count = let here : c.len.result ≡ length groups = search rules in here ∙ sym (length-map groups info_at) in
    let long-2 : c.len-2.result ≡ count = let here : c.len-2.result ≡ length groups = search rules in here ∙ sym (length-map groups info_at) in
    let calls : c.in_ok-max_open_calls.field-0 ≡ most_calls_in (infos_of context) = c.in_ok-max_open_calls.ensures.value ∙ ap (λ n. 19 * n) long in
    let slot : c.in_ok-slot.slot ≡ 2 * count = c.in_ok-slot.ensures.value ∙ ap (λ n. 2 * n) long-2 in
    let p = body_is (infos_of context) (info_of c.args.info.now) c.in_ok-max_open_calls.field-0 c.args.emitter.now.opened.items calls c.requires.opened in
    let wrote = c.in_ok-slots.ensures.wrote in
    let written = main_is u context.whole c.args.anchored layout _ count c.in_ok-slot.slot (draft_of c.open.new.body) _ _ slot
    (c.in_ok-open.ensures.draft (in_class u) (folded u) c.requires.begins) wrote.draft (c.in_ok-close.ensures.draft (in_class u) (folded u)) in
    record {
      draft_is = same_draft (written ∙ ap (main_code (in_class u) (folded u) context.whole layout c.args.anchored count) p) c.in_ok-close.ensures.text;
      slots_are = wrote.slots ∙ ap₂ (λ s q. s + slots_with layout q) slot p;
    }

pub returns-clause-opened : goal.returns-clause-opened
returns-clause-opened c = c.in_ok-slots.ensures.wrote.opened ∙ c.requires.opened

pub returns-clause-allowed : goal.returns-clause-allowed
returns-clause-allowed c = λ all among.
    let context = c.args.context.now in
    let groups = context.groups.now.items in
    let long : c.len.result ≡ length groups = search rules in
    let calls : c.in_ok-max_open_calls.field-0 ≡ most_calls_in (infos_of context) =
    c.in_ok-max_open_calls.ensures.value ∙ ap (λ n. 19 * n) (long ∙ sym (length-map groups info_at)) in
    let p = body_is (infos_of context) (info_of c.args.info.now) c.in_ok-max_open_calls.field-0 c.args.emitter.now.opened.items calls c.requires.opened in
    subst (λ q. IsLetThrough context true q all) p (c.in_ok-slots.ensures.allowed all among)

pub returns-in_err-open-clause-full : goal.returns-in_err-open-clause-full
returns-in_err-open-clause-full c =
    let r = c.from_residual-in_err-open in
    late r.result c.in_err-open.field-0.0 _ _ r.ensures.1 c.in_err-open.ensures.full
    (λ lt. omega (arith, lt, extent_nothing (draft_of c.args.emitter.now.body) c.requires.begins))

pub returns-in_err-slots-clause-full : goal.returns-in_err-slots-clause-full
returns-in_err-slots-clause-full c =
    let context = c.args.context.now in
    let groups = context.groups.now.items in
    let long : c.len.result ≡ length groups = search rules in
    let calls : c.in_ok-max_open_calls.field-0 ≡ most_calls_in (infos_of context) =
    c.in_ok-max_open_calls.ensures.value ∙ ap (λ n. 19 * n) (long ∙ sym (length-map groups info_at)) in
    let p = body_is (infos_of context) (info_of c.args.info.now) c.in_ok-max_open_calls.field-0 c.args.emitter.now.opened.items calls c.requires.opened in
    let r = c.from_residual-in_err-slots in
    late r.result c.in_err-slots.field-0.0 _ _ r.ensures.1 c.in_err-slots.ensures.full
    (λ lt. omega (
      arith,
      lt,
      extent_nothing (draft_of c.args.emitter.now.body) c.requires.begins,
      c.in_ok-open.ensures.cap,
      c.in_ok-open.ensures.long,
      ap (room_with (layout_of context)) p,
    ))

pub returns-in_err-close-clause-full : goal.returns-in_err-close-clause-full
returns-in_err-close-clause-full c =
    let context = c.args.context.now in
    let groups = context.groups.now.items in
    let long : c.len.result ≡ length groups = search rules in
    let calls : c.in_ok-max_open_calls.field-0 ≡ most_calls_in (infos_of context) =
    c.in_ok-max_open_calls.ensures.value ∙ ap (λ n. 19 * n) (long ∙ sym (length-map groups info_at)) in
    let p = body_is (infos_of context) (info_of c.args.info.now) c.in_ok-max_open_calls.field-0 c.args.emitter.now.opened.items calls c.requires.opened in
    let r = c.from_residual-in_err-close in
    late r.result c.in_err-close.field-0.0 _ _ r.ensures.1 c.in_err-close.ensures.full
    (λ lt. omega (
      arith,
      lt,
      extent_nothing (draft_of c.args.emitter.now.body) c.requires.begins,
      c.in_ok-open.ensures.cap,
      c.in_ok-open.ensures.long,
      c.in_ok-slots.ensures.cap,
      took c.in_ok-slots.ensures.wrote,
      ap (room_with (layout_of context)) p,
    ))
