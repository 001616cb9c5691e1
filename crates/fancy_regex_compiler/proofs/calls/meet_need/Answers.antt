use Rattle.std.proofs.Common.{◌≡◌, Some, None, Ok, inl, refl, sym, ap, ◌∙◌, length, ◌<◌, arith}
use Rattle.std.specs.Prelude.{slice_get, is_some}
use Rattle.std.proofs.lemmas.Bool.{true≢false}
use Rattle.std.proofs.lemmas.Option.{slice_get_read}
use Rattle.fancy_regex_compiler.specs.Kept.{Stays, NeedStands, MeetsNeed, IsMet}
use Rattle.fancy_regex_compiler.specs.Writing.{infos_of, layout_of}
use Rattle.fancy_regex_compiler.specs.declared.calls.Bodies.{Bodies}
use Rattle.fancy_regex_compiler.specs.declared.emitter.CompileContext.{CompileContext}
use Rattle.fancy_regex_compiler.specs.declared.emitter.Emitter.{Emitter}
use Rattle.fancy_regex_compiler.specs.declared.emitter.Need.{Need}
use Rattle.fancy_regex_compiler.proofs.NeedLemmas.{none_noted, place_of_draft}
use Rattle.fancy_regex_compiler.proofs.calls.meet_need.Goals as goal

stays_not : {P : Type 0} (context : CompileContext) (need : Need) → layout_of context need.group ≡ None → Stays context need.group → P
stays_not context need none stays = absurd (true≢false (sym stays ∙ ap is_some none))

none_met : (context : CompileContext) (bodies : Bodies) (need : Need) → layout_of context need.group ≡ None → IsMet context bodies bodies need
none_met context bodies need none = record {
  it = λ stays. stays_not context need none stays;
  others = λ k h. h;
  only = λ b there. inl there;
}

none_needed : {A : Type 0} (context : CompileContext) (need : Need) (emitter : Emitter) (a : A) → layout_of context need.group ≡ None → MeetsNeed context need emitter emitter (Ok a)
none_needed context need emitter a none = record {
  allowed = λ all among stays. stays_not context need none stays;
  opened = refl;
  notes = none_noted (infos_of context) emitter.needs.list.items (NeedStands context need);
  refused = tt;
}

pub returns-in-None-clause-met : goal.returns-in-None-clause-met
returns-in-None-clause-met c =
    let context = c.args.context.now in
    let need = c.args.need in
    let drafts = context.drafts.now.items in
    let low : need.group < length drafts = omega (arith, c.requires.group, c.requires.drafted) in
    let at : slice_get drafts need.group ≡ Some c.index.result.now = slice_get_read drafts _ need.group c.index.result.now refl low c.index.ensures in
    none_met context c.args.bodies.now need (place_of_draft context need.group None (at ∙ ap Some c.in-None.is))

pub returns-in-None-clause-needs : goal.returns-in-None-clause-needs
returns-in-None-clause-needs c =
    let context = c.args.context.now in
    let need = c.args.need in
    let drafts = context.drafts.now.items in
    let low : need.group < length drafts = omega (arith, c.requires.group, c.requires.drafted) in
    let at : slice_get drafts need.group ≡ Some c.index.result.now = slice_get_read drafts _ need.group c.index.result.now refl low c.index.ensures in
    none_needed context need c.args.emitter.now tt (place_of_draft context need.group None (at ∙ ap Some c.in-None.is))

pub add_body-requires-clause-draft : goal.add_body-requires-clause-draft
add_body-requires-clause-draft c =
    let need = c.args.need in
    let drafts = c.args.context.now.drafts.now.items in
    let low : need.group < length drafts = omega (arith, c.requires.group, c.requires.drafted) in
    slice_get_read drafts _ need.group c.index.result.now refl low c.index.ensures ∙ ap Some c.in-Some.is
