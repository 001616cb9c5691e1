use Rattle.std.proofs.Common.{◌≡◌, ◌<◌, length, refl, ◌∙◌, arith}
use Rattle.std.specs.Prelude.{slice_get, Some}
use Rattle.std.proofs.lemmas.List.{length-map}
use Rattle.std.proofs.lemmas.Option.{slice_get_read}
use Rattle.fancy_regex_compiler.specs.Needs.{AreStanding}
use Rattle.fancy_regex_compiler.specs.Refusals.{IsReasonWhere}
use Rattle.fancy_regex_compiler.specs.Writing.{draft_of, info_at, infos_of}
use Rattle.fancy_regex_compiler.proofs.MetLemmas.{contains_at, at_contained, need_group, need_stands, still_among, needs_now, met_now, needed_now}
use Rattle.fancy_regex_compiler.proofs.RefusalLemmas.{passed_on}
use Rattle.fancy_regex_compiler.proofs.calls.write_bodies.Goals as goal

pub meet_need-requires-clause-group : goal.meet_need-requires-clause-group
meet_need-requires-clause-group c =
    let context = c.args.context.now in
    let start = c.args.emitter.now.needs.list.items in
    let needs = c.loop-done.emitter.needs.list.items in
    let need = c.index-need.result.now in
    let inside : c.loop-done.done < length needs = omega arith in
    let at : slice_get needs c.loop-done.done ≡ Some need = slice_get_read needs _ c.loop-done.done need refl inside c.index-need.ensures in
    let low = need_group context start needs c.requires.of_groups c.loop-done.invariant.notes need (contains_at needs c.loop-done.done need at) in
    let long = length-map context.groups.now.items info_at in
    omega (arith, low, long)

pub returns-in_err-meet_need-clause-refused : goal.returns-in_err-meet_need-clause-refused
returns-in_err-meet_need-clause-refused c =
    let context = c.args.context.now in
    let start = c.args.emitter.now.needs.list.items in
    let needs = c.loop-done.emitter.needs.list.items in
    let need = c.index-need.result.now in
    let inside : c.loop-done.done < length needs = omega arith in
    let at : slice_get needs c.loop-done.done ≡ Some need = slice_get_read needs _ c.loop-done.done need refl inside c.index-need.ensures in
    let r = c.from_residual-in_err-meet_need in
    passed_on r.result c.in_err-meet_need.field-0.0
    (IsReasonWhere context.unicode (infos_of context) (λ tree_context. AreStanding tree_context (infos_of context) start)) r.ensures.1
    (λ tree_context analyzed stand. c.in_err-meet_need.ensures.needs.refused tree_context analyzed
    (need_stands context start needs c.requires.of_groups c.loop-done.invariant.notes need (contains_at needs c.loop-done.done need at) tree_context analyzed stand))

pub loop-done-preserved : goal.loop-done-preserved
loop-done-preserved c =
    let context = c.args.context.now in
    let start = c.args.emitter.now.needs.list.items in
    let needs = c.loop-done.emitter.needs.list.items in
    let new = c.meet_need.new.emitter.needs.list.items in
    let need = c.index-need.result.now in
    let inside : c.loop-done.done < length needs = omega arith in
    let at : slice_get needs c.loop-done.done ≡ Some need = slice_get_read needs _ c.loop-done.done need refl inside c.index-need.ensures in
    let h = c.in_ok-meet_need.ensures in
    let inv = c.loop-done.invariant in
    record {
      bodies = h.bodies (draft_of c.args.emitter.now.body).ops c.args.slot inv.bodies;
      opened = h.needs.opened ∙ inv.opened;
      notes = needs_now context start needs c.requires.of_groups inv.notes new c.loop-done.done need at h.needs.notes;
      met = met_now context start needs c.requires.of_groups inv.notes new c.loop-done.done need at h.needs.notes c.loop-done.bodies c.meet_need.new.bodies inv.met h.met
          h.needs.allowed;
      needed = needed_now context start needs c.requires.of_groups inv.notes new c.loop-done.done need at h.needs.notes c.loop-done.bodies c.meet_need.new.bodies h.met inv.needed;
    }

pub returns-clause-wrote : goal.returns-clause-wrote
returns-clause-wrote c =
    let context = c.args.context.now in
    let start = c.args.emitter.now.needs.list.items in
    let needs = c.loop-done.emitter.needs.list.items in
    let inv = c.loop-done.invariant in
    record {
      bodies = inv.bodies;
      met = λ need there.
          let at = at_contained needs need there in
          let inside : there.0 < c.loop-done.done = let low = there.1 in omega (arith, low) in
          inv.met needs (λ n h. h) there.0 need inside at;
      needed = inv.needed;
      among = still_among context start needs c.requires.of_groups inv.notes;
    }
