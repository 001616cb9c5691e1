use Rattle.std.proofs.Common.{◌≡◌, ◌∙◌, ◌*◌, ◌≤◌, ℕ, Bool, true, List, Some, length, replicate, sym, subst, ap, ap₂, arith, IsCharBoundary}
use Rattle.std.proofs.lemmas.List.{length-replicate}
use Rattle.fancy_regex_class.specs.RunInputs.{match_slots, setting_for}
use Rattle.fancy_regex_regular.specs.Walks.{reset_start, told_slots}
use Rattle.fancy_regex_regular.proofs.BuildLemmas.{groups_with_span}
use Rattle.fancy_regex_regular.proofs.FarLemmas.{none_found}
use Rattle.fancy_regex_regular.proofs.RegularGroupLemmas.{refilled}
use Rattle.fancy_regex_regular.proofs.regular.Regular.search_again.Goals as goal

pub returns-in_default-clause-answer : goal.returns-in_default-clause-answer
returns-in_default-clause-answer c pattern is =
    none_found (setting_for c.args.self.now.unicode c.args.text.now c.args.input.now) pattern c.args.input.now c.args.self.now.longest (match_slots pattern)
    (sym c.in_default.is ∙ c.in_ok-found.ensures.answer pattern is)

pub returns-clause-answer : goal.returns-clause-answer
returns-clause-answer c pattern is =
    let self = c.args.self.now in
    let t = c.in_ok-walk_along.ensures.told pattern is in
    let vector = c.in_ok-slots.slots in
    let unset : vector.items ≡ replicate (2 * length pattern.groups) 18446744073709551615 =
    c.in_ok-slots.ensures ∙ ap (λ (n : ℕ). replicate (2 * n) 18446744073709551615) is.groups in
    let count : length c.deref_mut.result.now ≡ 2 * length pattern.groups =
    ap length (c.deref_mut.ensures.value ∙ unset) ∙ length-replicate {A = ℕ} (2 * length pattern.groups) 18446744073709551615 in
    let as_many : length c.walk_along.new.slots ≡ vector.len =
    omega (arith, t.count_is, ap length c.deref_mut.ensures.value, vector.ok.0) in
    let kept = refilled vector.len c.walk_along.new.slots vector.items as_many in
    let start = c.in-Some.start in
    let end = c.in-Some.end in
    let some : self.whole ≡ true → 1 ≤ length c.deref_mut.result.now =
    λ whole. let groups = groups_with_span pattern is.states.of_tree (sym is.whole ∙ whole) in omega (arith, groups, count) in
    let places = c.places.ensures (λ whole.
    subst (λ (xs : List ℕ). IsCharBoundary c.args.text.now (reset_start start xs)) (sym kept) (t.boundary (sym is.whole ∙ whole) (some whole))) in
    ap Some (places ∙ ap₂ (λ (whole : Bool) (xs : List ℕ). told_slots whole start end xs) is.whole kept) ∙ sym (t.groups count)

pub returns-clause-at_most : goal.returns-clause-at_most
returns-clause-at_most c first low = c.in_ok-walk_along.ensures.at_most first c.args.steps.now (c.in_ok-found.ensures.at_most first low)
