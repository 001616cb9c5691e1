use Rattle.std.proofs.Common.{◌≡◌, ◌∙◌, ℕ, List, Some, ap, sym}
use Rattle.std.specs.Prelude.{slice_index}
use Rattle.fancy_regex_search.proofs.capture_matches.CaptureMatchesIterator.next.Goals as goal

pub returns-in-Ok-clause-steps : goal.returns-in-Ok-clause-steps
returns-in-Ok-clause-steps g c =
    let groups = c.args.self.now.groups in
    let told = c.in_ok-found.ensures in
    let gives = rw (groups, c.in-Ok.is) at told.gives in
    let within = rw (groups, c.in-Ok.is) at told.within in
    let limits = rw c.in-Ok.is at told.limits in
    let leaves = rw c.in-Ok.is at told.leaves in
    let slots = ap (λ w. w.items) c.new.ensures.slots in (
      (gives.0, gives.1, slots ∙ gives.2.2),
      (c.new.ensures.haystack ∙ c.haystack-haystack.ensures, c.new.ensures.regex),
      told.onward.grows,
      told.same.0,
      told.same.1,
      told.onward.config,
      tt,
      limits.passes,
      leaves.ends,
      leaves.keeps ∙ ap (λ (k : ℕ). Some k) (sym within.second ∙ ap (λ (xs : List ℕ). slice_index xs 1) (sym slots)),
      limits.stays,
      limits.returns,
    )
