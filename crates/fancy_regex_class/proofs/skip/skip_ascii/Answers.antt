use Rattle.std.proofs.Common.{◌≡◌, ◌+◌, ◌-◌, ◌<◌, ◌≤◌, ◌∙◌, ℕ, subst, arith, IsCharBoundary}
use Rattle.fancy_regex_class.specs.Looks.{looked_text, HasMarkedAscii}
use Rattle.fancy_regex_class.proofs.SkipLemmas.{marked_chars}
use Rattle.fancy_regex_class.proofs.skip.skip_ascii.Goals as goal
use Rattle.fancy_regex_class.proofs.skip.skip_ascii.Goals.{After-marked_until-at}

-- the bytes that were passed over are characters, and after them is a boundary
passed : (c : After-marked_until-at) → ((i : ℕ) → c.args.from ≤ i → i < c.marked_until-at.result → HasMarkedAscii (looked_text c.args.text.now) c.args.marked.now i)
    × IsCharBoundary (looked_text c.args.text.now) c.marked_until-at.result
passed c =
    let text = looked_text c.args.text.now in
    let at : ℕ = c.marked_until-at.result in
    let from : ℕ = c.args.from in
    let is : c.as_bytes.result.now ≡ text = c.as_bytes.ensures.value ∙ c.text.ensures in
    let until = rw is at c.marked_until-at.ensures.until in
    let inside = rw is at c.marked_until-at.ensures.inside in
    let place : from + (at - from) ≡ at = omega (arith, until.range.0) in
    let both = marked_chars text c.args.marked.now from (at - from) (rw c.text.ensures at c.text.utf8) c.requires.boundary (omega (arith, place, inside))
    (λ i low high. until.passed i low (omega (arith, high, place))) in
    (λ i low high. both.0 i low (omega (arith, high, place)), subst (λ (k : ℕ). IsCharBoundary text k) place both.1)

pub look-after-requires : goal.look-after-requires
look-after-requires c = rw c.count_places.ensures.text (passed (goal.at.look-after-requires c).After-marked_until-at).1

pub returns-clause-passed : goal.returns-clause-passed
returns-clause-passed c = (passed (goal.at.returns-clause-passed c).After-marked_until-at).0

pub returns-clause-boundary : goal.returns-clause-boundary
returns-clause-boundary c = (passed (goal.at.returns-clause-boundary c).After-marked_until-at).1
