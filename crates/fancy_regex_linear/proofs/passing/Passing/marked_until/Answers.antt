use Rattle.std.proofs.Common.{◌≡◌, ◌<◌, ◌≤◌, ℕ, arith, inl, inr}
use Rattle.fancy_regex_class.proofs.SkipLemmas.{below_next}
use Rattle.fancy_regex_stops.specs.Stops.{IsPairAt}
use Rattle.fancy_regex_linear.proofs.PassingLemmas.{and_after}
use Rattle.fancy_regex_linear.proofs.passing.Passing.marked_until.Goals as goal
use Rattle.fancy_regex_linear.proofs.passing.Passing.marked_until.Goals.{After-until-stop}

-- the starts up to where the bytes end that are passed over together
up_to : (c : After-until-stop) → (i : ℕ) → c.args.from ≤ i → i < c.until-stop.result
    → IsPairAt c.args.bytes.now c.args.self.now.first c.args.self.now.wide c.args.self.now.second i
up_to c =
    and_after (IsPairAt c.args.bytes.now c.args.self.now.first c.args.self.now.wide c.args.self.now.second) c.args.from c.stops.at c.until-stop.result
    c.stops.invariant.passed
    (λ i low less. inl (c.until-stop.ensures.passed c.args.self.now.first c.args.self.now.wide c.requires.covers i low less))

pub returns-then-bytes-stop-le-TOGETHER-clause-passed : goal.returns-then-bytes-stop-le-TOGETHER-clause-passed
returns-then-bytes-stop-le-TOGETHER-clause-passed c = up_to (goal.at.returns-then-bytes-stop-le-TOGETHER-clause-passed c).After-until-stop

pub returns-then-not-is_before_marked-clause-passed : goal.returns-then-not-is_before_marked-clause-passed
returns-then-not-is_before_marked-clause-passed c = up_to (goal.at.returns-then-not-is_before_marked-clause-passed c).After-until-stop

pub stops-preserved : goal.stops-preserved
stops-preserved c = record {
  range = (omega (arith, c.stops.invariant.range, c.until-stop.ensures.range), omega (arith, c.until-stop.ensures.range, c.if-bytes-stop-le-TOGETHER.false));
  passed = below_next (IsPairAt c.args.bytes.now c.args.self.now.first c.args.self.now.wide c.args.self.now.second) c.args.from c.until-stop.result
      (up_to (goal.at.stops-preserved c).After-until-stop) (inr (c.is_before_marked.ensures c.if-not-is_before_marked.false));
}
