use Rattle.std.proofs.Common.{ℕ, arith}
use Rattle.fancy_regex_class.proofs.SkipLemmas.{below_next}
use Rattle.fancy_regex_stops.specs.Stops.{IsMarkedAt}
use Rattle.fancy_regex_linear.proofs.passing.Passing.bytes_until.Goals as goal

pub returns-then-not-is_passed : goal.returns-then-not-is_passed
returns-then-not-is_passed c = record {
  range = c.bytes.invariant.range;
  passed = c.bytes.invariant.passed;
  stop = λ _. c.is_passed.ensures.stop c.if-not-is_passed.true;
}

pub bytes-preserved : goal.bytes-preserved
bytes-preserved c = record {
  range = (omega (arith, c.bytes.invariant.range), omega (arith, c.bytes-test.true));
  passed = below_next (λ (i : ℕ). IsMarkedAt c.args.bytes.now c.args.self.now.first c.args.self.now.wide i) c.args.from c.bytes.at
      c.bytes.invariant.passed (c.is_passed.ensures.passed c.if-not-is_passed.false);
}

pub returns : goal.returns
returns c = record {
  range = c.bytes.invariant.range;
  passed = c.bytes.invariant.passed;
  stop = λ inside. absurd (omega (arith, inside, c.bytes-test.false));
}
