use Rattle.std.proofs.Common.{ℕ, arith, inl}
use Rattle.fancy_regex_stops.specs.Stops.{IsPairAt}
use Rattle.fancy_regex_linear.proofs.PassingLemmas.{and_after}
use Rattle.fancy_regex_linear.proofs.passing.Passing.pairs_until.Goals as goal

pub returns-then-is_stop : goal.returns-then-is_stop
returns-then-is_stop c = record {
  range = c.pairs_from-at.ensures.range;
  passed = c.pairs_from-at.ensures.passed;
  stop = λ _. c.is_stop.ensures c.if-is_stop.true;
}

pub returns : goal.returns
returns c =
    let rest = c.bytes_until.ensures in
    record {
      range = (omega (arith, c.pairs_from-at.ensures.range, rest.range), rest.range.1);
      passed = and_after (λ (i : ℕ). IsPairAt c.args.bytes.now c.args.self.now.first c.args.self.now.wide c.args.self.now.second i)
          c.args.from c.pairs_from-at.result c.bytes_until.result
          c.pairs_from-at.ensures.passed
          (λ i low high. inl (rest.passed i low high));
      stop = rest.stop;
    }

pub pairs_from-at-requires-clause-covers : goal.pairs_from-at-requires-clause-covers
pairs_from-at-requires-clause-covers c = c.args.self.now.first_covered c.in-Some.first_stops c.in-Some.is
