use Rattle.std.proofs.Common.{ℕ, arith}
use Rattle.fancy_regex_stops.specs.Stops.{IsMarkedAt}
use Rattle.fancy_regex_linear.proofs.PassingLemmas.{and_after}
use Rattle.fancy_regex_linear.proofs.passing.Passing.first_until.Goals as goal

pub returns-then-is_stop : goal.returns-then-is_stop
returns-then-is_stop c = record {
  range = c.until-at.ensures.range;
  passed = c.until-at.ensures.passed c.args.self.now.first c.args.self.now.wide (c.args.self.now.first_covered c.in-Some.stops c.in-Some.is);
  stop = λ _. c.is_stop.ensures c.if-is_stop.true;
}

pub returns : goal.returns
returns c =
    let rest = c.bytes_until.ensures in
    record {
      range = (omega (arith, c.until-at.ensures.range, rest.range), rest.range.1);
      passed = and_after (λ (i : ℕ). IsMarkedAt c.args.bytes.now c.args.self.now.first c.args.self.now.wide i) c.args.from c.until-at.result c.bytes_until.result
          (c.until-at.ensures.passed c.args.self.now.first c.args.self.now.wide (c.args.self.now.first_covered c.in-Some.stops c.in-Some.is)) rest.passed;
      stop = rest.stop;
    }
