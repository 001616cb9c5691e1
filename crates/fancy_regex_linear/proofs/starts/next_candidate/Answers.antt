use Rattle.std.proofs.Common.{arith}
use Rattle.fancy_regex_linear.proofs.starts.next_candidate.Goals as goal

pub returns-clause-passed : goal.returns-clause-passed
returns-clause-passed c i low high = record {
  many = c.if-anchored.false;
  not_first = omega (arith, c.if-at-eq0.false, low);
  refused = c.pass_refused.ensures.passed i low high;
}
