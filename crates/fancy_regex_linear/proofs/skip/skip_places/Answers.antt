use Rattle.std.proofs.Common.{arith, inl}
use Rattle.fancy_regex_linear.proofs.skip.skip_places.Goals as goal

pub returns-clause-passed : goal.returns-clause-passed
returns-clause-passed c i low high = inl (c.pass_pairs.ensures.passed i low high)

pub returns-in-Before-clause-at_least : goal.returns-in-Before-clause-at_least
returns-in-Before-clause-at_least c = omega (arith, c.skip_before_or_refused.ensures.ticked)

pub returns-in-Before-clause-at_most : goal.returns-in-Before-clause-at_most
returns-in-Before-clause-at_most c = omega (arith, c.skip_before_or_refused.ensures.ticked)
