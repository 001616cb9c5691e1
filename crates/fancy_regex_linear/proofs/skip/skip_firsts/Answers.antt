use Rattle.std.proofs.Common.{inl}
use Rattle.fancy_regex_linear.proofs.skip.skip_firsts.Goals as goal

pub returns-clause-place : goal.returns-clause-place
returns-clause-place c =
    let is = c.skip_ascii.ensures in
    record { range = is.range; boundary = is.boundary; after = is.after; next = is.next; text = is.text; same_counter = is.same_counter }

pub returns-clause-passed : goal.returns-clause-passed
returns-clause-passed c i low high = inl (inl (c.skip_ascii.ensures.passed i low high))
