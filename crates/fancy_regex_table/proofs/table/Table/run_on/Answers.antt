use Rattle.fancy_regex_table.proofs.table.Table.run_on.Goals as goal

pub returns-then-as_bytes-place-ge128-clause-stands : goal.returns-then-as_bytes-place-ge128-clause-stands
returns-then-as_bytes-place-ge128-clause-stands c parts rules s table search same text stop here =
    c.run_wide.ensures.stands parts rules s table search same text stop (c.run_attempts-place.ensures.stands parts rules s table search text stop here)

pub returns-clause-stands : goal.returns-clause-stands
returns-clause-stands c parts rules s table search same text stop here = c.run_attempts-place.ensures.stands parts rules s table search text stop here
