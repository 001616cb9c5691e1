use Rattle.fancy_regex_table.proofs.table.Table.ended.Goals as goal

pub returns-in-Next-clause-passed : goal.returns-in-Next-clause-passed
returns-in-Next-clause-passed c parts s table after next stands tells = c.unknown.ensures.passed parts s table stands
