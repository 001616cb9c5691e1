use Rattle.fancy_regex_linear.proofs.passing.Passing.pairs_from.Goals as goal

pub returns-in-Some-clause-passed : goal.returns-in-Some-clause-passed
returns-in-Some-clause-passed c =
    c.pairs_until.ensures.passed c.args.self.now.first c.args.self.now.second c.args.self.now.wide c.requires.covers
    (c.args.self.now.second_covered c.in-Some.second_stops c.in-Some.is)
