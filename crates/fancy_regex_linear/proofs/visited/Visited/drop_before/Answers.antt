use Rattle.std.proofs.Common.{refl, arith}
use Rattle.fancy_regex_linear.proofs.VisitedLemmas.{none_has, visited_bound_dropped}
use Rattle.fancy_regex_linear.proofs.visited.Visited.drop_before.Goals as goal

pub returns-then-self-from-clause-pairs : goal.returns-then-self-from-clause-pairs
returns-then-self-from-clause-pairs c q i has = absurd (none_has _ q i refl has)

pub returns-then-self-from-clause-visited_bound : goal.returns-then-self-from-clause-visited_bound
returns-then-self-from-clause-visited_bound c =
    let most = visited_bound_dropped c.args.self.now c.args.from c.requires c.if-self-from.true in
    omega (arith, most)
