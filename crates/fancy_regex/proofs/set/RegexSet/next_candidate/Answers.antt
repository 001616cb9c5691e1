use Rattle.fancy_regex.proofs.set.RegexSet.next_candidate.Goals as goal

pub returns-in-Some : goal.returns-in-Some
returns-in-Some c = rw c.next.ensures (c.args.self.now.passes c.in-Some.table c.in-Some.is c.args.byte c.args.from)
