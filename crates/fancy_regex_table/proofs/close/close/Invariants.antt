use Rattle.fancy_regex_table.proofs.CloseLemmas.{IsSoFar}
use Rattle.fancy_regex_table.proofs.close.close.Given as goal

abbrev pub invariant-states : goal.invariant-states
invariant-states l = IsSoFar l.fn.states l.fn.before l.fn.after l.fn.from l.seen l.stack.items l.reads.items
