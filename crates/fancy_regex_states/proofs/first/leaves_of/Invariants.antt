use Rattle.fancy_regex_states.proofs.FirstLemmas.{AreAmong}
use Rattle.fancy_regex_states.proofs.first.leaves_of.Given as goal

abbrev pub invariant-loop-i : goal.invariant-loop-i
invariant-loop-i l = AreAmong l.states l.numbers l.leaves.items l.i
