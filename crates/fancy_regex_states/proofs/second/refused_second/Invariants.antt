use Rattle.fancy_regex_states.proofs.SecondLemmas.{RefuseAfter}
use Rattle.fancy_regex_states.proofs.second.refused_second.Given as goal

abbrev pub invariant-loop-i : goal.invariant-loop-i
invariant-loop-i l = RefuseAfter l.unicode l.matchers l.states l.reached.items l.refused l.i
