use Rattle.std.proofs.Common.{◌<◌, ℕ}
use Rattle.fancy_regex_states.specs.First.{state_at}
use Rattle.fancy_regex_table.specs.Sorts.{IsAsked}
use Rattle.fancy_regex_table.proofs.sort.asked_by.Given as goal

abbrev pub invariant-loop-i : goal.invariant-loop-i
invariant-loop-i l = (q : ℕ) → q < l.i → IsAsked l.asked (state_at l.states q)
