use Rattle.std.proofs.Common.{◌<◌, ℕ}
use Rattle.fancy_regex_states.specs.First.{state_at}
use Rattle.fancy_regex_table.specs.Alphabets.{HasLeaf}
use Rattle.fancy_regex_table.proofs.alphabet.leaves_of.Given as goal

abbrev pub invariant-loop-i : goal.invariant-loop-i
invariant-loop-i l = (q : ℕ) → q < l.i → HasLeaf l.leaves.items (state_at l.states q)
