use Rattle.std.proofs.Common.{ℕ, ◌<◌, length}
use Rattle.fancy_regex_states.specs.Attempts.{NamesBelow}
use Rattle.fancy_regex_states.specs.First.{state_at}
use Rattle.fancy_regex_parts.proofs.table.are_closed.Given as goal

abbrev pub invariant-loop-q : goal.invariant-loop-q
invariant-loop-q l = (q : ℕ) → q < l.q → NamesBelow (length l.states) (state_at l.states q)
