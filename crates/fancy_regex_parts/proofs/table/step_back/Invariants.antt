use Rattle.std.proofs.Common.{◌≡◌, ℕ, ◌<◌, false}
use Rattle.fancy_regex_states.specs.First.{state_at}
use Rattle.fancy_regex_parts.specs.Tables.{steps_back}
use Rattle.fancy_regex_parts.proofs.table.step_back.Given as goal

abbrev pub invariant-loop-q : goal.invariant-loop-q
invariant-loop-q l = (q : ℕ) → q < l.q → steps_back (state_at l.states q) ≡ false
