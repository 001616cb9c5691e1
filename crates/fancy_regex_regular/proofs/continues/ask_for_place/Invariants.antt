use Rattle.std.proofs.Common.{◌≡◌, ℕ, ◌<◌, false}
use Rattle.fancy_regex_states.specs.First.{state_at}
use Rattle.fancy_regex_regular.specs.Continues.{asks_place}
use Rattle.fancy_regex_regular.proofs.continues.ask_for_place.Given as goal

abbrev pub invariant-loop-q : goal.invariant-loop-q
invariant-loop-q l = (q : ℕ) → q < l.q → asks_place (state_at l.states q) ≡ false
