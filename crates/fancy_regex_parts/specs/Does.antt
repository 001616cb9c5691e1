-- What states with parts do.
use Rattle.std.specs.Prelude.{◌≡◌, ◌⊎◌, ◌<◌, ℕ, List, length, if◌then◌else◌}
use Rattle.fancy_regex_states.specs.Attempts.{View, Continuation, accept, failed, Agrees}
use Rattle.fancy_regex_states.specs.First.{state_at}
use Rattle.fancy_regex_states.specs.declared.state.State.{State}
use Rattle.fancy_regex_states.specs.declared.state.State.TheVariants.{Match}
use Rattle.fancy_regex_parts.specs.Ways.{admits}
use Rattle.fancy_regex_parts.specs.declared.step.EndRange.{EndRange}

-- accepts in the range
abbrev pub accept_in : EndRange → Continuation
accept_in range i = if admits range i then accept i else failed

-- The states do what `go` says in a text of this length; the pattern's own final state, state 0, accepts in the range.
pub record DoWhat (view : View) (len : ℕ) (range : EndRange) (states : List State) (go : ℕ → Continuation) : Type 0 where
  pub zero : go 0 ≡ accept_in range
  pub final : state_at states 0 ≡ Match
  pub agree : (q : ℕ) → q < length states → (q ≡ 0) ⊎ Agrees view len go (length states) q (state_at states q)
