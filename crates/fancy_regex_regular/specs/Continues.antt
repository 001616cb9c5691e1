-- Which states ask for the place where a search continues.
use Rattle.std.specs.Prelude.{◌≡◌, ◌<◌, ℕ, Bool, true, false, List, length}
use Rattle.fancy_regex_states.specs.First.{state_at}
use Rattle.fancy_regex_states.specs.declared.atom.Test.{Test}
use Rattle.fancy_regex_states.specs.declared.atom.Test.TheVariants.{Continue}
use Rattle.fancy_regex_states.specs.declared.state.State.{State}
use Rattle.fancy_regex_states.specs.declared.state.State.TheVariants as S

-- whether the assertion is `\G`
abbrev pub is_continue : Test → Bool
is_continue Continue = true
is_continue _ = false

-- whether the state is `\G`
abbrev pub asks_place : State → Bool
asks_place (S.Look check next) = is_continue check
asks_place _ = false

-- none of these states is `\G`
abbrev pub AskNoPlace : List State → Type 0
AskNoPlace states = (q : ℕ) → q < length states → asks_place (state_at states q) ≡ false
