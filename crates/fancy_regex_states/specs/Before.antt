-- The characters after which a match can begin.
use Rattle.std.specs.Prelude.{◌≡◌, ◌<◌, ◌≤◌, ℕ, Bool, true, false, not, ◌&&◌, ◌||◌, ◌==◌, ◌⊎◌, List, Option, Some, None, slice_index_or}
use Rattle.fancy_regex_class.specs.declared.class.CharClassMatcher.{CharClassMatcher}
use Rattle.fancy_regex_states.specs.CharTests.{leaf_matches_char}
use Rattle.fancy_regex_states.specs.First.{state_at}
use Rattle.fancy_regex_states.specs.declared.atom.Test.{Test}
use Rattle.fancy_regex_states.specs.declared.atom.Test.TheVariants.{StartText, StartLine, LookBehind, LookBehindNeg}
use Rattle.fancy_regex_states.specs.declared.state.State.{State}
use Rattle.fancy_regex_states.specs.declared.state.State.TheVariants.{Split, Enter, Leave, Ask, Atomic, Match}
use Rattle.fancy_regex_states.specs.declared.state.State.TheVariants as S

-- the character that is meant: this one, or where none is given, any that is not ASCII
abbrev pub IsMeant : Option ℕ → ℕ → Type 0
IsMeant (Some b) c = c ≡ b
IsMeant None c = 128 ≤ c

-- whether the test may hold after the character, whatever stands after that
abbrev pub may_pass : Bool → List CharClassMatcher → Test → ℕ → Bool
may_pass unicode matchers StartText c = false
may_pass unicode matchers (StartLine crlf) c = c == 10 || (crlf && c == 13)
may_pass unicode matchers (LookBehind leaf) c = leaf_matches_char unicode matchers leaf c
may_pass unicode matchers (LookBehindNeg leaf) c = not (leaf_matches_char unicode matchers leaf c)
may_pass unicode matchers _ c = true

-- the state leads to the state of this number without reading, after the character
abbrev pub LeadsAfter : Bool → List CharClassMatcher → ℕ → State → ℕ → Type 0
LeadsAfter unicode matchers c (S.Read leaf next) p = ⊥
LeadsAfter unicode matchers c (S.Look check next) p = (may_pass unicode matchers check c ≡ true) × (p ≡ next)
LeadsAfter unicode matchers c (S.Back next) p = ⊥
LeadsAfter unicode matchers c (Split first second) p = (p ≡ first) ⊎ (p ≡ second)
LeadsAfter unicode matchers c (Enter g next) p = p ≡ next
LeadsAfter unicode matchers c (Leave g next) p = p ≡ next
LeadsAfter unicode matchers c (Ask part negated next) p = p ≡ next
LeadsAfter unicode matchers c (Atomic part same moved) p = p ≡ part
LeadsAfter unicode matchers c Match p = ⊥

-- the states that the entry leads to without reading, after the character
pub data ReachesAfter (unicode : Bool) (matchers : List CharClassMatcher) (states : List State) (entry c : ℕ) : ℕ → Type 0 where
  here : ReachesAfter unicode matchers states entry c entry
  onward : (q p : ℕ) → ReachesAfter unicode matchers states entry c q → LeadsAfter unicode matchers c (state_at states q) p
      → ReachesAfter unicode matchers states entry c p

-- the state neither reads nor steps back nor is final: it only leads on
abbrev pub OnlyLeadsOn : State → Type 0
OnlyLeadsOn (S.Read leaf next) = ⊥
OnlyLeadsOn (S.Back next) = ⊥
OnlyLeadsOn Match = ⊥
OnlyLeadsOn _ = Unit {0}

-- no match that begins at the entry begins after this character
abbrev pub CannotBeginAfter : Bool → List CharClassMatcher → List State → ℕ → ℕ → Type 0
CannotBeginAfter unicode matchers states entry c = (q : ℕ) → ReachesAfter unicode matchers states entry c q → OnlyLeadsOn (state_at states q)

-- no match begins after an ASCII character that is marked, nor after any other character
pub record RefusesAfter (unicode : Bool) (matchers : List CharClassMatcher) (states : List State) (entry : ℕ) (marks : List Bool) : Type 0 where
  pub ascii : (c : ℕ) → c < 128 → slice_index_or marks c false ≡ true → CannotBeginAfter unicode matchers states entry c
  pub wide : (c : ℕ) → 128 ≤ c → CannotBeginAfter unicode matchers states entry c
