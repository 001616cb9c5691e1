-- The characters before starts, by which these are passed over.
use Rattle.std.specs.Prelude.{◌≡◌, ℕ, List, Bool, true, Option, Some, None}
use Rattle.fancy_regex_class.specs.declared.class.CharClassMatcher.{CharClassMatcher}
use Rattle.fancy_regex_states.specs.Before.{RefusesAfter}
use Rattle.fancy_regex_states.specs.declared.state.State.{State}
use Rattle.fancy_regex_linear.specs.declared.passing.Passing.{Passing}

-- these marks of characters before starts, with those of first characters beside them
abbrev pub HasMarksBefore : Option (List Bool) → List Bool → Passing → Type 0
HasMarksBefore (Some marks) firsts passing = (passing.first ≡ marks) × (passing.wide ≡ true) × (passing.second ≡ firsts)
HasMarksBefore None firsts passing = ⊥

-- no match begins after the characters that are marked, nor after one that is not ASCII; the second marks are these first ones
pub record IsBeforeOf (unicode : Bool) (matchers : List CharClassMatcher) (states : List State) (entry : ℕ) (firsts : List Bool) (passing : Passing) : Type 0 where
  pub refuses : ∥ RefusesAfter unicode matchers states entry passing.first ∥₁
  pub wide : passing.wide ≡ true
  pub second : passing.second ≡ firsts
