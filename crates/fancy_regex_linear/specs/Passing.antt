-- The characters at which starts are passed over.
use Rattle.std.specs.Prelude.{◌≡◌, ◌⊎◌, ◌-◌, ◌<◌, ◌≤◌, ℕ, List, Bool, true, false, Option, Some, None, slice_index_or, length}
use Rattle.fancy_regex_class.specs.declared.class.CharClassMatcher.{CharClassMatcher}
use Rattle.fancy_regex_states.specs.First.{RefusesWide}
use Rattle.fancy_regex_states.specs.declared.state.State.{State}
use Rattle.fancy_regex_stops.specs.Stops.{IsMarkedAt, IsPairAt}

-- these marks, or none where they are not known
abbrev pub HasMarksOf : Option (List Bool) → List Bool → Type 0
HasMarksOf (Some known) marks = marks ≡ known
HasMarksOf None marks = (c : ℕ) → slice_index_or marks c false ≡ false

-- if it is said that no match begins with a character that is not ASCII, then it is so
abbrev pub RefusesWideIf : Bool → Bool → List CharClassMatcher → List State → ℕ → Type 0
RefusesWideIf wide unicode matchers states entry = wide ≡ true → RefusesWide unicode matchers states entry

-- an ASCII character stands at the byte offset, or the end of the bytes, or else no other character is passed over
abbrev pub IsStop : List ℕ → Bool → ℕ → Type 0
IsStop bytes wide at = at < length bytes → (slice_index_or bytes at 0 < 128) ⊎ (wide ≡ false)

-- the bytes from one offset up to another are of characters that are passed over
pub record IsPassedUntil (bytes : List ℕ) (marks : List Bool) (wide : Bool) (from at : ℕ) : Type 0 where
  pub range : (from ≤ at) × (at ≤ length bytes)
  pub passed : (i : ℕ) → from ≤ i → i < at → IsMarkedAt bytes marks wide i
  pub stop : IsStop bytes wide at

-- they are, or they stand before characters that are second in no match
pub record ArePairsUntil (bytes : List ℕ) (marks : List Bool) (wide : Bool) (others : List Bool) (from at : ℕ) : Type 0 where
  pub range : (from ≤ at) × (at ≤ length bytes)
  pub passed : (i : ℕ) → from ≤ i → i < at → IsPairAt bytes marks wide others i
  pub stop : IsStop bytes wide at

-- the places from one offset up to another come after bytes that are passed over, or pairs of one and the byte at the place
pub record AreAfterPairsUntil (bytes : List ℕ) (marks : List Bool) (wide : Bool) (others : List Bool) (from at : ℕ) : Type 0 where
  pub range : (from ≤ at) × (at ≤ length bytes)
  pub first : from ≡ 0 → at ≡ 0
  pub passed : (i : ℕ) → from ≤ i → i < at → IsPairAt bytes marks wide others (i - 1)
  pub stop : (at ≡ from) ⊎ (at ≡ length bytes) ⊎ (slice_index_or bytes (at - 1) 0 < 128) ⊎ (wide ≡ false)
