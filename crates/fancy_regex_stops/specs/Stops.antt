-- Bytes that a search passes over.
use Rattle.std.specs.Prelude.{◌≡◌, ◌<◌, ◌≤◌, ◌+◌, ◌⊎◌, ℕ, List, Bool, true, false, length, slice_index_or}
use Rattle.fancy_regex_stops.specs.Gaps.{gap_in}
use Rattle.fancy_regex_stops.specs.declared.stops.Stops.{Stops}

-- the three ranges are one
abbrev pub IsSingle : Stops → Type 0
IsSingle stops = (stops.second ≡ stops.first) × (stops.third ≡ stops.first)

-- each ASCII character that has a gap is marked
abbrev pub AreCovered : Stops → List Bool → Type 0
AreCovered stops marks = (c : ℕ) → c < 128 → 0 < gap_in stops c → slice_index_or marks c false ≡ true

-- each ASCII character that has a gap is marked, and the limit is a byte above 128 only if all other characters are passed over
pub record Covers (stops : Stops) (marks : List Bool) (wide : Bool) : Type 0 where
  pub byte : stops.limit < 256
  pub ascii : (c : ℕ) → c < 128 → 0 < gap_in stops c → slice_index_or marks c false ≡ true
  pub others : 128 < stops.limit → wide ≡ true

-- the same, where characters of up to three bytes alone are passed over beside ASCII characters
pub record CoversShort (stops : Stops) (marks : List Bool) (short : Bool) : Type 0 where
  pub most : stops.limit ≤ 240
  pub ascii : AreCovered stops marks
  pub others : 128 < stops.limit → short ≡ true

-- the byte of an ASCII character that is marked, or of another character, if these are passed over
abbrev pub IsMarked : List Bool → Bool → ℕ → Type 0
IsMarked marks wide c = ((c < 128) × (slice_index_or marks c false ≡ true)) ⊎ ((128 ≤ c) × (wide ≡ true))

-- The byte of an ASCII character that is marked, or one from 128 to 239, if these are passed over. From the beginning of a character on
-- those are the bytes of the characters of two and three bytes.
abbrev pub IsShort : List Bool → Bool → ℕ → Type 0
IsShort marks short c = ((c < 128) × (slice_index_or marks c false ≡ true)) ⊎ ((128 ≤ c) × (c < 240) × (short ≡ true))

-- the same of the byte at this place
abbrev pub IsShortAt : List ℕ → List Bool → Bool → ℕ → Type 0
IsShortAt bytes marks short i = IsShort marks short (slice_index_or bytes i 0)

-- such a byte stands at i
abbrev pub IsMarkedAt : List ℕ → List Bool → Bool → ℕ → Type 0
IsMarkedAt bytes marks wide i = IsMarked marks wide (slice_index_or bytes i 0)

-- the byte of an ASCII character stands at i that is before one that is marked by the others
pub record IsBeforeMarked (bytes : List ℕ) (others : List Bool) (i : ℕ) : Type 0 where
  pub inside : i + 1 < length bytes
  pub ascii : slice_index_or bytes i 0 < 128
  pub next : (slice_index_or bytes (i + 1) 0 < 128) × (slice_index_or others (slice_index_or bytes (i + 1) 0) false ≡ true)

-- a byte stands at i that is marked, or is before one that is marked by the others
abbrev pub IsPairAt : List ℕ → List Bool → Bool → List Bool → ℕ → Type 0
IsPairAt bytes marks wide others i = IsMarkedAt bytes marks wide i ⊎ IsBeforeMarked bytes others i

-- the byte of an ASCII character stands at i that is before one that is marked by the others, or before one that is not ASCII
pub record IsBeforeOther (bytes : List ℕ) (others : List Bool) (i : ℕ) : Type 0 where
  pub inside : i + 1 < length bytes
  pub ascii : slice_index_or bytes i 0 < 128
  pub next : IsMarkedAt bytes others true (i + 1)

-- a byte stands at i that is marked, or one from 128 to 239, if these are passed over, or one before one that is marked by the others
abbrev pub IsShortPairAt : List ℕ → List Bool → Bool → List Bool → ℕ → Type 0
IsShortPairAt bytes marks short others i = IsShortAt bytes marks short i ⊎ IsBeforeOther bytes others i
