-- A haystack whose reads are counted.
use Rattle.std.specs.Prelude.{◌≡◌, ◌<◌, ◌≤◌, ℕ, Bool, true, false, List, Some, slice_index_or}
use Rattle.regex_hir.specs.Text.{char_at}
use Rattle.fancy_regex_class.specs.declared.counted.Counted.{Counted}
use Rattle.fancy_regex_class.specs.declared.skip.Blocks.{Blocks}
use Rattle.fancy_regex_class.specs.declared.skip.Blocks.TheVariants.{EndAt, LeaveFrom}

-- the bytes of the haystack
abbrev pub looked_text : Counted → List ℕ
looked_text c = c.text.now

-- the number of reads so far
abbrev pub look_count : Counted → ℕ
look_count c = c.steps.now

-- both add to the same counter
abbrev pub SameCounter : Counted → Counted → Type 0
SameCounter a b = b.steps.ghost_name ≡ a.steps.ghost_name

-- an ASCII character stands at i that is marked
abbrev pub HasMarkedAscii : List ℕ → List Bool → ℕ → Type 0
HasMarkedAscii text marks i = (c : ℕ) × (c < 128) × (char_at text i ≡ Some c) × (slice_index_or marks c false ≡ true)

-- the byte of an ASCII character stands at i that is marked
abbrev pub HasMarkedByte : List ℕ → List Bool → ℕ → Type 0
HasMarkedByte bytes marks i = (slice_index_or bytes i 0 < 128) × (slice_index_or marks (slice_index_or bytes i 0) false ≡ true)

-- the bytes of marked ASCII characters stand from `from` on, up to this place
pub record IsMarkedUntil (bytes : List ℕ) (marks : List Bool) (from end at : ℕ) : Type 0 where
  pub range : (from ≤ at) × (at ≤ end)
  pub passed : (i : ℕ) → from ≤ i → i < at → HasMarkedByte bytes marks i

abbrev pub IsBlocksUntil : List ℕ → List Bool → ℕ → ℕ → Blocks → Type 0
IsBlocksUntil bytes marks from end (EndAt at) = IsMarkedUntil bytes marks from end at
IsBlocksUntil bytes marks from end (LeaveFrom at) = IsMarkedUntil bytes marks from end at
