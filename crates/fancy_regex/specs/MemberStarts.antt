-- Which members of a set may match at a place, by what bytes each may start with.
use Rattle.std.specs.Prelude.{◌≡◌, ℕ, ◌+◌, Bool, true, false, List, [], ◌∷◌, drop, Option, Some, None, slice_index_or, if◌then◌else◌}

-- whether a member may match where this byte stands, or at the end of a text, where none does. It may where its bytes are not known.
abbrev pub may_start_with : Option (List Bool) → Option ℕ → Bool
may_start_with None byte = true
may_start_with (Some starts) None = false
may_start_with (Some starts) (Some b) = slice_index_or starts b false

-- the number of the first member that may match, where the first of the list has number k; that after the last if none may
abbrev pub next_member : Option ℕ → ℕ → List (Option (List Bool)) → ℕ
next_member byte k [] = k
next_member byte k (m ∷ ms) = if may_start_with m byte then k else next_member byte (k + 1) ms

-- the row has for each number the next member from it on
abbrev pub IsRow : List (Option (List Bool)) → Option ℕ → List ℕ → Type 0
IsRow members byte row = (k : ℕ) → slice_index_or row k k ≡ next_member byte k (drop k members)
