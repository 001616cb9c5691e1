-- Lists of writes that share their ends.
use Rattle.std.specs.Prelude.{◌≡◌, ◌^◌, ◌<◌, ◌≤◌, ◌⊎◌, ℕ, List, [], ◌∷◌, ◌++◌, length, Option, Some, None, slice_index_or, slice_set}
use Rattle.fancy_regex_parts.specs.declared.writes.Write.{Write}

-- the slots after these writes
unfoldable pub apply : List (ℕ × ℕ) → List ℕ → List ℕ
apply [] slots = slots
apply (w ∷ ws) slots = apply ws (slice_set slots w.0 w.1)

-- these writes leave the same slots as those
abbrev pub SameWrites : List (ℕ × ℕ) → List (ℕ × ℕ) → Type 0
SameWrites ws others = (slots : List ℕ) → length slots < 2 ^ 63 → apply ws slots ≡ apply others slots

-- one of these writes is of this slot
abbrev pub IsWritten : ℕ → List (ℕ × ℕ) → Type 0
IsWritten slot [] = ⊥
IsWritten slot (w ∷ ws) = (w.0 ≡ slot) ⊎ IsWritten slot ws

abbrev pub pair_of : Write → ℕ × ℕ
pair_of w = (w.slot, w.at)

-- what these write
unfoldable pub pairs_of : List Write → List (ℕ × ℕ)
pairs_of [] = []
pairs_of (w ∷ ws) = pair_of w ∷ pairs_of ws

-- all lists by their numbers, where these are the lists of the writes before
unfoldable pub tabled : List (List (ℕ × ℕ)) → List Write → List (List (ℕ × ℕ))
tabled lists [] = lists
tabled lists (w ∷ ws) = tabled (lists ++ (pair_of w ∷ slice_index_or lists w.rest []) ∷ []) ws

-- the list of this number
unfoldable pub list_of : List Write → ℕ → List (ℕ × ℕ)
list_of writes number = slice_index_or (tabled ([] ∷ []) writes) number []

-- this is the first write of the list of this number, with the number of that of the others
abbrev pub IsFirst : List Write → ℕ → Option Write → Type 0
IsFirst writes number None = list_of writes number ≡ []
IsFirst writes number (Some w) = (w.rest < number) × (list_of writes number ≡ pair_of w ∷ list_of writes w.rest)

-- the lists are still there
pub record IsExtended (old new : List Write) : Type 0 where
  pub more : length old ≤ length new
  pub same : (k : ℕ) → k ≤ length old → list_of new k ≡ list_of old k
