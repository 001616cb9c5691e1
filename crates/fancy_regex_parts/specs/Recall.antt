-- What is known of pairs of a marked state and a place.
use Rattle.std.specs.Prelude.{◌≡◌, ◌+◌, ◌-◌, ◌*◌, ◌≤◌, ℕ, List, [], ◌∷◌, cond, nat_lt, slice_index_or}
use Rattle.fancy_regex_parts.specs.declared.recall.Recall.{Recall}
use Rattle.fancy_regex_parts.specs.declared.recall.Known.{Known}
use Rattle.fancy_regex_parts.specs.declared.recall.Known.TheVariants.{New, Fails, Ends}

-- the cell of this number, 0 where there is none
abbrev pub cell : Recall → ℕ → ℕ
cell r k = slice_index_or r.cells.items k 0

-- the number of the cell of a mark at a place
abbrev pub cell_number : Recall → ℕ → ℕ → ℕ
cell_number r mark at = (at - r.base) * r.width + mark

-- what a cell with this value counts for, where one of which something is known counts for this much
abbrev pub if_known : ℕ → ℕ → ℕ
if_known value weight = cond (nat_lt 0 value) weight 0

-- the weights of these cells of which something is known, where the first of them has the number k
unfoldable pub weighed : (ℕ → ℕ) → ℕ → List ℕ → ℕ
weighed weight k [] = 0
weighed weight k (value ∷ rest) = if_known value (weight k) + weighed weight (k + 1) rest

-- the weights of all pairs of which something is known
abbrev pub known_weight : (ℕ → ℕ) → Recall → ℕ
known_weight weight r = weighed weight 0 r.cells.items

-- nothing else is known
pub record IsSame (old new : Recall) : Type 0 where
  pub width : new.width ≡ old.width
  pub base : new.base ≡ old.base
  pub cells : (k : ℕ) → cell new k ≡ cell old k
  pub weight : (w : ℕ → ℕ) → known_weight w new ≡ known_weight w old

-- of the pair of this cell nothing was known, and now it has no way
pub record IsOpened (old new : Recall) (k : ℕ) : Type 0 where
  pub width : new.width ≡ old.width
  pub base : new.base ≡ old.base
  pub was : cell old k ≡ 0
  pub now : cell new k ≡ 1
  pub others : (j : ℕ) → ¬ (j ≡ k) → cell new j ≡ cell old j
  pub weight : (w : ℕ → ℕ) → known_weight w new ≡ known_weight w old + w k

-- what is known of the pair of the cell k, which is known from then on
abbrev pub IsKnown : Recall → Recall → ℕ → Known → Type 0
IsKnown old new k (New number) = (number ≡ k) × IsOpened old new k
IsKnown old new k Fails = (cell old k ≡ 1) × IsSame old new
IsKnown old new k (Ends e) = (cell old k ≡ e + 2) × IsSame old new

-- where something was known of the pair of the cell k, its way ends there now
pub record IsStored (old new : Recall) (k end : ℕ) : Type 0 where
  pub width : new.width ≡ old.width
  pub base : new.base ≡ old.base
  pub stored : 1 ≤ cell old k → cell new k ≡ end + 2
  pub unknown : cell old k ≡ 0 → cell new k ≡ 0
  pub others : (j : ℕ) → ¬ (j ≡ k) → cell new j ≡ cell old j
  pub weight : (w : ℕ → ℕ) → known_weight w new ≡ known_weight w old
