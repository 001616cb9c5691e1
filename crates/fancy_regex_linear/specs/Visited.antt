-- The set of pairs of a state and a place that were looked at.
use Rattle.std.specs.Prelude.{◌≡◌, ℕ, ◌+◌, ◌-◌, ◌*◌, ◌/◌, ◌%◌, ◌<◌, ◌≤◌, ◌⊎◌, ◌==◌, Bool, true, false, List, map, slice_index, slice_index_or, count_by}
use Rattle.std.specs.List.{range_with_len}
use Rattle.std.specs.Int.{bit_at}
use Rattle.fancy_regex_linear.specs.declared.visited.Visited.{Visited}

-- Rows of `width` words hold a bit for each of `count` states: the flag of the state k % count in the row k / count.
abbrev pub flag_at : ℕ → ℕ → List ℕ → ℕ → Bool
flag_at count width words k = bit_at (slice_index words ((k / count) * width + (k % count) / 64)) ((k % count) % 64) == 1

unfoldable pub flags : ℕ → ℕ → ℕ → List ℕ → List Bool
flags count width rows words = map (flag_at count width words) (range_with_len 0 (rows * count))

-- a flag for each state of each row
abbrev pub flags_of : Visited → List Bool
flags_of v = flags v.count v.width v.rows v.words.items

-- the pair is in the set
unfoldable pub Has : Visited → ℕ → ℕ → Type 0
Has v q i = (q < v.count) × (v.base ≤ i) × (slice_index_or (flags_of v) ((i - v.base) * v.count + q) false ≡ true)

-- how many pairs are in the set
unfoldable pub pair_count : Visited → ℕ
pair_count v = count_by (λ b. b) (flags_of v)

-- the pairs of all offsets before the first row, and those in the set: a bound on how many were ever added
abbrev pub visited_bound : Visited → ℕ
visited_bound v = v.base * v.count + pair_count v

-- `after` holds what `before` does, and perhaps (q, i)
abbrev pub Adds : (ℕ → ℕ → Type 0) → (ℕ → ℕ → Type 0) → ℕ → ℕ → Type 0
Adds before after q i = (p j : ℕ) → after p j → before p j ⊎ ((p ≡ q) × (j ≡ i))

-- the set is as it was
pub record IsSame (old new : Visited) : Type 0 where
  pub pairs : (p j : ℕ) → Has new p j → Has old p j
  pub pair_count : pair_count new ≡ pair_count old
