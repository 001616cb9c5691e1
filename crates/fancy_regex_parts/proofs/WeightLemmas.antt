-- What the pairs cost of which something is known: no more than all marked states cost at each place.
use Rattle.std.proofs.Common.{◌≡◌, ◌∙◌, ℕ, zero, suc, ◌+◌, ◌-◌, ◌*◌, ◌<◌, ◌≤◌, Bool, true, false, List, [], ◌∷◌, length, get_or, refl, sym, ap, subst, arith}
use Rattle.std.specs.Prelude.{cond, nat_lt, sum_by}
use Rattle.std.proofs.lemmas.List.Sums.{sum_by-cons}
use Rattle.std.proofs.Math.Nat.{mul-le-mul_left}
use Rattle.fancy_regex_parts.specs.Recall.{cell_number, weighed, IsOpened}
use Rattle.fancy_regex_parts.specs.Tables.{cost_of, cell_cost, known_cost, table_weight}
use Rattle.fancy_regex_parts.specs.declared.recall.Recall.{Recall}
use Rattle.fancy_regex_parts.specs.declared.table.PartTable.{PartTable}
use Rattle.fancy_regex_parts.proofs.RecallLemmas.{place_parts}

-- the weights of n cells, of which the first has the number k
unfoldable all_weights : (ℕ → ℕ) → ℕ → ℕ → ℕ
all_weights w k zero = 0
all_weights w k (suc n) = w k + all_weights w (k + 1) n

if_most : (b : Bool) (weight : ℕ) → cond b weight 0 ≤ weight
if_most true weight = omega arith
if_most false weight = omega arith

weighed_most : (w : ℕ → ℕ) (k : ℕ) (xs : List ℕ) → weighed w k xs ≤ all_weights w k (length xs)
unfolding weighed all_weights
weighed_most w k [] = omega arith
weighed_most w k (x ∷ xs) = omega (arith, weighed_most w (k + 1) xs, if_most (nat_lt 0 x) (w k))

all_append : (w : ℕ → ℕ) (k m n j s : ℕ) → j ≡ k + m → s ≡ m + n → all_weights w k s ≡ all_weights w k m + all_weights w j n
unfolding all_weights
all_append w k zero n j s j_is s_is =
    let here : j ≡ k = omega arith in
    let same : s ≡ n = omega arith in
    rw (here, same) (omega arith)
all_append w k (suc m) n j s j_is s_is =
    let more : s ≡ suc (m + n) = omega arith in
    rw more (omega (arith, all_append w (k + 1) m n j (m + n) (omega arith) refl))

-- the weights of a row are those of the list that they are read from
row_weights : (w cost : ℕ → ℕ) (k : ℕ) (xs : List ℕ) → ((j : ℕ) → j < length xs → w (k + j) ≡ cost (get_or xs j 0))
    → all_weights w k (length xs) ≡ sum_by cost xs
unfolding all_weights
row_weights w cost k [] same = refl
row_weights w cost k (x ∷ xs) same =
    let here : k ≡ k + 0 = omega arith in
    let first : w k ≡ cost x = ap w here ∙ same 0 (omega arith) in
    let rest = row_weights w cost (k + 1) xs (λ j h.
    let next : k + 1 + j ≡ k + suc j = omega arith in
    ap w next ∙ same (suc j) (omega (arith, h))) in
    omega (arith, first, rest, sum_by-cons cost x xs)

module _ (table : PartTable) where
  cell_in_row : (row j : ℕ) → j < length table.heads.items
      → cell_cost table (row * length table.heads.items + j) ≡ cost_of table (get_or table.heads.items j 0)
  cell_in_row row j h =
      ap (λ (n : ℕ). cost_of table (get_or table.heads.items n 0)) (place_parts (length table.heads.items) row j h).1

  all_rows : (rows : ℕ) → all_weights (cell_cost table) 0 (rows * length table.heads.items) ≡ rows * table_weight table
  unfolding all_weights
  all_rows zero =
      let none : 0 * length table.heads.items ≡ 0 = omega arith in
      omega (arith, ap (all_weights (cell_cost table) 0) none)
  all_rows (suc rows) =
      let width : ℕ = length table.heads.items in
      let more : suc rows * width ≡ rows * width + width = omega arith in
      let both = all_append (cell_cost table) 0 (rows * width) width (rows * width) (suc rows * width) (omega arith) more in
      let row = row_weights (cell_cost table) (cost_of table) (rows * width) table.heads.items (cell_in_row rows) in
      omega (arith, both, row, all_rows rows)

  -- no more is paid for than all marked states cost at each place
  pub known_most : (r : Recall) (rows : ℕ) → r.rows ≤ rows → r.width ≡ length table.heads.items
      → known_cost table r ≤ rows * table_weight table
  known_most r rows h width_is =
      let cells : length r.cells.items ≡ r.rows * length table.heads.items = r.filled ∙ ap (λ n. r.rows * n) width_is in
      let most = weighed_most (cell_cost table) 0 r.cells.items in
      let all = ap (all_weights (cell_cost table) 0) cells ∙ all_rows r.rows in
      omega (arith, most, all, mul-le-mul_left (table_weight table) h)

  -- where a marked state is met for the first time at a place, it is paid for
  pub cost_opened : (q mark at : ℕ) → mark < length table.heads.items → get_or table.heads.items mark 0 ≡ q → (old new : Recall) (k : ℕ)
      → IsOpened old new k → k ≡ cell_number old mark at → old.width ≡ length table.heads.items
      → known_cost table new ≡ known_cost table old + cost_of table q
  cost_opened q mark at below head old new k opened k_is width_is =
      let pair : k ≡ (at - old.base) * length table.heads.items + mark = k_is ∙ ap (λ w. (at - old.base) * w + mark) width_is in
      let cost = ap (cell_cost table) pair ∙ cell_in_row (at - old.base) mark below ∙ ap (cost_of table) head in
      omega (arith, opened.weight (cell_cost table), cost)
