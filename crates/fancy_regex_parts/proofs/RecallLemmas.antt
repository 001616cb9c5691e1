-- Rows of cells.
use Rattle.std.proofs.Common.{◌≡◌, ℕ, zero, suc, ◌+◌, ◌-◌, ◌*◌, ◌/◌, ◌%◌, ◌<◌, ◌≤◌, ◌∙◌, cond, Bool, lt-ltb, List, [], ◌∷◌, ◌++◌, length, replicate, get_or, set, refl, sym, ap, inl, inr, arith, get_or-set_same, get_or-set_other}
use Rattle.std.proofs.lemmas.List.{get_or-replicate, get_or_past, get_or_append_left, get_or-append_right, length-replicate}
use Rattle.std.proofs.lemmas.Bool.{cases_lt}
use Rattle.std.proofs.lemmas.Nat.{same_from_place}
use Rattle.std.proofs.Math.Nat.{mul-le-mul_left}
use Rattle.fancy_regex_parts.specs.Recall.{cell, if_known, weighed, IsSame, IsOpened, IsStored}
use Rattle.fancy_regex_parts.specs.declared.recall.Recall.{Recall}

zeros_only : (n k : ℕ) → ◌≡◌ {A = ℕ} (get_or (replicate n 0) k 0) 0
zeros_only n k =
    elim (cases_lt k n) [
      | inl low ↦ get_or-replicate n k 0 0 low
      | inr high ↦ get_or_past (replicate {A = ℕ} n 0) k 0 (let len : length (replicate {A = ℕ} n 0) ≡ n = length-replicate n 0 in omega arith)
    ]

-- more cells of which nothing is known
grown_cell : (xs : List ℕ) (n k : ℕ) → ◌≡◌ {A = ℕ} (get_or (xs ++ replicate n 0) k 0) (get_or xs k 0)
grown_cell xs n k =
    elim (cases_lt k (length xs)) [
      | inl low ↦ get_or_append_left xs (replicate n 0) 0 k low
      | inr high ↦ get_or-append_right xs (replicate n 0) (length xs) k 0 refl high ∙ zeros_only n (k - length xs) ∙ sym (get_or_past xs k 0 high)
    ]

-- the weights of cells in two parts
weighed_append : (w : ℕ → ℕ) (k : ℕ) (xs ys : List ℕ) (n : ℕ) → n ≡ k + length xs → weighed w k (xs ++ ys) ≡ weighed w k xs + weighed w n ys
unfolding weighed
weighed_append w k [] ys n is = let same : n ≡ k = omega arith in rw same (omega arith)
weighed_append w k (x ∷ xs) ys n is = omega (arith, weighed_append w (k + 1) xs ys n (omega arith))

-- of which nothing is known
weighed_zeros : (w : ℕ → ℕ) (k n : ℕ) → weighed w k (replicate n 0) ≡ 0
unfolding weighed
weighed_zeros w k zero = refl
weighed_zeros w k (suc n) = omega (arith, weighed_zeros w (k + 1) n)

-- where one of them is set
weighed_set : (w : ℕ → ℕ) (k : ℕ) (xs : List ℕ) (i v n : ℕ) → n ≡ k + i → i < length xs
    → weighed w k (set xs i v) + if_known (get_or xs i 0) (w n) ≡ weighed w k xs + if_known v (w n)
unfolding weighed
weighed_set w k [] i v n is h = absurd (omega (arith, h))
weighed_set w k (x ∷ xs) zero v n is h = let same : n ≡ k = omega arith in rw same (omega arith)
weighed_set w k (x ∷ xs) (suc i) v n is h = omega (arith, weighed_set w (k + 1) xs i v n (omega arith) (omega (arith, h)))

pub weighed_none : (w : ℕ → ℕ) (xs : List ℕ) → xs ≡ [] → weighed w 0 xs ≡ 0
unfolding weighed
weighed_none w xs none = ap (weighed w 0) none

grown_weight : (w : ℕ → ℕ) (xs : List ℕ) (n : ℕ) → weighed w 0 (xs ++ replicate n 0) ≡ weighed w 0 xs
grown_weight w xs n = omega (arith, weighed_append w 0 xs (replicate n 0) (length xs) (omega arith), weighed_zeros w (length xs) n)

pub same_grown : (old new : Recall) (n : ℕ) → new.width ≡ old.width → new.base ≡ old.base → new.cells.items ≡ old.cells.items ++ replicate n 0 → IsSame old new
same_grown old new n w b e = record {
  width = w;
  base = b;
  cells = λ k. ap (λ (xs : List ℕ). get_or xs k 0) e ∙ grown_cell old.cells.items n k;
  weight = λ w. ap (weighed w 0) e ∙ grown_weight w old.cells.items n;
}

pub same_cells : (old new : Recall) → new.width ≡ old.width → new.base ≡ old.base → new.cells.items ≡ old.cells.items → IsSame old new
same_cells old new w b e = record {
  width = w;
  base = b;
  cells = λ k. ap (λ (xs : List ℕ). get_or xs k 0) e;
  weight = λ w. ap (weighed w 0) e;
}

pub same_twice : {a b c : Recall} → IsSame a b → IsSame b c → IsSame a c
same_twice one two = record {
  width = two.width ∙ one.width;
  base = two.base ∙ one.base;
  cells = λ k. two.cells k ∙ one.cells k;
  weight = λ w. two.weight w ∙ one.weight w;
}

-- a place below the last row's end
pub place_below : (count rows row column : ℕ) → row < rows → column < count → row * count + column < rows * count
place_below count rows row column h k =
    let more : count * (row + 1) ≤ count * rows = mul-le-mul_left count (omega arith) in
    omega (arith, more)

-- the row and the column of a place
pub place_parts : (count row column : ℕ) → column < count → ((row * count + column) / count ≡ row) × ((row * count + column) % count ≡ column)
place_parts count row column h =
    let k : ℕ = row * count + column in
    let some : 0 < count = omega arith in
    let small : k % count < count = omega arith in
    let whole : (k / count) * count + k % count ≡ row * count + column = omega arith in
    same_from_place (k / count) (k % count) row column count small h whole

pub opened_set : (old new : Recall) (k : ℕ) → new.width ≡ old.width → new.base ≡ old.base → k < length old.cells.items → cell old k ≡ 0
    → new.cells.items ≡ set old.cells.items k 1 → IsOpened old new k
opened_set old new k w b within was e = record {
  width = w;
  base = b;
  was = was;
  now = ap (λ (xs : List ℕ). get_or xs k 0) e ∙ get_or-set_same old.cells.items k 1 0 within;
  others = λ j other. ap (λ (xs : List ℕ). get_or xs j 0) e ∙ get_or-set_other old.cells.items k j 1 0 other;
  weight = λ f.
      let sum = weighed_set f 0 old.cells.items k 1 k (omega arith) within in
      let none : if_known (get_or old.cells.items k 0) (f k) ≡ 0 = ap (λ n. if_known n (f k)) was in
      ap (weighed f 0) e ∙ (omega (arith, sum, none));
}

known_counts : (n weight : ℕ) → 1 ≤ n → if_known n weight ≡ weight
known_counts n weight h = ap (λ (b : Bool). cond b weight 0) (lt-ltb 0 n (omega arith))

pub stored_set : (old new : Recall) (k end : ℕ) → new.width ≡ old.width → new.base ≡ old.base → k < length old.cells.items → 1 ≤ cell old k
    → new.cells.items ≡ set old.cells.items k (end + 2) → IsStored old new k end
stored_set old new k end w b within was e = record {
  width = w;
  base = b;
  stored = λ _. ap (λ (xs : List ℕ). get_or xs k 0) e ∙ get_or-set_same old.cells.items k (end + 2) 0 within;
  unknown = λ none. absurd (omega arith);
  others = λ j other. ap (λ (xs : List ℕ). get_or xs j 0) e ∙ get_or-set_other old.cells.items k j (end + 2) 0 other;
  weight = λ f.
      let sum = weighed_set f 0 old.cells.items k (end + 2) k (omega arith) within in
      let one = known_counts (get_or old.cells.items k 0) (f k) was in
      let last = known_counts (end + 2) (f k) (omega arith) in
      ap (weighed f 0) e ∙ (omega (arith, sum, one, last));
}

-- nothing was known, and nothing is stored
pub stored_none : (r : Recall) (k end : ℕ) → cell r k ≡ 0 → IsStored r r k end
stored_none r k end none = record {
  width = refl;
  base = refl;
  stored = λ some. absurd (omega arith);
  unknown = λ _. none;
  others = λ j other. refl;
  weight = λ w. refl;
}
