-- Rows of bits as flags.
use Rattle.std.proofs.Common.{◌≡◌, ℕ, zero, suc, ◌+◌, ◌-◌, ◌*◌, ◌/◌, ◌%◌, ◌^◌, ◌<◌, ◌≤◌, ◌⊎◌, Bool, true, false, not, cond, eqb, List, [], ◌∷◌, ◌++◌, length, map, replicate, get_or, set, refl, sym, ◌∙◌, ap, ap₂, subst, inl, inr, arith, ext_get_or, append_assoc, append-nil, length-set, length-append, get_or-set_same, get_or-set_other, eq-eqb, ne_eqb, w64, true≢false, take, ◌&&◌, ◌==◌, if◌then◌else◌, eqb-true, Result, Ok, Err}
use Rattle.std.proofs.lemmas.List.{take_all, length-replicate, get_or-replicate, get_or_past, set-get_or, get_or_append_left, get_or-append_right}
use Rattle.std.proofs.lemmas.List.Sums.{sum_by-set, sum_by-append, count_by-le-length}
use Rattle.std.proofs.lemmas.List.Folds.{sum_by-replicate}
use Rattle.std.proofs.lemmas.List.FromFn.{length-map-range_with_len, get_or-map-range_with_len}
use Rattle.std.proofs.lemmas.Bool.{cases_eq, cases_lt, not-true, not-false}
use Rattle.std.proofs.lemmas.Nat.{one_shl, pow_pos, same_from_place, mul-le}
use Rattle.std.proofs.lemmas.Nat.Bits.{bit_at_set_same, bit_at_set_other, bit_at-zero, and_pow}
use Rattle.std.specs.Prelude.{bit_and, bit_or, count_by}
use Rattle.std.specs.Result.{OnErr}
use Rattle.std.specs.Bool.{MatchBool}
use Rattle.std.specs.Int.{bit_at}
use Rattle.std.specs.List.{range_with_len}
use Rattle.std.proofs.Math.Nat.{mul-le-mul_left}
use Rattle.std.proofs.Math.Seq.{set-append_seam}
use Rattle.std.specs.Int.Bits.{or_zero_l}
use Rattle.fancy_regex_linear.specs.Visited.{flag_at, flags, flags_of, Has, pair_count, visited_bound, Adds, IsSame}
use Rattle.fancy_regex_linear.specs.declared.visited.Visited.{Visited}

-- what holds anyway holds on an error
pub on_err : {T E : Type 0} (r : Result T E) (P : Type 0) → P → OnErr r P
on_err (Ok x) P p = tt
on_err (Err e) P p = p

-- the test `word & bit == 0`
pub bit_clear : (word k : ℕ) → k < 64 → eqb (bit_and word (1 * 2 ^ k % 2 ^ 64)) 0 ≡ not (eqb (bit_at word k) 1)
bit_clear word k h =
    let e : bit_and word (1 * 2 ^ k % 2 ^ 64) ≡ bit_at word k * 2 ^ k = ap (bit_and word) (one_shl k 64 h) ∙ and_pow word k in
    let b : ℕ = bit_at word k in
    let small : b < 2 = omega arith in
    elim (cases_eq b 1) [
      | inl one ↦
          let big : 0 < bit_and word (1 * 2 ^ k % 2 ^ 64) = rw (e, one) (omega (arith, pow_pos k)) in
          ne_eqb _ 0 (omega arith) ∙ sym (ap not (eq-eqb b 1 one))
      | inr other ↦
          let none : b ≡ 0 = omega arith in
          eq-eqb _ 0 (rw (e, none) (omega arith)) ∙ sym (ap not (ne_eqb b 1 other))
    ]

-- the row and the column of a place
pub place_parts : (count row column : ℕ) → column < count → ((row * count + column) / count ≡ row) × ((row * count + column) % count ≡ column)
place_parts count row column h =
    let k : ℕ = row * count + column in
    let some : 0 < count = omega arith in
    let small : k % count < count = omega arith in
    let whole : (k / count) * count + k % count ≡ row * count + column = omega arith in
    same_from_place (k / count) (k % count) row column count small h whole

-- a place below the last row's end
pub place_below : (count rows row column : ℕ) → row < rows → column < count → row * count + column < rows * count
place_below count rows row column h k =
    let more : count * (row + 1) ≤ count * rows = mul-le-mul_left count (omega arith) in
    omega (arith, more)

flags-is : (count width rows : ℕ) (words : List ℕ) → flags count width rows words ≡ map (flag_at count width words) (range_with_len 0 (rows * count))
unfolding flags
flags-is count width rows words = refl

row_some : (j rows count : ℕ) → j < rows * count → 0 < count
row_some j rows zero h = absurd (omega arith)
row_some j rows (suc count) h = omega arith

row_low : (row column rows count : ℕ) → row * count + column < rows * count → row < rows
row_low row column rows count h =
    elim (cases_lt row rows) [
      | inl low ↦ low
      | inr high ↦ absurd (omega (arith, mul-le-mul_left count high))
    ]

row_high : (row column rows count : ℕ) → column < count → rows * count ≤ row * count + column → rows ≤ row
row_high row column rows count h k =
    elim (cases_lt row rows) [
      | inl low ↦ absurd (omega (arith, place_below count rows row column low h))
      | inr high ↦ high
    ]

zeros_only : (n k : ℕ) → ◌≡◌ {A = ℕ} (get_or (replicate n 0) k 0) 0
zeros_only n k =
    elim (cases_lt k n) [
      | inl low ↦ get_or-replicate n k 0 0 low
      | inr high ↦ get_or_past (replicate {A = ℕ} n 0) k 0 (let len : length (replicate {A = ℕ} n 0) ≡ n = length-replicate n 0 in omega arith)
    ]

falses_only : (n k : ℕ) → get_or (replicate n false) k false ≡ false
falses_only n k =
    elim (cases_lt k n) [
      | inl low ↦ get_or-replicate n k false false low
      | inr high ↦ get_or_past (replicate n false) k false (let len = length-replicate n false in omega arith)
    ]

module _ (count width rows : ℕ) (words : List ℕ) where
  pub length-flags : length (flags count width rows words) ≡ rows * count
  unfolding flags
  length-flags = length-map-range_with_len (flag_at count width words) 0 (rows * count)

  pub get_or-flags : (k : ℕ) → k < rows * count → get_or (flags count width rows words) k false ≡ flag_at count width words k
  unfolding flags
  get_or-flags k h = get_or-map-range_with_len (flag_at count width words) 0 (rows * count) k k false h (omega arith)

  -- the flag of a pair
  pub flag_of : (row column : ℕ) → row < rows → column < count
      → get_or (flags count width rows words) (row * count + column) false ≡ eqb (bit_at (get_or words (row * width + column / 64) 0) (column % 64)) 1
  flag_of row column h k =
      let parts = place_parts count row column k in
      get_or-flags (row * count + column) (place_below count rows row column h k)
      ∙ ap (λ r. eqb (bit_at (get_or words (r * width + ((row * count + column) % count) / 64) 0) (((row * count + column) % count) % 64)) 1) parts.0
      ∙ ap (λ c. eqb (bit_at (get_or words (row * width + c / 64) 0) (c % 64)) 1) parts.1

  -- a bit is set
  pub flags-set : (row column word : ℕ) → width ≡ count / 64 + 1 → length words ≡ rows * width → row < rows → column < count
      → word ≡ get_or words (row * width + column / 64) 0
      → flags count width rows (set words (row * width + column / 64) (bit_or word (1 * 2 ^ (column % 64) % 2 ^ 64)))
      ≡ set (flags count width rows words) (row * count + column) true
  flags-set row column word wide filled h k read =
      let place : ℕ = row * width + column / 64 in
      let v : ℕ = bit_or word (1 * 2 ^ (column % 64) % 2 ^ 64) in
      let after : List ℕ = set words place v in
      let in_row : column / 64 < width = omega arith in
      let inside : place < length words = omega (arith, place_below width rows row (column / 64) h in_row) in
      let low : column % 64 < 64 = omega arith in
      let n_in : row * count + column < length (flags count width rows words) = omega (arith, length-flags, place_below count rows row column h k) in
      flags-is count width rows after
      ∙ ext_get_or false _ _
      (length-map-range_with_len (flag_at count width after) 0 (rows * count)
      ∙ sym (length-set (flags count width rows words) (row * count + column) true ∙ length-flags))
      (λ j j_in.
      let j_low : j < rows * count = rw length-map-range_with_len at j_in in
      let some : 0 < count = omega arith in
      let column_in : j % count < count = omega arith in
      let in_word : (j % count) / 64 < width = omega arith in
      let whole : (j / count) * count + j % count ≡ j = omega arith in
      get_or-map-range_with_len (flag_at count width after) 0 (rows * count) j j false j_low (omega arith)
      ∙ (elim (cases_eq j (row * count + column)) as (λ _. flag_at count width after j ≡ get_or (set (flags count width rows words) (row * count + column) true) j false) [
        | inl same ↦
            let parts = place_parts count row column k in
            rw (same, parts.0, parts.1)
            (ap (λ x. eqb (bit_at x (column % 64)) 1) (get_or-set_same words place v 0 inside)
            ∙ eq-eqb _ 1 (bit_at_set_same w64 word (column % 64) low)
            ∙ sym (get_or-set_same (flags count width rows words) (row * count + column) true false n_in))
        | inr other ↦
            (elim (cases_eq ((j / count) * width + (j % count) / 64) place) as (λ _. flag_at count width after j ≡ flag_at count width words j) [
              | inl there ↦
                  let rows_same = same_from_place (j / count) ((j % count) / 64) row (column / 64) width in_word in_row there in
                  let apart : ((j % count) % 64 ≡ column % 64 → ⊥) =
                  λ e. other (sym whole ∙ ap (λ r. r * count + j % count) rows_same.0 ∙ (let same_column : j % count ≡ column = omega (arith, rows_same.1, e) in ap (λ c. row * count + c) same_column)) in
                  ap (λ x. eqb (bit_at (get_or after x 0) ((j % count) % 64)) 1) there
                  ∙ ap (λ x. eqb (bit_at x ((j % count) % 64)) 1) (get_or-set_same words place v 0 inside)
                  ∙ ap (λ x. eqb x 1) (bit_at_set_other w64 word (column % 64) low ((j % count) % 64) apart)
                  ∙ ap (λ x. eqb (bit_at x ((j % count) % 64)) 1) (read ∙ ap (λ x. get_or words x 0) (sym there))
              | inr elsewhere ↦ ap (λ x. eqb (bit_at x ((j % count) % 64)) 1) (get_or-set_other words place ((j / count) * width + (j % count) / 64) v 0 elsewhere)
            ])
            ∙ sym (get_or-flags j j_low)
            ∙ sym (get_or-set_other (flags count width rows words) (row * count + column) j true false other)
      ]))

  -- an empty row
  pub flags-row : width ≡ count / 64 + 1 → length words ≡ rows * width
      → flags count width (rows + 1) (words ++ replicate width 0) ≡ flags count width rows words ++ replicate count false
  flags-row wide filled =
      let more : List ℕ = words ++ replicate width 0 in
      let old : List Bool = flags count width rows words in
      let len : length old ≡ rows * count = length-flags in
      let unfolded : flags count width (rows + 1) more ≡ map (flag_at count width more) (range_with_len 0 ((rows + 1) * count)) = flags-is count width (rows + 1) more in
      unfolded
      ∙ ext_get_or false _ _
      (length-map-range_with_len (flag_at count width more) 0 ((rows + 1) * count)
      ∙ sym (length-append old (replicate count false) ∙ (let last = length-replicate count false in omega (arith, len, last))))
      (λ j j_in.
      let j_low : j < (rows + 1) * count = rw length-map-range_with_len at j_in in
      let some : 0 < count = row_some j (rows + 1) count j_low in
      let column_in : j % count < count = omega arith in
      let in_word : (j % count) / 64 < width = omega arith in
      let whole : (j / count) * count + j % count ≡ j = omega arith in
      get_or-map-range_with_len (flag_at count width more) 0 ((rows + 1) * count) j j false j_low (omega arith)
      ∙ (elim (cases_lt j (rows * count)) as (λ _. flag_at count width more j ≡ get_or (old ++ replicate count false) j false) [
        | inl low ↦
            let row_in : j / count < rows = row_low (j / count) (j % count) rows count (rw (whole) low) in
            let inside : (j / count) * width + (j % count) / 64 < length words = omega (arith, place_below width rows (j / count) ((j % count) / 64) row_in in_word) in
            ap (λ x. eqb (bit_at x ((j % count) % 64)) 1) (get_or_append_left words (replicate width 0) 0 _ inside)
            ∙ sym (get_or-flags j low)
            ∙ sym (get_or_append_left old (replicate count false) false j (omega arith))
        | inr high ↦
            let row_is : rows ≤ j / count = row_high (j / count) (j % count) rows count column_in (rw (whole) high) in
            let outside : length words ≤ (j / count) * width + (j % count) / 64 = omega (arith, mul-le-mul_left width row_is) in
            let zeros : get_or more ((j / count) * width + (j % count) / 64) 0 ≡ 0 =
            get_or-append_right words (replicate width 0) (length words) _ 0 refl outside ∙ zeros_only width _ in
            ap (λ x. eqb (bit_at x ((j % count) % 64)) 1) zeros
            ∙ ap (λ x. eqb x 1) (bit_at-zero ((j % count) % 64))
            ∙ sym (get_or-append_right old (replicate count false) (rows * count) j false len high ∙ falses_only count (j - rows * count))
      ]))

-- a new row of one word with one bit
pub flags-appended : (count width rows : ℕ) (words : List ℕ) (column : ℕ) → width ≡ count / 64 + 1 → width ≡ 1 → length words ≡ rows * width → column < count
    → flags count width (rows + 1) (words ++ (1 * 2 ^ (column % 64) % 2 ^ 64) ∷ [])
    ≡ set (flags count width rows words ++ replicate count false) (rows * count + column) true
flags-appended count width rows words column wide one filled k =
    let bit : ℕ = 1 * 2 ^ (column % 64) % 2 ^ 64 in
    let more : List ℕ = words ++ replicate width 0 in
    let is : more ≡ words ++ 0 ∷ [] = ap (λ n. words ++ replicate {A = ℕ} n 0) one in
    let place : rows * width + column / 64 ≡ length words = omega (arith, wide, one, filled, k) in
    let last : length (replicate {A = ℕ} width 0) ≡ width = length-replicate width 0 in
    let longer : length more ≡ (rows + 1) * width = omega (arith, length-append words (replicate width 0), last, filled) in
    let read : 0 ≡ get_or more (rows * width + column / 64) 0 =
    sym (get_or-append_right words (replicate width 0) (length words) (rows * width + column / 64) 0 refl (omega (arith, place)) ∙ zeros_only width _) in
    let made : set more (rows * width + column / 64) (bit_or 0 bit) ≡ words ++ bit ∷ [] =
    ap₂ (λ (xs : List ℕ) (i : ℕ). set xs i (bit_or 0 bit)) is place ∙ ap (set (words ++ 0 ∷ []) (length words)) (or_zero_l bit) ∙ set-append_seam words 0 [] bit in
    ap (flags count width (rows + 1)) (sym made)
    ∙ flags-set count width (rows + 1) more rows column 0 wide longer (omega arith) k read
    ∙ ap (λ xs. set xs (rows * count + column) true) (flags-row count width rows words wide filled)

-- a flag past those that were there
past_grown : (xs : List Bool) (n k : ℕ) → get_or (xs ++ replicate n false) k false ≡ true → get_or xs k false ≡ true
past_grown xs n k h =
    elim (cases_lt k (length xs)) [
      | inl low ↦ sym (get_or_append_left xs (replicate n false) false k low) ∙ h
      | inr high ↦ absurd (true≢false (sym h ∙ get_or-append_right xs (replicate n false) (length xs) k false refl high ∙ falses_only n (k - length xs)))
    ]

-- empty rows change nothing
pub same_grown : (old new : Visited) (n : ℕ) → new.count ≡ old.count → new.base ≡ old.base → flags_of new ≡ flags_of old ++ replicate n false → IsSame old new
unfolding Has pair_count
same_grown old new n c b e = record {
  pairs = λ p j h. (
    rw c at h.0,
    rw b at h.1,
    past_grown (flags_of old) n _ (ap (λ xs. get_or xs ((j - old.base) * old.count + p) false) (sym e) ∙ (rw (← c, ← b) h.2)),
  );
  pair_count = ap (count_by (λ b. b)) e ∙ sum_by-append (λ b. cond b 1 0) (flags_of old) (replicate n false)
      ∙ (let none : ◌≡◌ {A = ℕ} (count_by (λ b. b) (replicate n false)) 0 = sum_by-replicate (λ b. cond b 1 0) n false ∙ omega arith in rw none (omega arith));
}

pub same_flags : (old new : Visited) → new.count ≡ old.count → new.base ≡ old.base → flags_of new ≡ flags_of old → IsSame old new
unfolding Has pair_count
same_flags old new c b e = record {
  pairs = λ p j h. (rw c at h.0, rw b at h.1, ap (λ xs. get_or xs ((j - old.base) * old.count + p) false) (sym e) ∙ (rw (← c, ← b) h.2));
  pair_count = ap (count_by (λ b. b)) e;
}

-- a member after an insert is the new one or an old one
member-set : (xs : List Bool) (k j : ℕ) → get_or (set xs k true) j false ≡ true → (get_or xs j false ≡ true) ⊎ (j ≡ k)
member-set xs k j h =
    elim (cases_eq j k) [ inl same ↦ inr same | inr other ↦ inl (sym (get_or-set_other xs k j true false other) ∙ h) ]

pub adds_set : (old new : Visited) (q i : ℕ) → q < old.count → old.base ≤ i → new.count ≡ old.count → new.base ≡ old.base
    → flags_of new ≡ set (flags_of old) ((i - old.base) * old.count + q) true → Adds (Has old) (Has new) q i
unfolding Has
adds_set old new q i q_in low c b e p j h =
    let p_in : p < old.count = rw c at h.0 in
    let j_low : old.base ≤ j = rw b at h.1 in
    let flag : get_or (set (flags_of old) ((i - old.base) * old.count + q) true) ((j - old.base) * old.count + p) false ≡ true =
    ap (λ xs. get_or xs ((j - old.base) * old.count + p) false) (sym e) ∙ (rw (← c, ← b) h.2) in
    elim (member-set (flags_of old) _ _ flag) [
      | inl there ↦ inl (p_in, j_low, there)
      | inr place ↦
          let same = same_from_place (j - old.base) p (i - old.base) q old.count p_in q_in place in
          inr (same.1, omega (arith, same.0))
    ]

-- a pair in a new row
pub adds_appended : (old new : Visited) (q : ℕ) → q < old.count → new.count ≡ old.count → new.base ≡ old.base
    → flags_of new ≡ set (flags_of old ++ replicate old.count false) (old.rows * old.count + q) true → Adds (Has old) (Has new) q (old.base + old.rows)
unfolding Has
adds_appended old new q q_in c b e p j h =
    let p_in : p < old.count = rw c at h.0 in
    let j_low : old.base ≤ j = rw b at h.1 in
    let grown : List Bool = flags_of old ++ replicate old.count false in
    let flag : get_or (set grown (old.rows * old.count + q) true) ((j - old.base) * old.count + p) false ≡ true =
    ap (λ xs. get_or xs ((j - old.base) * old.count + p) false) (sym e) ∙ (rw (← c, ← b) h.2) in
    elim (member-set grown _ _ flag) [
      | inl there ↦ inl (p_in, j_low, past_grown (flags_of old) old.count _ there)
      | inr place ↦
          let same = same_from_place (j - old.base) p old.rows q old.count p_in q_in place in
          inr (same.1, omega (arith, same.0))
    ]

-- it is one more
pub count_appended : (old : List Bool) (rows count q : ℕ) → length old ≡ rows * count → q < count
    → count_by (λ b. b) (set (old ++ replicate count false) (rows * count + q) true) ≡ count_by (λ b. b) old + 1
count_appended old rows count q len q_in =
    let one : Bool → ℕ = λ b. cond b 1 0 in
    let falses : List Bool = replicate count false in
    let grown : List Bool = old ++ falses in
    let k : ℕ = rows * count + q in
    let last : length falses ≡ count = length-replicate count false in
    let within : k < length grown = omega (arith, length-append old falses, len, last, q_in) in
    let sum : count_by (λ b. b) (set grown k true) + one (get_or grown k false) ≡ count_by (λ b. b) grown + 1 = sum_by-set one grown k true false within in
    let clear : get_or grown k false ≡ false =
    get_or-append_right old falses (rows * count) k false len (omega arith) ∙ falses_only count (k - rows * count) in
    let none : one (get_or grown k false) ≡ 0 = ap one clear in
    let empty : ◌≡◌ {A = ℕ} (count_by (λ b. b) falses) 0 = sum_by-replicate one count false ∙ omega arith in
    let both : count_by (λ b. b) grown ≡ count_by (λ b. b) old + count_by (λ b. b) falses = sum_by-append one old falses in
    omega (arith, sum, none, empty, both)

pub counted_appended : (old new : Visited) (q : ℕ) → q < old.count
    → flags_of new ≡ set (flags_of old ++ replicate old.count false) (old.rows * old.count + q) true → pair_count new ≡ pair_count old + 1
unfolding pair_count
counted_appended old new q q_in e =
    ap (count_by (λ b. b)) e
    ∙ count_appended (flags_of old) old.rows old.count q (length-flags old.count old.width old.rows old.words.items) q_in

-- a pair whose flag is set is in the set
pub has_flag : (v : Visited) (q i : ℕ) → q < v.count → v.base ≤ i → get_or (flags_of v) ((i - v.base) * v.count + q) false ≡ true → Has v q i
unfolding Has
has_flag v q i below low flag = (below, low, flag)

-- what an insert counts
pub counted_set : (old new : Visited) (q i : ℕ) (fresh : Bool) → q < old.count → old.base ≤ i → new.count ≡ old.count → new.base ≡ old.base
    → (i - old.base) * old.count + q < length (flags_of old)
    → flags_of new ≡ set (flags_of old) ((i - old.base) * old.count + q) true
    → fresh ≡ not (get_or (flags_of old) ((i - old.base) * old.count + q) false)
    → MatchBool fresh (pair_count new ≡ pair_count old + 1) (Has old q i × IsSame old new)
unfolding Has pair_count
counted_set old new q i true q_in low c b within e f =
    let one : Bool → ℕ = λ b. cond b 1 0 in
    let k : ℕ = (i - old.base) * old.count + q in
    let sum : count_by (λ b. b) (set (flags_of old) k true) + one (get_or (flags_of old) k false) ≡ count_by (λ b. b) (flags_of old) + 1 = sum_by-set one (flags_of old) k true false within in
    let none : one (get_or (flags_of old) k false) ≡ 0 = ap one (not-true _ (sym f)) in
    ap (count_by (λ b. b)) e ∙ omega arith
counted_set old new q i false q_in low c b within e f =
    let k : ℕ = (i - old.base) * old.count + q in
    let there : get_or (flags_of old) k false ≡ true = not-false _ (sym f) in
    ((q_in, low, there), same_flags old new c b (e ∙ ap (set (flags_of old) k) (sym there) ∙ set-get_or (flags_of old) k false))

-- no more pairs than there are flags
pub pair_count_most : (v : Visited) → pair_count v ≤ v.rows * v.count
unfolding pair_count
pair_count_most v = omega (arith, length-flags v.count v.width v.rows v.words.items, count_by-le-length (λ b. b) (flags_of v))

pub pair_count_cap : (v : Visited) (rows count : ℕ) → v.rows ≤ rows → v.count ≡ count → pair_count v ≤ rows * count
pair_count_cap v rows count h e =
    let most : pair_count v ≤ v.rows * count = subst (λ (n : ℕ). pair_count v ≤ v.rows * n) e (pair_count_most v) in
    omega (arith, most, mul-le-mul_left count h)

-- where no row was made, no pair is in the set
pub none_has : (v : Visited) (q i : ℕ) → v.rows ≡ 0 → Has v q i → ⊥
unfolding Has
none_has v q i e h =
    let len : length (flags_of v) ≡ 0 * v.count = length-flags v.count v.width v.rows v.words.items ∙ ap (λ n. n * v.count) e in
    true≢false (sym h.2 ∙ get_or_past (flags_of v) _ false (omega arith))

-- what is visited_bound is within the rows up to the stop
pub visited_bound_most : (v : Visited) (stop : ℕ) → v.base ≤ stop → v.rows ≤ stop - v.base + 1 → visited_bound v ≤ (stop + 1) * v.count
visited_bound_most v stop low rows =
    let all : (v.base + v.rows) * v.count ≤ (stop + 1) * v.count = mul-le (v.base + v.rows) v.count (stop + 1) v.count (omega (arith, rows, low)) (omega arith) in
    omega (arith, all, pair_count_most v)

-- dropping the rows spends no less
pub visited_bound_dropped : (v : Visited) (from : ℕ) → v.base ≤ from → v.rows ≤ from - v.base → visited_bound v ≤ from * v.count
visited_bound_dropped v from low rows =
    let all : (v.base + v.rows) * v.count ≤ from * v.count = mul-le (v.base + v.rows) v.count from v.count (omega (arith, rows, low)) (omega arith) in
    omega (arith, all, pair_count_most v)

looks_in : (looks old visited_bound start m count extra : ℕ) → looks + start * count ≤ old + visited_bound + extra → visited_bound ≤ (start + m) * count → extra ≤ m → looks ≤ old + m * count + m
looks_in looks old visited_bound start m count extra a b c = omega (arith, a, b, c)

-- the bound on looks, by what was visited_bound
pub looks_within : (looks old visited_bound start stop count extra : ℕ) → start ≤ stop → looks + start * count ≤ old + visited_bound + extra
    → visited_bound ≤ (stop + 1) * count → extra ≤ stop - start + 1 → looks ≤ old + (stop - start + 1) * count + (stop - start + 1)
looks_within looks old visited_bound start stop count extra low a b c =
    let split : stop + 1 ≡ start + (stop - start + 1) = omega arith in
    looks_in looks old visited_bound start (stop - start + 1) count extra a (subst (λ (k : ℕ). visited_bound ≤ k * count) split b) c

-- dropping the rows before a later place spends as many more as there are places
pub visited_bound_ahead : (old new : Visited) (from n : ℕ) → old.base ≤ from → old.rows ≤ from - old.base → new.base ≡ from + n → new.count ≡ old.count → 0 < old.count
    → visited_bound old + n ≤ visited_bound new
visited_bound_ahead old new from n low rows base count some =
    let most = visited_bound_dropped old from low rows in
    let one : n * 1 ≤ n * old.count = mul-le n 1 n old.count (omega arith) (omega (arith, some)) in
    let all : new.base * new.count ≡ (from + n) * old.count = ap₂ (λ (a b : ℕ). a * b) base count in
    omega (arith, most, one, all)
