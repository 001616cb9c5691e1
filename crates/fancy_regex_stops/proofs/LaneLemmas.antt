-- Vectors that are computed lane by lane.
use Rattle.std.proofs.Common.{◌-◌, ⊎_elim, slice_index_or, ◌⊎◌, inl, inr, ap₂, ◌≡◌, ℕ, zero, suc, ◌+◌, ◌≤◌, ◌<◌, List, [], ◌∷◌, Bool, true, false, cond, ltb, length, get_or, map, refl, sym, ap, subst, ◌∙◌, arith}
use Rattle.std.specs.List.{prefix_len}
use Rattle.std.specs.Simd.Lanes.{zip2, sel_l, chunk, mask_l}
use lib.Count.{count_trailing_zeros}
use Rattle.std.proofs.lemmas.Bool.{ltb-true, ltb-false, cases_lt, false≢true}
use Rattle.std.proofs.lemmas.List.Sums.{prefix_len_passes, prefix_len-le-length}
use Rattle.std.proofs.lemmas.Simd.{trailing_mask_l, get_or-chunk, length-chunk, length-zip2, get_or-zip2}
use Rattle.fancy_regex_stops.specs.Gaps.{is_zero, is_more, lesser, greater, limit_gap, gap_of, gap_in, pair_gap, wrapped}
use Rattle.fancy_regex_stops.specs.Stops.{Covers, CoversShort, IsMarked, IsShort, IsPairAt, IsBeforeMarked, IsSingle, IsShortPairAt}
use Rattle.fancy_regex_stops.specs.declared.stops.Stops.{Stops}

-- a choice of each lane by a comparison
pub chosen : (t : ℕ → ℕ → Bool) (xs ys : List ℕ) → sel_l (zip2 t xs ys) xs ys ≡ zip2 (λ a b. cond (t a b) a b) xs ys
chosen t [] ys = refl
chosen t (x ∷ xs) [] = refl
chosen t (x ∷ xs) (y ∷ ys) = ap (λ rest. cond (t x y) x y ∷ rest) (chosen t xs ys)

pub chosen_other : (t : ℕ → ℕ → Bool) (xs ys : List ℕ) → sel_l (zip2 t xs ys) ys xs ≡ zip2 (λ a b. cond (t a b) b a) xs ys
chosen_other t [] ys = refl
chosen_other t (x ∷ xs) [] = refl
chosen_other t (x ∷ xs) (y ∷ ys) = ap (λ rest. cond (t x y) y x ∷ rest) (chosen_other t xs ys)

-- the lowest bit that is set stands for the first lane that is 0
pub lowest_zero : (xs : List ℕ) (m : ℕ) → length xs ≡ 16 → m ≡ mask_l (map is_zero xs) → (m ≡ 0 → ⊥) → count_trailing_zeros 64 m ≡ prefix_len is_more xs
lowest_zero xs m long is some =
    ap (count_trailing_zeros 64) is ∙ trailing_mask_l is_zero 64 xs (omega (arith, long)) (subst (λ (k : ℕ). 0 < k) is (omega (arith, some)))

-- lanes that are computed from those of two vectors
pub of_maps : (h k : ℕ → ℕ → ℕ) (e f g : ℕ → ℕ) (xs ys : List ℕ) → zip2 h (map e xs) (zip2 k (map f xs) (map g ys)) ≡ zip2 (λ a b. h (e a) (k (f a) (g b))) xs ys
of_maps h k e f g [] ys = refl
of_maps h k e f g (x ∷ xs) [] = refl
of_maps h k e f g (x ∷ xs) (y ∷ ys) = ap (λ rest. h (e x) (k (f x) (g y)) ∷ rest) (of_maps h k e f g xs ys)

pub prefix_of_map : (f : ℕ → ℕ) (xs : List ℕ) → prefix_len is_more (map f xs) ≡ prefix_len (λ x. is_more (f x)) xs
prefix_of_map f [] = refl
prefix_of_map f (x ∷ xs) = ap (λ n. cond (is_more (f x)) (1 + n) 0) (prefix_of_map f xs)

pub more_than_zero : (a : ℕ) → is_more a ≡ true → 0 < a
more_than_zero zero e = absurd (false≢true e)
more_than_zero (suc a) e = omega arith

-- where the lesser of two is more than 0, both are
pub both_more : (a b : ℕ) → 0 < lesser a b → (0 < a) × (0 < b)
both_more a b more = by_cases (ltb a b) refl more where
  by_cases : (t : Bool) → ltb a b ≡ t → 0 < cond t a b → (0 < a) × (0 < b)
  by_cases true e m = (m, omega (arith, ltb-true a b e, m))
  by_cases false e m = (omega (arith, ltb-false a b e, m), m)

-- a byte that has a gap to the limit is below it
limit_more : (limit c : ℕ) → limit < 256 → 0 < limit_gap limit c → c < limit
limit_more limit c byte more = by_cases (ltb c limit) refl more where
  by_cases : (t : Bool) → ltb c limit ≡ t → 0 < wrapped limit (cond t c limit) → c < limit
  by_cases true e m = ltb-true c limit e
  by_cases false e m = absurd (omega (arith, byte, m))

lesser_self : (a : ℕ) → lesser a a ≡ a
lesser_self a = by_cases (ltb a a) where
  by_cases : (t : Bool) → cond t a a ≡ a
  by_cases true = refl
  by_cases false = refl

-- the lesser of two, and again of one of them
lesser_again : (a b : ℕ) → lesser (lesser a b) b ≡ lesser a b
lesser_again a b = by_cases (ltb a b) refl where
  by_cases : (t : Bool) → ltb a b ≡ t → lesser (cond t a b) b ≡ cond t a b
  by_cases true e = ap (λ u. cond u a b) e
  by_cases false e = lesser_self b

-- the gap where the three ranges are one
pub single_gap : (stops : Stops) → IsSingle stops → (c : ℕ) → lesser (limit_gap stops.limit c) (gap_of stops.first c) ≡ gap_in stops c
single_gap stops single c =
    let least : ℕ = limit_gap stops.limit c in
    let gap : ℕ = gap_of stops.first c in
    let twice : lesser (lesser least gap) gap ≡ lesser least gap = lesser_again least gap in
    sym (
    ap₂ (λ (a b : ℕ). lesser (lesser (lesser least gap) a) b) (ap (λ range. gap_of range c) single.0) (ap (λ range. gap_of range c) single.1)
    ∙ ap (λ (a : ℕ). lesser a gap) twice
    ∙ twice
    )

-- a byte with a gap is passed over
pub mark_says : (stops : Stops) (marks : List Bool) (wide : Bool) → Covers stops marks wide → (c : ℕ) → 0 < gap_in stops c → IsMarked marks wide c
mark_says stops marks wide covers c more =
    let below : c < stops.limit = limit_more stops.limit c covers.byte (both_more _ _ (both_more _ _ (both_more _ _ more).0).0).0 in
    ⊎_elim
    (λ (ascii : c < 128). inl (ascii, covers.ascii c ascii more))
    (λ (other : 128 ≤ c). inr (other, covers.others (omega (arith, other, below))))
    (cases_lt c 128)

pub short_says : (stops : Stops) (marks : List Bool) (short : Bool) → CoversShort stops marks short → (c : ℕ) → 0 < gap_in stops c → IsShort marks short c
short_says stops marks short covers c more =
    let most : stops.limit ≤ 240 = covers.most in
    let below : c < stops.limit = limit_more stops.limit c (omega (arith, most)) (both_more _ _ (both_more _ _ (both_more _ _ more).0).0).0 in
    ⊎_elim
    (λ (ascii : c < 128). inl (ascii, covers.ascii c ascii more))
    (λ (other : 128 ≤ c). inr (other, omega (arith, below, most), covers.others (omega (arith, other, below))))
    (cases_lt c 128)

-- where the greater of two is more than 0, one of them is
pub one_more : (a b : ℕ) → 0 < greater a b → (0 < a) ⊎ (0 < b)
one_more a b more = by_cases (ltb a b) refl more where
  by_cases : (t : Bool) → ltb a b ≡ t → 0 < cond t b a → (0 < a) ⊎ (0 < b)
  by_cases true e m = inr m
  by_cases false e m = inl m

-- from the lanes of a load to the bytes
pub more_in_load : (f : ℕ → ℕ) (bytes : List ℕ) (at : ℕ) (gaps : List ℕ) (r : ℕ) → at + 16 ≤ length bytes → gaps ≡ map f (chunk at 16 bytes) → r ≡ prefix_len is_more gaps
    → (r ≤ 16) × ((i : ℕ) → at ≤ i → i < at + r → 0 < f (get_or bytes i 0))
more_in_load f bytes at gaps r room is counted =
    let long : length (chunk at 16 bytes) ≡ 16 = length-chunk at 16 bytes room in
    let same : r ≡ prefix_len (λ x. is_more (f x)) (chunk at 16 bytes) = counted ∙ ap (prefix_len is_more) is ∙ prefix_of_map f (chunk at 16 bytes) in
    let short : r ≤ 16 = omega (arith, same, long, prefix_len-le-length (λ x. is_more (f x)) (chunk at 16 bytes)) in (
      short,
      λ i low high.
          let k : ℕ = i - at in
          let place : at + k ≡ i = omega (arith, low) in
          let passes = prefix_len_passes (λ x. is_more (f x)) (chunk at 16 bytes) k 0 (omega (arith, low, high, same)) in
          let here : get_or (chunk at 16 bytes) k 0 ≡ get_or bytes i 0 = get_or-chunk at 16 bytes k 0 (omega (arith, low, high, short)) ∙ ap (λ (j : ℕ). get_or bytes j 0) place in
          more_than_zero (f (get_or bytes i 0)) (ap (λ (x : ℕ). is_more (f x)) (sym here) ∙ passes),
    )

pub more_in_loads : (f : ℕ → ℕ → ℕ) (bytes : List ℕ) (at : ℕ) (gaps : List ℕ) (r : ℕ) → at + 17 ≤ length bytes
    → gaps ≡ zip2 f (chunk at 16 bytes) (chunk (at + 1) 16 bytes) → r ≡ prefix_len is_more gaps
    → (r ≤ 16) × ((i : ℕ) → at ≤ i → i < at + r → 0 < f (get_or bytes i 0) (get_or bytes (i + 1) 0))
more_in_loads f bytes at gaps r room is counted =
    let xs = chunk at 16 bytes in
    let ys = chunk (at + 1) 16 bytes in
    let long : length xs ≡ 16 = length-chunk at 16 bytes (omega (arith, room)) in
    let other : length ys ≡ 16 = length-chunk (at + 1) 16 bytes (omega (arith, room)) in
    let all : length (zip2 f xs ys) ≡ 16 = length-zip2 f xs ys (long ∙ sym other) ∙ long in
    let same : r ≡ prefix_len is_more (zip2 f xs ys) = counted ∙ ap (prefix_len is_more) is in
    let short : r ≤ 16 = omega (arith, same, all, prefix_len-le-length is_more (zip2 f xs ys)) in (
      short,
      λ i low high.
          let k : ℕ = i - at in
          let place : at + k ≡ i = omega (arith, low) in
          let next : at + 1 + k ≡ i + 1 = omega (arith, low) in
          let inside : k < 16 = omega (arith, low, high, short) in
          let passes = prefix_len_passes is_more (zip2 f xs ys) k 0 (omega (arith, low, high, same)) in
          let here : get_or xs k 0 ≡ get_or bytes i 0 = get_or-chunk at 16 bytes k 0 inside ∙ ap (λ (j : ℕ). get_or bytes j 0) place in
          let after : get_or ys k 0 ≡ get_or bytes (i + 1) 0 = get_or-chunk (at + 1) 16 bytes k 0 inside ∙ ap (λ (j : ℕ). get_or bytes j 0) next in
          let lane : get_or (zip2 f xs ys) k 0 ≡ f (get_or bytes i 0) (get_or bytes (i + 1) 0) =
          get_or-zip2 f xs ys k 0 0 0 (omega (arith, long, inside)) (omega (arith, other, inside)) ∙ ap₂ f here after in
          more_than_zero (f (get_or bytes i 0) (get_or bytes (i + 1) 0)) (ap is_more (sym lane) ∙ passes),
    )

-- what holds up to a place, and from there on
pub and_on : (P : ℕ → Type 0) (from at to : ℕ) → ((i : ℕ) → from ≤ i → i < at → P i) → ((i : ℕ) → at ≤ i → i < to → P i) → (i : ℕ) → from ≤ i → i < to → P i
and_on P from at to below here i low high =
    ⊎_elim (λ (less : i < at). below i low less) (λ (over : at ≤ i). here i over high) (cases_lt i at)

-- one block more of bytes with a gap
pub block_more : (f : ℕ → ℕ) (bytes : List ℕ) (from at : ℕ) (gaps : List ℕ) (r : ℕ) → at + 16 ≤ length bytes → gaps ≡ map f (chunk at 16 bytes) → r ≡ prefix_len is_more gaps
    → ((i : ℕ) → from ≤ i → i < at → 0 < f (slice_index_or bytes i 0)) → (i : ℕ) → from ≤ i → i < at + r → 0 < f (slice_index_or bytes i 0)
block_more f bytes from at gaps r room is counted below =
    and_on (λ (i : ℕ). 0 < f (slice_index_or bytes i 0)) from at (at + r) below (more_in_load f bytes at gaps r room is counted).1

-- a pair with a gap is passed over
pub pair_says : (stops others : Stops) (marks : List Bool) (wide : Bool) (other_marks : List Bool) (bytes : List ℕ) (i : ℕ) → Covers stops marks wide
    → Covers others other_marks false → i + 1 < length bytes
    → 0 < pair_gap stops others (slice_index_or bytes i 0) (slice_index_or bytes (i + 1) 0) → IsPairAt bytes marks wide other_marks i
pair_says stops others marks wide other_marks bytes i covers covers_others inside more =
    let byte : ℕ = slice_index_or bytes i 0 in
    let next : ℕ = slice_index_or bytes (i + 1) 0 in
    let below : byte < stops.limit = limit_more stops.limit byte covers.byte (both_more _ _ more).0 in
    ⊎_elim
    (λ (ascii : byte < 128).
    ⊎_elim
    (λ (first : 0 < gap_in stops byte). inl (inl (ascii, covers.ascii byte ascii first)))
    (λ (second : 0 < gap_in others next).
    ⊎_elim
    (λ (marked : (next < 128) × (slice_index_or other_marks next false ≡ true)). inr (record { inside = inside; ascii = ascii; next = marked }))
    (λ (wide_next : (128 ≤ next) × (false ≡ true)). absurd (false≢true wide_next.1))
    (mark_says others other_marks false covers_others next second))
    (one_more (gap_in stops byte) (gap_in others next) (both_more _ _ more).1))
    (λ (other : 128 ≤ byte). inl (inr (other, covers.others (omega (arith, other, below)))))
    (cases_lt byte 128)

-- the same where the characters of up to three bytes alone are passed over beside ASCII characters
pub short_pair_says : (stops others : Stops) (marks : List Bool) (short : Bool) (other_marks : List Bool) (bytes : List ℕ) (i : ℕ) → CoversShort stops marks short
    → Covers others other_marks true → i + 1 < length bytes
    → 0 < pair_gap stops others (slice_index_or bytes i 0) (slice_index_or bytes (i + 1) 0) → IsShortPairAt bytes marks short other_marks i
short_pair_says stops others marks short other_marks bytes i covers covers_others inside more =
    let byte : ℕ = slice_index_or bytes i 0 in
    let next : ℕ = slice_index_or bytes (i + 1) 0 in
    let most : stops.limit ≤ 240 = covers.most in
    let below : byte < stops.limit = limit_more stops.limit byte (omega (arith, most)) (both_more _ _ more).0 in
    ⊎_elim
    (λ (ascii : byte < 128).
    ⊎_elim (λ (first : 0 < gap_in stops byte). inl (inl (ascii, covers.ascii byte ascii first)))
    (λ (second : 0 < gap_in others next). inr (record { inside = inside; ascii = ascii; next = mark_says others other_marks true covers_others next second }))
    (one_more (gap_in stops byte) (gap_in others next) (both_more _ _ more).1))
    (λ (other : 128 ≤ byte). inl (inr (other, omega (arith, below, most), covers.others (omega (arith, other, below)))))
    (cases_lt byte 128)

lesser_more : (a b : ℕ) → 0 < a → 0 < b → 0 < lesser a b
lesser_more a b one two = by_cases (ltb a b) where
  by_cases : (t : Bool) → 0 < cond t a b
  by_cases true = one
  by_cases false = two

greater_more : (a b : ℕ) → 0 < a → 0 < greater a b
greater_more a b one = by_cases (ltb a b) refl where
  by_cases : (t : Bool) → ltb a b ≡ t → 0 < cond t b a
  by_cases true e = omega (arith, ltb-true a b e)
  by_cases false e = one

-- a byte with a gap makes a pair with a gap
pub pair_of : (stops others : Stops) (c d : ℕ) → 0 < gap_in stops c → 0 < pair_gap stops others c d
pair_of stops others c d more =
    lesser_more (limit_gap stops.limit c) (greater (gap_in stops c) (gap_in others d)) (both_more _ _ (both_more _ _ (both_more _ _ more).0).0).0
    (greater_more (gap_in stops c) (gap_in others d) more)
