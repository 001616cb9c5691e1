-- What slots tell of where a match begins that a walk leaves, which begins with all of them unset.
use Rattle.std.proofs.Common.{◌≡◌, ◌∙◌, ℕ, zero, suc, ◌^◌, ◌<◌, ◌≤◌, Bool, true, false, true≢false, not, cond, List, [], ◌∷◌, length, replicate, if◌then◌else◌, slice_set, set, refl, sym, ap, arith}
use Rattle.std.proofs.lemmas.Bool.{ne_eqb}
use Rattle.std.proofs.lemmas.List.{length-set, length-replicate}
use Rattle.fancy_regex_parts.specs.Writes.{apply}
use Rattle.fancy_regex_parts.proofs.BetweenLemmas.{AllBy}
use Rattle.fancy_regex_linear.specs.RegularStates.{started, ended}
use Rattle.fancy_regex_regular.specs.Walks.{reset_start, told_slots}

-- the first slot
abbrev head : List ℕ → ℕ
head [] = 0
head (x ∷ xs) = x

set_head : (xs : List ℕ) → slice_set xs 0 (head xs) ≡ xs
set_head [] = refl
set_head (x ∷ xs) = refl

-- no slots stay none
apply_none : (ws : List (ℕ × ℕ)) → apply ws [] ≡ []
unfolding apply
apply_none [] = refl
apply_none (w ∷ ws) = apply_none ws

-- what the first slot was counts no more where it is written at last, nor what the second was
first_over : (ws : List (ℕ × ℕ)) (a b at : ℕ) (xs : List ℕ) → slice_set (apply ws (a ∷ xs)) 0 at ≡ slice_set (apply ws (b ∷ xs)) 0 at
unfolding apply
first_over [] a b at xs = refl
first_over ((zero, v) ∷ ws) a b at xs = refl
first_over ((suc k, v) ∷ ws) a b at xs = first_over ws a b at (slice_set xs k v)

second_over : (ws : List (ℕ × ℕ)) (a b at x : ℕ) (xs : List ℕ) → slice_set (apply ws (x ∷ a ∷ xs)) 1 at ≡ slice_set (apply ws (x ∷ b ∷ xs)) 1 at
unfolding apply
second_over [] a b at x xs = refl
second_over ((zero, v) ∷ ws) a b at x xs = second_over ws a b at v xs
second_over ((suc zero, v) ∷ ws) a b at x xs = refl
second_over ((suc (suc k), v) ∷ ws) a b at x xs = second_over ws a b at x (slice_set xs k v)

module _ (len : ℕ) (small : len < 2 ^ 63) (start : ℕ) where
  told_set : (v : ℕ) (xs : List ℕ) → v ≤ len → v ≡ reset_start start (v ∷ xs)
  told_set v xs le = sym (ap (λ (b : Bool). if b then start else v) (ne_eqb v 18446744073709551615 (λ e. omega (arith, e, small, le))))

  -- a first slot that is set tells where it was written last
  reset_set : (ws : List (ℕ × ℕ)) → AllBy len ws → (v : ℕ) (xs ys : List ℕ) → v ≤ len → head (apply ws (v ∷ xs)) ≡ reset_start start (apply ws (v ∷ ys))
  unfolding apply
  reset_set [] by v xs ys le = told_set v ys le
  reset_set ((zero, u) ∷ ws) by v xs ys le = reset_set ws by.1 u xs ys by.0
  reset_set ((suc k, u) ∷ ws) by v xs ys le = reset_set ws by.1 v (slice_set xs k u) (slice_set ys k u) le

  -- So it does where it was unset before, and where it held the start: what the slot holds then is what one tells that was unset.
  reset_is : (ws : List (ℕ × ℕ)) → AllBy len ws → (xs ys : List ℕ)
      → head (apply ws (start ∷ xs)) ≡ reset_start start (apply ws (18446744073709551615 ∷ ys))
  unfolding apply
  reset_is [] by xs ys = refl
  reset_is ((zero, u) ∷ ws) by xs ys = reset_set ws by.1 u xs ys by.0
  reset_is ((suc k, u) ∷ ws) by xs ys = reset_is ws by.1 (slice_set xs k u) (slice_set ys k u)

  first_told : (ws : List (ℕ × ℕ)) → AllBy len ws → (xs : List ℕ)
      → slice_set (apply ws (18446744073709551615 ∷ xs)) 0 (reset_start start (apply ws (18446744073709551615 ∷ xs))) ≡ apply ws (start ∷ xs)
  first_told ws by xs =
      ap (λ (k : ℕ). slice_set (apply ws (18446744073709551615 ∷ xs)) 0 k) (sym (reset_is ws by xs xs))
      ∙ first_over ws 18446744073709551615 start (head (apply ws (start ∷ xs))) xs
      ∙ set_head (apply ws (start ∷ xs))

  -- so the slots that a walk leaves tell what the slots of the match are
  all_told : (end : ℕ) (ws : List (ℕ × ℕ)) → AllBy len ws → (n : ℕ)
      → told_slots true start end (apply ws (replicate n 18446744073709551615)) ≡ ended true end (apply ws (started true start (replicate n 18446744073709551615)))
  all_told end ws by zero =
      rw (apply_none ws) refl
  all_told end ws by (suc zero) = ap (λ (xs : List ℕ). slice_set xs 1 end) (first_told ws by [])
  all_told end ws by (suc (suc n)) =
      ap (λ (xs : List ℕ). slice_set xs 1 end) (first_told ws by (18446744073709551615 ∷ replicate n 18446744073709551615))
      ∙ second_over ws 18446744073709551615 start end start (replicate n 18446744073709551615)

  pub slots_told : (has_span : Bool) (end : ℕ) (ws : List (ℕ × ℕ)) → AllBy len ws → (n : ℕ)
      → told_slots has_span start end (apply ws (replicate n 18446744073709551615))
      ≡ ended has_span end (apply ws (started has_span start (replicate n 18446744073709551615)))
  slots_told true end ws by n = all_told end ws by n
  slots_told false end ws by n = refl

  -- and where it begins
  start_told : (ws : List (ℕ × ℕ)) → AllBy len ws → (n m : ℕ) → 1 ≤ n → 1 ≤ m
      → head (apply ws (started true start (replicate n 18446744073709551615))) ≡ reset_start start (apply ws (replicate m 18446744073709551615))
  start_told ws by zero m some other = absurd (omega (arith, some))
  start_told ws by (suc n) zero some other = absurd (omega (arith, other))
  start_told ws by (suc n) (suc m) some other =
      reset_is ws by (slice_set (replicate n 18446744073709551615) 0 start) (replicate m 18446744073709551615)

length_applied : (ws : List (ℕ × ℕ)) (slots : List ℕ) → length (apply ws slots) ≡ length slots
unfolding apply
length_applied [] slots = refl
length_applied (w ∷ ws) slots = length_applied ws (slice_set slots w.0 w.1) ∙ length-set slots w.0 w.1

length_started : (has_span : Bool) (start : ℕ) (slots : List ℕ) → length (started has_span start slots) ≡ length slots
length_started true start slots = length-set (slice_set slots 0 start) 1 start ∙ length-set slots 0 start
length_started false start slots = refl

-- the slots of a match
pub slots_of_match : (b : Bool) (xs : List ℕ) (start end : ℕ) → ended (not b) end (started (not b) start xs) ≡ cond b xs (set (set xs 0 start) 1 end)
slots_of_match true xs start end = refl
slots_of_match false [] start end = refl
slots_of_match false (x ∷ []) start end = refl
slots_of_match false (x ∷ y ∷ xs) start end = refl

-- where it begins, by slots that a walk left
start_of_match : (xs : List ℕ) (start : ℕ) → 1 ≤ length xs → head (started true start xs) ≡ start
start_of_match [] start some = absurd (omega (arith, some))
start_of_match (x ∷ xs) start some = refl

pub begins_told : (len : ℕ) → len < 2 ^ 63 → (start : ℕ) (has_span : Bool) → has_span ≡ true → (ws : List (ℕ × ℕ)) → AllBy len ws → (n m begin : ℕ) (slots : List ℕ)
    → 1 ≤ n → 1 ≤ m → apply ws (started has_span start (replicate n 18446744073709551615)) ≡ started has_span begin slots
    → begin ≡ reset_start start (apply ws (replicate m 18446744073709551615))
begins_told len small start false own ws by n m begin slots some other e = absurd (true≢false (sym own))
begins_told len small start true own ws by n m begin slots some other e =
    let unset : List ℕ = replicate n 18446744073709551615 in
    let long : length slots ≡ n =
    sym (length_started true begin slots) ∙ ap length (sym e) ∙ length_applied ws (started true start unset) ∙ length_started true start unset
    ∙ length-replicate {A = ℕ} n 18446744073709551615 in
    sym (start_of_match slots begin (omega (arith, some, long))) ∙ ap head (sym e) ∙ start_told len small start ws by n m some other
