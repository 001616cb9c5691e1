-- Words of bits for ranges.
use Rattle.std.proofs.Common.{◌≡◌, ◌+◌, ◌-◌, ◌*◌, ◌/◌, ◌%◌, ◌^◌, ◌<◌, ◌≤◌, ◌&&◌, ◌||◌, ◌==◌, ℕ, Bool, false, nat_le, refl, sym, ap, ap₂, ◌∙◌, arith, bit_and, bit_or, min, max, ◌⊎◌, inl, inr, zero, suc, List, [], ◌∷◌, length, set, get_or, take, replicate}
use Rattle.std.proofs.lemmas.Bool.{cases_lt, le-leb, lt-leb}
use Rattle.std.proofs.lemmas.Nat.Bits.{ones_shr, ones_shl, bit_at_and, bit_at_ones, bit_at_ones_above, bit_at_mask_inside, bit_at_mask_below, bit_at_or, bit_at-lt}
use Rattle.std.proofs.Math.Bool.{and-false, or-false, or_assoc}
use Rattle.std.proofs.lemmas.List.{get_or-replicate, get_or_past, length-replicate}
use Rattle.std.proofs.lemmas.Nat.Bits.{bit_at-zero}
use Rattle.regex_class.specs.Ranges.{Range, in_range, in_ranges}
use Rattle.std.proofs.lemmas.List.{get_or-set_same, get_or-set_other}
use Rattle.std.specs.Int.{bit_at}
use Rattle.fancy_regex_class.specs.RangeBits.{has_bit}

abbrev mask : ℕ → ℕ → ℕ
mask low high = bit_and (18446744073709551615 / 2 ^ (63 - high)) (18446744073709551615 * 2 ^ low % 18446744073709551616)

mask_is : (low high : ℕ) → low ≤ high → high < 64 → mask low high ≡ bit_and (2 ^ (high + 1) - 1) (2 ^ 64 - 2 ^ low)
mask_is low high ordered inside =
    let shifted : 64 - (63 - high) ≡ high + 1 = omega arith in
    ap₂ bit_and (ones_shr 64 (63 - high) (omega arith) ∙ ap (λ k. 2 ^ k - 1) shifted) (ones_shl 64 low (omega arith))

module _ (low high i : ℕ) (ordered : low ≤ high) (inside : high < 64) (below : i < 64) where
  bit_is : bit_at (mask low high) i ≡ min (bit_at (2 ^ (high + 1) - 1) i) (bit_at (2 ^ 64 - 2 ^ low) i)
  bit_is = ap (λ m. bit_at m i) (mask_is low high ordered inside) ∙ bit_at_and (2 ^ (high + 1) - 1) (2 ^ 64 - 2 ^ low) i

  pub mask_bits : (bit_at (mask low high) i == 1) ≡ (nat_le low i && nat_le i high)
  mask_bits =
      elim (cases_lt i low) [
        | inl before ↦
            let none : bit_at (2 ^ 64 - 2 ^ low) i ≡ 0 = bit_at_mask_below low 64 i before in
            let least : min (bit_at (2 ^ (high + 1) - 1) i) 0 ≡ 0 = omega arith in
            rw (bit_is, none, least, lt-leb low i before) refl
        | inr from ↦
            let one : bit_at (2 ^ 64 - 2 ^ low) i ≡ 1 = bit_at_mask_inside low 64 i from below in
            elim (cases_lt high i) [
              | inl after ↦
                  let none : bit_at (2 ^ (high + 1) - 1) i ≡ 0 = bit_at_ones_above (high + 1) i (omega arith) in
                  rw (bit_is, none, one, le-leb low i from, lt-leb i high after) refl
              | inr until ↦
                  let both : bit_at (2 ^ (high + 1) - 1) i ≡ 1 = bit_at_ones (high + 1) i (omega arith) in
                  rw (bit_is, both, one, le-leb low i from, le-leb i high until) refl
            ]
      ]

bit_cases : (a b : ℕ) → a < 2 → b < 2 → (max a b == 1) ≡ ((a == 1) || (b == 1))
bit_cases zero zero h k = refl
bit_cases zero (suc zero) h k = refl
bit_cases zero (suc (suc b)) h k = absurd (omega arith)
bit_cases (suc zero) zero h k = refl
bit_cases (suc zero) (suc zero) h k = refl
bit_cases (suc zero) (suc (suc b)) h k = absurd (omega arith)
bit_cases (suc (suc a)) b h k = absurd (omega arith)

-- the bits of one word or of another
pub or_bits : (a b i : ℕ) → (bit_at (bit_or a b) i == 1) ≡ ((bit_at a i == 1) || (bit_at b i == 1))
or_bits a b i = ap (λ n. n == 1) (bit_at_or a b i) ∙ bit_cases (bit_at a i) (bit_at b i) (bit_at-lt a i) (bit_at-lt b i)

same_order : (a b c d : ℕ) → (a ≤ b → c ≤ d) → (c ≤ d → a ≤ b) → nat_le a b ≡ nat_le c d
same_order a b c d there back =
    elim (cases_lt b a) [
      | inl less ↦ elim (cases_lt d c) [
        | inl less' ↦ lt-leb a b less ∙ sym (lt-leb c d less')
        | inr not_less ↦ absurd (omega (arith, back not_less))
      ]
      | inr not_less ↦ le-leb a b not_less ∙ sym (le-leb c d (there not_less))
    ]

-- where a range begins in a row, and where it ends there
abbrev pub BeginsAt : ℕ → ℕ → ℕ → Type 0
BeginsAt start first low = ((first < start) × (low ≡ start - first)) ⊎ ((start ≤ first) × (low ≡ 0))

abbrev pub EndsAt : ℕ → ℕ → ℕ → Type 0
EndsAt last first high = ((last < first + 63) × (high ≡ last - first)) ⊎ ((first + 63 ≤ last) × (high ≡ 63))

module _ (start end last row low high c : ℕ) (last_is : last ≡ min end 65535) (below : c < 65536) (in_row : c / 64 ≡ row)
    (begins : BeginsAt start (row * 64) low) (ends : EndsAt last (row * 64) high) (reached : row ≤ last / 64) where
  from : nat_le low (c % 64) ≡ nat_le start c
  from = elim begins [
    | inl later ↦ same_order low (c % 64) start c (λ h. omega (arith, later.0, later.1, in_row, h)) (λ h. omega (arith, later.0, later.1, in_row, h))
    | inr before ↦ same_order low (c % 64) start c (λ h. omega (arith, before.0, before.1, in_row, h)) (λ h. omega (arith, before.0, before.1, in_row, h))
  ]

  until : nat_le (c % 64) high ≡ nat_le c end
  until = elim ends [
    | inl inside ↦ same_order (c % 64) high c end (λ h. omega (arith, inside.0, inside.1, in_row, last_is, reached, h)) (λ h. omega (arith, inside.0, inside.1, in_row, last_is, below, h))
    | inr past ↦ same_order (c % 64) high c end (λ h. omega (arith, past.0, past.1, in_row, last_is, h)) (λ h. omega (arith, past.0, past.1, in_row, h))
  ]

  -- the bits that a row gets are those of the range
  pub row_bits : (nat_le low (c % 64) && nat_le (c % 64) high) ≡ in_range (start, end) c
  unfolding in_range
  row_bits = ap₂ ◌&&◌ from until

-- a number before the range, and one behind it
pub is_before : (start end c : ℕ) → c < start → in_range (start, end) c ≡ false
unfolding in_range
is_before start end c h = rw (lt-leb start c h) refl

pub is_after : (start end c : ℕ) → end < c → in_range (start, end) c ≡ false
unfolding in_range
is_after start end c h = rw (lt-leb c end h) (and-false (nat_le start c))

pub none_added : (a b : Bool) → b ≡ false → a ≡ (a || b)
none_added a b none = rw none (sym (or-false a))

module _ (words : List ℕ) (row c : ℕ) where
  -- a word that is written over leaves the bits of other rows
  pub bit_elsewhere : (word : ℕ) → (c / 64 ≡ row → ⊥) → has_bit (set words row word) c ≡ has_bit words c
  bit_elsewhere word other = ap (λ w. bit_at w (c % 64) == 1) (get_or-set_other words row (c / 64) word 0 other)

  -- and adds the bits of a mask to its own row
  pub bit_here : (word mask : ℕ) → word ≡ get_or words row 0 → c / 64 ≡ row → row < length words
      → has_bit (set words row (bit_or word mask)) c ≡ (has_bit words c || (bit_at mask (c % 64) == 1))
  bit_here word mask read here inside =
      ap (λ k. bit_at (get_or (set words row (bit_or word mask)) k 0) (c % 64) == 1) here
      ∙ ap (λ w. bit_at w (c % 64) == 1) (get_or-set_same words row (bit_or word mask) 0 inside)
      ∙ or_bits word mask (c % 64)
      ∙ ap (λ w. (bit_at w (c % 64) == 1) || (bit_at mask (c % 64) == 1)) (read ∙ ap (λ k. get_or words k 0) (sym here))

-- one range more
in_taken : (rs : List Range) (i c : ℕ) → i < length rs → in_ranges (take (suc i) rs) c ≡ (in_ranges (take i rs) c || in_range (get_or rs i (0, 0)) c)
unfolding in_ranges
in_taken [] i c h = absurd (omega arith)
in_taken (r ∷ rs) zero c h = or-false (in_range r c)
in_taken (r ∷ rs) (suc i) c h = ap (λ b. in_range r c || b) (in_taken rs i c (omega arith)) ∙ sym (or_assoc (in_range r c) (in_ranges (take i rs) c) (in_range (get_or rs i (0, 0)) c))

pub in_next : (rs : List Range) (i c : ℕ) → i < length rs → in_ranges (take (i + 1) rs) c ≡ (in_ranges (take i rs) c || in_range (get_or rs i (0, 0)) c)
in_next rs i c h = let next : i + 1 ≡ suc i = omega arith in rw next (in_taken rs i c h)

zero_word : (n k : ℕ) → ◌≡◌ {A = ℕ} (get_or (replicate n 0) k 0) 0
zero_word n k =
    elim (cases_lt k n) [
      | inl low ↦ get_or-replicate n k 0 0 low
      | inr high ↦ get_or_past (replicate {A = ℕ} n 0) k 0 (let long : length (replicate {A = ℕ} n 0) ≡ n = length-replicate n 0 in omega arith)
    ]

-- words of zeros have no bit
pub no_bits : (words : List ℕ) (n c : ℕ) → words ≡ replicate n 0 → has_bit words c ≡ false
no_bits words n c zeros = rw (zeros, zero_word n (c / 64), bit_at-zero (c % 64)) refl
