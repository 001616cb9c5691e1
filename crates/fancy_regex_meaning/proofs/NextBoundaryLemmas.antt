-- The boundaries of a range, one character after another.
use Rattle.std.proofs.Common.{◌≡◌, ℕ, zero, suc, ◌+◌, ◌-◌, ◌<◌, ◌≤◌, Bool, true, false, List, [], ◌∷◌, length, drop, Option, Some, None, refl, sym, ap, ◌∙◌, inl, inr, ⊎_elim, arith, lt-ltb, le-ltb, length-drop, slice_index, IsUtf8, IsCharBoundary}
use Rattle.std.specs.List.{filter}
use Rattle.std.specs.Str.{encode_utf8_all}
use lib.Utf8.{scalars}
use Rattle.std.specs.Char.{len_utf8}
use Rattle.std.proofs.lemmas.Bool.{cond-true, cond-false, cases_lt, and_parts}
use Rattle.std.proofs.lemmas.Bool.Decides.{nat_tests}
use Rattle.std.proofs.lemmas.Option.{slice_get-get_or, slice_get_past, none-some}
use Rattle.std.proofs.lemmas.Str.{IsUtf8-drop, len_utf8_bounds}
use Rattle.regex_hir.specs.Text.{char_at, is_boundary}
use Rattle.regex_hir.proofs.TextLemmas.{char_at_from}
use Rattle.regex_hir.proofs.Utf8Lemmas.{char_at_cases, IsOneByteAt, IsTwoBytesAt, IsThreeBytesAt, IsFourBytesAt}
use Rattle.fancy_regex_meaning.specs.Positions.{numbers_from, boundaries}

pub test_of_IsCharBoundary : (text : List ℕ) (i : ℕ) → IsCharBoundary text i → is_boundary text i ≡ true
unfolding is_boundary
test_of_IsCharBoundary text i h = elim (cases_lt i (length text)) [
  | inl lt ↦ let lead = h.1 lt in rw (slice_get-get_or text i 0 lt) (grind (arith, nat_tests))
  | inr ge ↦ rw (slice_get_past text i ge) refl
]

-- a continuation byte begins no character
continues : (text : List ℕ) (j low : ℕ) → j < length text → low < 64 → slice_index text j ≡ 128 + low → is_boundary text j ≡ false
unfolding is_boundary
continues text j low lt small is = rw (slice_get-get_or text j 0 lt) (grind (arith, nat_tests))

-- inside a character there is no boundary
pub inside_char : (text : List ℕ) (i c j : ℕ) → char_at text i ≡ Some c → i < j → j < i + len_utf8 c → is_boundary text j ≡ false
inside_char text i c j found low high =
    ⊎_elim
    (λ (at : IsOneByteAt text i c). let long : len_utf8 c ≡ 1 = cond-true _ _ _ (lt-ltb c 0x80 at.0) in absurd (omega arith))
    (⊎_elim
    (λ (at : IsTwoBytesAt text i c).
    let long : len_utf8 c ≡ 2 = cond-false _ _ _ (le-ltb c 0x80 at.0) ∙ cond-true _ _ _ (lt-ltb c 0x800 at.1) in
    let second : j ≡ i + 1 = omega arith in
    rw second (continues text (i + 1) _ at.2 (omega arith) at.4))
    (⊎_elim
    (λ (at : IsThreeBytesAt text i c).
    let long : len_utf8 c ≡ 3 = cond-false _ _ _ (le-ltb c 0x80 (omega arith)) ∙ cond-false _ _ _ (le-ltb c 0x800 at.0) ∙ cond-true _ _ _ (lt-ltb c 0x1_0000 at.1) in
    elim (cases_lt j (i + 2)) [
      | inl near ↦ let second : j ≡ i + 1 = omega arith in rw second (continues text (i + 1) _ (omega arith) (omega arith) at.4)
      | inr far ↦ let third : j ≡ i + 2 = omega arith in rw third (continues text (i + 2) _ at.2 (omega arith) at.5)
    ])
    (λ (at : IsFourBytesAt text i c).
    let long : len_utf8 c ≡ 4 = cond-false _ _ _ (le-ltb c 0x80 (omega arith)) ∙ cond-false _ _ _ (le-ltb c 0x800 (omega arith)) ∙ cond-false _ _ _ (le-ltb c 0x1_0000 at.0) in
    elim (cases_lt j (i + 2)) [
      | inl near ↦ let second : j ≡ i + 1 = omega arith in rw second (continues text (i + 1) _ (omega arith) (omega arith) at.3)
      | inr far ↦ elim (cases_lt j (i + 3)) [
        | inl third_is ↦ let third : j ≡ i + 2 = omega arith in rw third (continues text (i + 2) _ (omega arith) (omega arith) at.4)
        | inr last ↦ let fourth : j ≡ i + 3 = omega arith in rw fourth (continues text (i + 3) _ at.1 (omega arith) at.5)
      ]
    ])))
    (char_at_cases text i c found).1

-- a text has a character at each boundary before its end
some_char : (text : List ℕ) (i : ℕ) (cs : List ℕ) → scalars cs ≡ true → encode_utf8_all cs ≡ drop i text → i < length text → char_at text i ≡ None → ⊥
some_char text i [] s e lt none = omega (arith, ap length e, length-drop i text)
some_char text i (c ∷ cs) s e lt none =
    none-some c (sym none ∙ char_at_from text i c (encode_utf8_all cs) ((and_parts _ _ s).0) (sym e))

pub char_of : (text : List ℕ) (i : ℕ) → IsUtf8 (drop i text) → i < length text → char_at text i ≡ None → ⊥
char_of text i u lt none = some_char text i u.0 u.1.0 u.1.1 lt none

-- numbers that are no boundaries are passed over
skipped : (text : List ℕ) (m n i : ℕ) → ((j : ℕ) → i ≤ j → j < i + m → is_boundary text j ≡ false) → m ≤ n
    → filter (is_boundary text) (numbers_from n i) ≡ filter (is_boundary text) (numbers_from (n - m) (i + m))
skipped text zero n i h le =
    let a : n ≡ n - 0 = omega arith in
    let b : i ≡ i + 0 = omega arith in
    ap (λ k. filter (is_boundary text) (numbers_from k i)) a ∙ ap (λ k. filter (is_boundary text) (numbers_from (n - 0) k)) b
skipped text (suc m) zero i h le = absurd (omega arith)
skipped text (suc m) (suc n) i h le =
    let a : n - m ≡ suc n - suc m = omega arith in
    let b : i + 1 + m ≡ i + suc m = omega arith in
    cond-false (is_boundary text i) _ _ (h i (omega arith) (omega arith))
    ∙ skipped text m n (i + 1) (λ j low high. h j (omega arith) (omega arith)) (omega arith)
    ∙ ap (λ k. filter (is_boundary text) (numbers_from k (i + 1 + m))) a
    ∙ ap (λ k. filter (is_boundary text) (numbers_from (suc n - suc m) k)) b

-- the boundaries from one on
pub from_here : (text : List ℕ) (from stop : ℕ) → IsCharBoundary text from → from ≤ stop
    → boundaries text from stop ≡ from ∷ filter (is_boundary text) (numbers_from (stop - from) (from + 1))
from_here text from stop b le =
    let n : stop + 1 - from ≡ suc (stop - from) = omega arith in
    ap (λ k. filter (is_boundary text) (numbers_from k from)) n
    ∙ cond-true (is_boundary text from) _ _ (test_of_IsCharBoundary text from b)

-- after a character that ends in time comes the next place
pub next_place : (text : List ℕ) (from stop c : ℕ) → IsCharBoundary text from → char_at text from ≡ Some c → len_utf8 c ≤ stop - from → from ≤ stop
    → boundaries text from stop ≡ from ∷ boundaries text (from + len_utf8 c) stop
next_place text from stop c b found fits le =
    let w : ℕ = len_utf8 c in
    let some = len_utf8_bounds c in
    let n : stop - from - (w - 1) ≡ stop + 1 - (from + w) = omega arith in
    let k : from + 1 + (w - 1) ≡ from + w = omega arith in
    from_here text from stop b le
    ∙ ap (λ ps. from ∷ ps)
    (skipped text (w - 1) (stop - from) (from + 1) (λ j low high. inside_char text from c j found (omega arith) (omega arith)) (omega arith)
    ∙ ap (λ m. filter (is_boundary text) (numbers_from m (from + 1 + (w - 1)))) n
    ∙ ap (λ j. filter (is_boundary text) (numbers_from (stop + 1 - (from + w)) j)) k)

-- after a character that ends too late comes none
pub last_place : (text : List ℕ) (from stop c : ℕ) → IsCharBoundary text from → char_at text from ≡ Some c → stop - from < len_utf8 c → from ≤ stop
    → boundaries text from stop ≡ from ∷ []
last_place text from stop c b found late le =
    let n : stop - from - (stop - from) ≡ 0 = omega arith in
    from_here text from stop b le
    ∙ ap (λ ps. from ∷ ps)
    (skipped text (stop - from) (stop - from) (from + 1) (λ j low high. inside_char text from c j found (omega arith) (omega arith)) (omega arith)
    ∙ ap (λ m. filter (is_boundary text) (numbers_from m (from + 1 + (stop - from)))) n)

-- and none at the end of the text
pub end_place : (text : List ℕ) (from stop : ℕ) → IsUtf8 text → IsCharBoundary text from → char_at text from ≡ None → from ≤ stop → stop ≤ length text
    → boundaries text from stop ≡ from ∷ []
end_place text from stop u b none le inside =
    elim (cases_lt from (length text)) [
      | inl lt ↦ absurd (char_of text from (IsUtf8-drop text from u b) lt none)
      | inr ge ↦
          let n : stop - from ≡ 0 = omega arith in
          from_here text from stop b le ∙ ap (λ m. from ∷ filter (is_boundary text) (numbers_from m (from + 1))) n
    ]
