-- Characters of a text that are not ASCII, and their classes.
use Rattle.std.proofs.Common.{◌≡◌, ◌∙◌, inl, inr, ℕ, ◌+◌, ◌*◌, ◌/◌, ◌%◌, ◌<◌, ◌≤◌, Bool, true, List, [], ◌∷◌, length, drop, Option, Some, None, refl, sym, ap, ap₂, subst, arith, ⊎_elim, lt-ltb, le-ltb, length-drop, slice_index, IsCharBoundary, IsUtf8}
use Rattle.std.specs.Char.{IsScalar, len_utf8}
use Rattle.std.specs.Str.{encode_utf8_all}
use Rattle.std.proofs.lemmas.Bool.{cond-true, cond-false, cases_lt, and_parts}
use Rattle.std.proofs.lemmas.Option.{none-some}
use Rattle.std.proofs.lemmas.Str.{IsUtf8-drop}
use lib.Utf8.{scalars}
use Rattle.regex_hir.specs.Text.{char_at, char_before}
use Rattle.regex_hir.proofs.TextLemmas.{char_at_from, char_at_parts}
use Rattle.regex_hir.proofs.Utf8Lemmas.{char_at_cases, IsOneByteAt, IsTwoBytesAt, IsThreeBytesAt, IsFourBytesAt}
use Rattle.fancy_regex_class.proofs.AdjacentCharLemmas.{char_before_past, boundary_past}
use Rattle.fancy_regex_class.specs.declared.class.CharClassMatcher.{CharClassMatcher}
use Rattle.fancy_regex_table.specs.Tables.{IsCharTo}
use Rattle.fancy_regex_table.specs.Wides.{class_in, class_of, IsWideAt}
use Rattle.fancy_regex_table.specs.declared.wide.Wide.{Wide}

-- a text has a character at each boundary before its end
some_char : (text : List ℕ) (i : ℕ) (cs : List ℕ) → scalars cs ≡ true → encode_utf8_all cs ≡ drop i text → i < length text → char_at text i ≡ None → ⊥
some_char text i [] s e lt none = omega (arith, ap length e, length-drop i text)
some_char text i (c ∷ cs) s e lt none =
    none-some c (sym none ∙ char_at_from text i c (encode_utf8_all cs) ((and_parts _ _ s).0) (sym e))

char_of : (text : List ℕ) (i : ℕ) → IsUtf8 (drop i text) → i < length text → char_at text i ≡ None → ⊥
char_of text i u lt none = some_char text i u.0 u.1.0 u.1.1 lt none

pub two_long : (c : ℕ) → 0x80 ≤ c → c < 0x800 → len_utf8 c ≡ 2
two_long c low high = cond-false _ _ _ (le-ltb c 0x80 low) ∙ cond-true _ _ _ (lt-ltb c 0x800 high)

pub three_long : (c : ℕ) → 0x800 ≤ c → c < 0x1_0000 → len_utf8 c ≡ 3
three_long c low high = cond-false _ _ _ (le-ltb c 0x80 (omega arith)) ∙ cond-false _ _ _ (le-ltb c 0x800 low) ∙ cond-true _ _ _ (lt-ltb c 0x1_0000 high)

pub four_long : (c : ℕ) → 0x1_0000 ≤ c → len_utf8 c ≡ 4
four_long c low = cond-false _ _ _ (le-ltb c 0x80 (omega arith)) ∙ cond-false _ _ _ (le-ltb c 0x800 (omega arith)) ∙ cond-false _ _ _ (le-ltb c 0x1_0000 low)

-- a character begins here that is not ASCII
pub wide_here : (text : List ℕ) (at : ℕ) → IsUtf8 text → IsWideAt text at → (c : ℕ) × (char_at text at ≡ Some c) × (128 ≤ c)
wide_here text at utf8 wide = found (char_at text at) refl
  where
    found : (o : Option ℕ) → char_at text at ≡ o → (c : ℕ) × (char_at text at ≡ Some c) × (128 ≤ c)
    found None none = absurd (char_of text at (IsUtf8-drop text at utf8 wide.boundary) wide.inside none)
    found (Some c) here = elim (cases_lt c 128) [
      | inl small ↦
          let byte = wide.byte in
          ⊎_elim
          (λ (one : IsOneByteAt text at c). absurd (omega (arith, one.2, byte)))
          (⊎_elim
          (λ (two : IsTwoBytesAt text at c). absurd (omega (arith, two.0, small)))
          (⊎_elim
          (λ (three : IsThreeBytesAt text at c). absurd (omega (arith, three.0, small)))
          (λ (four : IsFourBytesAt text at c). absurd (omega (arith, four.0, small)))))
          (char_at_cases text at c here).1
      | inr low ↦ (c, here, low)
    ]

-- the place after a character
pub char_to : (text : List ℕ) (at c next : ℕ) → IsUtf8 text → IsCharBoundary text at → char_at text at ≡ Some c → next ≡ at + len_utf8 c → IsCharTo text at c next
char_to text at c next utf8 boundary here next_is = record {
  here = here;
  before_next = ap (char_before text) next_is ∙ char_before_past text at c here;
  boundary_next = subst (IsCharBoundary text) (sym next_is) (boundary_past text at utf8 boundary (Some c) here);
  next_is = next_is;
}

-- a continuation byte begins no character
continues : (text : List ℕ) (p low : ℕ) → p < length text → low < 64 → slice_index text p ≡ 128 + low → IsCharBoundary text p → ⊥
continues text p low lt small is boundary = let lead = boundary.1 lt (omega (arith, is)) in omega (arith, lead, is, small)

-- inside a character there is no boundary
pub alone_to : (text : List ℕ) (at c next p : ℕ) → IsCharTo text at c next → at < p → p < next → IsCharBoundary text p → ⊥
alone_to text at c next p to low high boundary =
    let next_is = to.next_is in
    ⊎_elim
    (λ (one : IsOneByteAt text at c). let long : len_utf8 c ≡ 1 = cond-true _ _ _ (lt-ltb c 0x80 one.0) in omega (arith, next_is, long, low, high))
    (⊎_elim
    (λ (two : IsTwoBytesAt text at c).
    let long = two_long c two.0 two.1 in
    let second : p ≡ at + 1 = omega (arith, next_is, long, low, high) in
    continues text (at + 1) (c % 64) two.2 (omega arith) two.4 (subst (IsCharBoundary text) second boundary))
    (⊎_elim
    (λ (three : IsThreeBytesAt text at c).
    let long = three_long c three.0 three.1 in
    elim (cases_lt p (at + 2)) [
      | inl near ↦
          let second : p ≡ at + 1 = omega (arith, low, near) in
          continues text (at + 1) ((c / 64) % 64) (omega (arith, three.2)) (omega arith) three.4 (subst (IsCharBoundary text) second boundary)
      | inr far ↦
          let third : p ≡ at + 2 = omega (arith, next_is, long, far, high) in
          continues text (at + 2) (c % 64) three.2 (omega arith) three.5 (subst (IsCharBoundary text) third boundary)
    ])
    (λ (four : IsFourBytesAt text at c).
    let long = four_long c four.0 in
    elim (cases_lt p (at + 2)) [
      | inl near ↦
          let second : p ≡ at + 1 = omega (arith, low, near) in
          continues text (at + 1) ((c / 4096) % 64) (omega (arith, four.1)) (omega arith) four.3 (subst (IsCharBoundary text) second boundary)
      | inr far ↦ elim (cases_lt p (at + 3)) [
        | inl third_is ↦
            let third : p ≡ at + 2 = omega (arith, far, third_is) in
            continues text (at + 2) ((c / 64) % 64) (omega (arith, four.1)) (omega arith) four.4 (subst (IsCharBoundary text) third boundary)
        | inr last ↦
            let fourth : p ≡ at + 3 = omega (arith, next_is, long, last, high) in
            continues text (at + 3) (c % 64) four.1 (omega arith) four.5 (subst (IsCharBoundary text) fourth boundary)
      ]
    ])))
    (char_at_cases text at c to.here).1

module _ (unicode : Bool) (matchers : List CharClassMatcher) (wide : Wide) (text : List ℕ) (at c : ℕ) (low : 128 ≤ c) (here : char_at text at ≡ Some c) where
  abbrev byte_at : ℕ → ℕ
  byte_at i = slice_index text i

  in_row : (row place : ℕ) → c < 65536 → c / 64 ≡ row → c % 64 ≡ place → class_of unicode matchers wide c ≡ class_in wide row place
  in_row row place below is_row is_place = cond-true _ _ _ (lt-ltb c 65536 below) ∙ ap₂ (class_in wide) is_row is_place

  -- a character of two bytes
  pub decode_two : byte_at at < 224 → (at + 1 < length text) × (len_utf8 c ≡ 2) × (class_of unicode matchers wide c ≡ class_in wide (byte_at at % 32) (byte_at (at + 1) % 64))
  decode_two first =
      ⊎_elim
      (λ (one : IsOneByteAt text at c). absurd (omega (arith, one.0, low)))
      (⊎_elim
      (λ (two : IsTwoBytesAt text at c).
      (two.2, two_long c two.0 two.1, in_row (byte_at at % 32) (byte_at (at + 1) % 64) (omega (arith, two.1)) (omega (arith, two.1, two.3)) (omega (arith, two.4))))
      (⊎_elim
      (λ (three : IsThreeBytesAt text at c). absurd (omega (arith, three.3, first)))
      (λ (four : IsFourBytesAt text at c). absurd (omega (arith, four.2, first)))))
      (char_at_cases text at c here).1

  -- of three
  pub decode_three : 224 ≤ byte_at at → byte_at at < 240
      → (at + 2 < length text) × (len_utf8 c ≡ 3)
      × (class_of unicode matchers wide c ≡ class_in wide (byte_at at % 16 * 64 + byte_at (at + 1) % 64) (byte_at (at + 2) % 64))
  decode_three above below =
      ⊎_elim
      (λ (one : IsOneByteAt text at c). absurd (omega (arith, one.0, low)))
      (⊎_elim
      (λ (two : IsTwoBytesAt text at c). absurd (omega (arith, two.1, two.3, above)))
      (⊎_elim
      (λ (three : IsThreeBytesAt text at c). (
        three.2,
        three_long c three.0 three.1,
        in_row (byte_at at % 16 * 64 + byte_at (at + 1) % 64) (byte_at (at + 2) % 64) three.1 (omega (arith, three.1, three.3, three.4)) (omega (arith, three.5)),
      ))
      (λ (four : IsFourBytesAt text at c). absurd (omega (arith, four.2, below)))))
      (char_at_cases text at c here).1

  -- of four
  pub decode_four : 240 ≤ byte_at at → (at + 3 < length text) × (len_utf8 c ≡ 4)
  decode_four above =
      ⊎_elim
      (λ (one : IsOneByteAt text at c). absurd (omega (arith, one.0, low)))
      (⊎_elim
      (λ (two : IsTwoBytesAt text at c). absurd (omega (arith, two.1, two.3, above)))
      (⊎_elim
      (λ (three : IsThreeBytesAt text at c). absurd (omega (arith, three.1, three.3, above)))
      (λ (four : IsFourBytesAt text at c). (four.1, four_long c four.0))))
      (char_at_cases text at c here).1

  pub scalar_here : IsScalar c
  scalar_here = (char_at_parts text at c here).0
