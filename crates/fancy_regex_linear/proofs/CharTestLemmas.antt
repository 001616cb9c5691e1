-- What looks at a text show of it is what the meaning of a plain pattern sees.
use Rattle.std.proofs.Common.{◌≡◌, ℕ, zero, suc, ◌+◌, ◌<◌, ◌≤◌, ◌==◌, Bool, true, false, not, ◌&&◌, ◌||◌, List, [], ◌∷◌, ◌++◌, length, drop, Option, Some, None, slice_get, slice_index, encode_utf8, IsUtf8, IsCharBoundary, refl, sym, ap, ap₂, ◌∙◌, inl, inr, ⊎_elim, arith, eq-eqb, ne_eqb, lt-ltb, le-ltb, append_assoc, length-append}
use Rattle.std.specs.Prelude.{is_none}
use Rattle.std.specs.Str.{encode_utf8_all}
use lib.Utf8.{scalar, scalars}
use Rattle.std.specs.Char.{len_utf8, IsScalar}
use Rattle.std.proofs.lemmas.Bool.{cases_lt, cond-true, cond-false, and_parts}
use Rattle.std.proofs.lemmas.List.{take-append-drop, length-take-le}
use Rattle.std.proofs.lemmas.Option.{slice_get-get_or, slice_get_past}
use Rattle.std.proofs.lemmas.Str.{IsUtf8-take, IsUtf8-drop, length-encode, drop_past_char, len_utf8_bounds}
use Rattle.regex_hir.specs.Text.{is_some_and, byte_before, char_at, char_before}
use Rattle.regex_hir.proofs.TextLemmas.{char_at_from, char_at_parts, char_at_fits, char_before-zero, byte_before-zero, byte_before-add-one}
use Rattle.regex_hir.proofs.Utf8Lemmas.{char_at_cases, IsOneByteAt, IsTwoBytesAt, IsThreeBytesAt, IsFourBytesAt}
use Rattle.fancy_regex_tree.specs.Tree.{Text}
use Rattle.fancy_regex_tree.specs.declared.expr.Assertion.TheVariants as A
use Rattle.fancy_regex_meaning.specs.Positions.{is_after_byte, is_before_byte, is_at_end}
use Rattle.fancy_regex_meaning.specs.Ways.{Setting, holds}
use Rattle.fancy_regex_class.specs.Classes.{in_class}
use Rattle.fancy_regex_class.specs.Matchers.{has}
use Rattle.fancy_regex_class.specs.declared.class.CharClassMatcher.{CharClassMatcher}
use Rattle.fancy_regex_class.proofs.AdjacentCharLemmas.{char_before_past}
use Rattle.fancy_regex_states.specs.Attempts.{ShowsAll}
use Rattle.fancy_regex_states.specs.CharTests.{leaf_matches_char, is_char, begins_line, passes}
use Rattle.fancy_regex_linear.specs.SettingView.{leaf_matches, test_holds, view_of}
use Rattle.fancy_regex_linear.specs.Easy.{HaveMatchers, rules_for}
use Rattle.fancy_regex_class.specs.RunInputs.{setting_for}
use Rattle.fancy_regex_states.specs.declared.atom.Leaf.{Leaf}
use Rattle.fancy_regex_states.specs.declared.atom.Leaf.TheVariants.{Any, Char, Folded, Class}
use Rattle.fancy_regex_states.specs.declared.atom.Test.{Test}
use Rattle.fancy_regex_states.specs.declared.atom.Test.TheVariants.{StartText, EndText, StartLine, EndLine, WordBoundary, NotWordBoundary, LeftWordBoundary, RightWordBoundary, LeftWordHalfBoundary, RightWordHalfBoundary, StartLineOniguruma, Never, Continue, LookAhead, LookAheadNeg, LookBehind, LookBehindNeg}
use Rattle.fancy_regex_class.specs.declared.input.RunInput.{RunInput}
use Rattle.fancy_regex_meaning.proofs.NextBoundaryLemmas.{char_of}

-- the byte at a place, by the character there
pub byte_at : (text : List ℕ) (b p c : ℕ) → b < 128 → char_at text p ≡ Some c → is_before_byte text b p ≡ (c == b)
byte_at text b p c low found =
    let cases = char_at_cases text p c found in
    ⊎_elim
    (λ (at : IsOneByteAt text p c). rw (slice_get-get_or text p 0 at.1) (ap (λ x. x == b) at.2))
    (λ wide.
    let big : 128 ≤ c = ⊎_elim (λ (at : IsTwoBytesAt text p c). at.0) (⊎_elim (λ (at : IsThreeBytesAt text p c). let h = at.0 in omega arith) (λ (at : IsFourBytesAt text p c). let h = at.0 in omega arith)) wide in
    let lead : (p < length text) × (128 ≤ slice_index text p) =
    ⊎_elim (λ (at : IsTwoBytesAt text p c). (omega (arith, at.2), omega (arith, at.3)))
    (⊎_elim (λ (at : IsThreeBytesAt text p c). (omega (arith, at.2), omega (arith, at.3))) (λ (at : IsFourBytesAt text p c). (omega (arith, at.1), omega (arith, at.2)))) wide in
    rw (slice_get-get_or text p 0 lead.0) (ne_eqb (slice_index text p) b (omega (arith, lead.1)) ∙ sym (ne_eqb c b (omega arith))))
    cases.1

-- a continuation byte is no ASCII byte
continued : (text : List ℕ) (b q low : ℕ) → b < 128 → q < length text → slice_index text q ≡ 128 + low → is_after_byte text b (q + 1) ≡ false
continued text b q low small inside is =
    ap (λ o. is_some_and o (λ c. c == b)) (byte_before-add-one text q ∙ slice_get-get_or text q 0 inside) ∙ ne_eqb (slice_index text q) b (omega arith)

-- the byte before a place, by the character that ends there
byte_after : (text : List ℕ) (b j c : ℕ) → b < 128 → char_at text j ≡ Some c → is_after_byte text b (j + len_utf8 c) ≡ (c == b)
byte_after text b j c low found =
    let wide : 128 ≤ c → (c == b) ≡ false = λ h. ne_eqb c b (omega arith) in
    ⊎_elim
    (λ (at : IsOneByteAt text j c).
    let long : len_utf8 c ≡ 1 = cond-true _ _ _ (lt-ltb c 0x80 at.0) in
    ap (λ n. is_after_byte text b (j + n)) long
    ∙ ap (λ o. is_some_and o (λ d. d == b)) (byte_before-add-one text j ∙ slice_get-get_or text j 0 at.1) ∙ ap (λ x. x == b) at.2)
    (⊎_elim
    (λ (at : IsTwoBytesAt text j c).
    let long : len_utf8 c ≡ 2 = cond-false _ _ _ (le-ltb c 0x80 at.0) ∙ cond-true _ _ _ (lt-ltb c 0x800 at.1) in
    let place : j + len_utf8 c ≡ j + 1 + 1 = omega arith in
    ap (is_after_byte text b) place ∙ continued text b (j + 1) _ low at.2 at.4 ∙ sym (wide at.0))
    (⊎_elim
    (λ (at : IsThreeBytesAt text j c).
    let long : len_utf8 c ≡ 3 = cond-false _ _ _ (le-ltb c 0x80 (omega arith)) ∙ cond-false _ _ _ (le-ltb c 0x800 at.0) ∙ cond-true _ _ _ (lt-ltb c 0x1_0000 at.1) in
    let place : j + len_utf8 c ≡ j + 2 + 1 = omega arith in
    ap (is_after_byte text b) place ∙ continued text b (j + 2) _ low at.2 at.5 ∙ sym (wide (omega arith)))
    (λ (at : IsFourBytesAt text j c).
    let long : len_utf8 c ≡ 4 = cond-false _ _ _ (le-ltb c 0x80 (omega arith)) ∙ cond-false _ _ _ (le-ltb c 0x800 (omega arith)) ∙ cond-false _ _ _ (le-ltb c 0x1_0000 at.0) in
    let place : j + len_utf8 c ≡ j + 3 + 1 = omega arith in
    ap (is_after_byte text b) place ∙ continued text b (j + 3) _ low at.1 at.5 ∙ sym (wide (omega arith)))))
    (char_at_cases text j c found).1

-- the character that ends at a place
last_char : (text post : List ℕ) (cs : List ℕ) (c i : ℕ) → scalars (c ∷ cs) ≡ true → drop i text ≡ encode_utf8_all (c ∷ cs) ++ post
    → (j : ℕ) × (d : ℕ) × (char_at text j ≡ Some d) × (j + len_utf8 d ≡ i + length (encode_utf8_all (c ∷ cs)))
last_char text post [] c i s e =
    let whole = append_assoc (encode_utf8 c) [] post in
    let found = char_at_from text i c ([] ++ post) (and_parts _ _ s).0 (e ∙ whole) in
    (i, c, found, omega (arith, length-append (encode_utf8 c) [], length-encode c))
last_char text post (d ∷ ds) c i s e =
    let whole = append_assoc (encode_utf8 c) (encode_utf8_all (d ∷ ds)) post in
    let next = drop_past_char text (encode_utf8_all (d ∷ ds) ++ post) i c (e ∙ whole) in
    let later : scalars (d ∷ ds) ≡ true = (and_parts (scalar c) (scalars (d ∷ ds)) s).1 in
    let rest = last_char text post ds d (i + len_utf8 c) later next in
    (rest.0, rest.1, rest.2, omega (arith, rest.3, length-append (encode_utf8 c) (encode_utf8_all (d ∷ ds)), length-encode c))

-- the character before an offset
abbrev pub Before : List ℕ → ℕ → Type 0
Before text p = (c : ℕ) × (char_before text p ≡ Some c) × ((b : ℕ) → b < 128 → is_after_byte text b p ≡ (c == b)) × IsScalar c

before_from : (text post : List ℕ) (p : ℕ) (cs : List ℕ) → scalars cs ≡ true → text ≡ encode_utf8_all cs ++ post → length (encode_utf8_all cs) ≡ p → 0 < p → Before text p
before_from text post p [] s e len some = absurd (omega arith)
before_from text post p (c ∷ cs) s e len some =
    let last = last_char text post cs c 0 s e in
    let place : last.0 + len_utf8 last.1 ≡ p = omega (arith, last.3) in (
      last.1,
      ap (char_before text) (sym place) ∙ char_before_past text last.0 last.1 last.2,
      λ b low. ap (is_after_byte text b) (sym place) ∙ byte_after text b last.0 last.1 low last.2,
      (char_at_parts text last.0 last.1 last.2).0,
    )

pub before_some : (text : List ℕ) (p : ℕ) → IsUtf8 text → IsCharBoundary text p → 0 < p → Before text p
before_some text p u b some =
    let front = IsUtf8-take text p u b in
    before_from text (drop p text) p front.0 front.1.0 (sym (take-append-drop p text) ∙ ap (λ xs. xs ++ drop p text) (sym front.1.1))
    (ap length front.1.1 ∙ length-take-le p text b.0) some

-- the matchers take what the classes have
served_same : (unicode : Bool) (ms : List CharClassMatcher) (cs : List (Text × Bool)) (k c : ℕ) → HaveMatchers unicode ms cs → IsScalar c
    → is_some_and (slice_get cs k) (λ p. in_class unicode p.0 p.1 c) ≡ is_some_and (slice_get ms k) (λ m. has m c)
served_same unicode [] [] k c h scalar = refl
served_same unicode (m ∷ ms) (x ∷ xs) zero c h scalar = sym (h.0 c scalar)
served_same unicode (m ∷ ms) (x ∷ xs) (suc k) c h scalar = served_same unicode ms xs k c h.1 scalar
served_same unicode [] (x ∷ xs) k c h scalar = absurd h
served_same unicode (m ∷ ms) [] k c h scalar = absurd h

module _ (unicode longest : Bool) (text : List ℕ) (input : RunInput) (ms : List CharClassMatcher) (cs : List (Text × Bool)) (serve : HaveMatchers unicode ms cs) where
  takes_same : (leaf : Leaf) (c : ℕ) → IsScalar c → leaf_matches (setting_for unicode text input) cs leaf c ≡ leaf_matches_char unicode ms leaf c
  takes_same (Any newline crlf) c scalar = refl
  takes_same (Char d) c scalar = refl
  takes_same (Folded d) c scalar = refl
  takes_same (Class k) c scalar = served_same unicode ms cs k c serve scalar

  taken : (leaf : Leaf) (p : ℕ) (o : Option ℕ) → char_at text p ≡ o → is_some_and o (leaf_matches (setting_for unicode text input) cs leaf) ≡ is_some_and o (leaf_matches_char unicode ms leaf)
  taken leaf p None e = refl
  taken leaf p (Some c) e = takes_same leaf c (char_at_parts text p c e).0

module _ (text : List ℕ) (p : ℕ) (u : IsUtf8 text) (b : IsCharBoundary text p) where
  start_is : (p == 0) ≡ is_none (char_before text p)
  start_is = elim (cases_lt 0 p) [
    | inl some ↦ let h = before_some text p u b some in ne_eqb p 0 (omega arith) ∙ sym (ap is_none h.1)
    | inr none ↦ let zero_is : p ≡ 0 = omega arith in eq-eqb p 0 zero_is ∙ sym (ap is_none (ap (char_before text) zero_is ∙ char_before-zero text))
  ]

  after_is : (d : ℕ) → d < 128 → is_after_byte text d p ≡ is_char d (char_before text p)
  after_is d low = elim (cases_lt 0 p) [
    | inl some ↦ let h = before_some text p u b some in h.2 d low ∙ sym (ap (is_char d) h.1)
    | inr none ↦
        let zero_is : p ≡ 0 = omega arith in
        ap (λ o. is_some_and o (λ c. c == d)) (ap (byte_before text) zero_is ∙ byte_before-zero text)
        ∙ sym (ap (is_char d) (ap (char_before text) zero_is ∙ char_before-zero text))
  ]

  here : (o : Option ℕ) → char_at text p ≡ o → (p == length text) ≡ is_none o
  here None e = elim (cases_lt p (length text)) [
    | inl lt ↦ absurd (char_of text p (IsUtf8-drop text p u b) lt e)
    | inr ge ↦ eq-eqb p (length text) (omega (arith, b.0))
  ]
  here (Some c) e = ne_eqb p (length text) (omega (arith, char_at_fits text p c e, len_utf8_bounds c))

  end_is : is_at_end text p ≡ is_none (char_at text p)
  end_is = here (char_at text p) refl

  byte_here : (d : ℕ) → d < 128 → (o : Option ℕ) → char_at text p ≡ o → is_before_byte text d p ≡ is_char d o
  byte_here d low None e = elim (cases_lt p (length text)) [
    | inl lt ↦ absurd (char_of text p (IsUtf8-drop text p u b) lt e)
    | inr ge ↦ ap (λ o. is_some_and o (λ c. c == d)) (slice_get_past text p ge)
  ]
  byte_here d low (Some c) e = byte_at text d p c low e

  before_is : (d : ℕ) → d < 128 → is_before_byte text d p ≡ is_char d (char_at text p)
  before_is d low = byte_here d low (char_at text p) refl

  -- a test, by the characters beside the place
  module _ (unicode longest : Bool) (input : RunInput) (ms : List CharClassMatcher) (cs : List (Text × Bool)) (serve : HaveMatchers unicode ms cs) where
    abbrev s : Setting
    s = setting_for unicode text input

    after_same : (leaf : Leaf) → is_some_and (char_at text p) (leaf_matches s cs leaf) ≡ is_some_and (char_at text p) (leaf_matches_char unicode ms leaf)
    after_same leaf = taken unicode longest text input ms cs serve leaf p (char_at text p) refl

    before_same : (leaf : Leaf) → is_some_and (char_before text p) (leaf_matches s cs leaf) ≡ is_some_and (char_before text p) (leaf_matches_char unicode ms leaf)
    before_same leaf = elim (cases_lt 0 p) [
      | inl some ↦
          let h = before_some text p u b some in
          rw h.1 (takes_same unicode longest text input ms cs serve leaf h.0 h.3)
      | inr none ↦
          let zero_is : p ≡ 0 = omega arith in
          let nothing : char_before text p ≡ None = ap (char_before text) zero_is ∙ char_before-zero text in
          rw nothing refl
    ]

    line_same : (crlf : Bool) → holds s (A.StartLine crlf) p ≡ begins_line crlf (char_before text p) (char_at text p)
    line_same crlf =
        ap (λ x. x || is_after_byte text 10 p || (crlf && is_after_byte text 13 p && not (is_before_byte text 10 p))) start_is
        ∙ ap (λ x. is_none (char_before text p) || x || (crlf && is_after_byte text 13 p && not (is_before_byte text 10 p))) (after_is 10 (omega arith))
        ∙ ap (λ x. is_none (char_before text p) || is_char 10 (char_before text p) || (crlf && x && not (is_before_byte text 10 p))) (after_is 13 (omega arith))
        ∙ ap (λ x. is_none (char_before text p) || is_char 10 (char_before text p) || (crlf && is_char 13 (char_before text p) && not x)) (before_is 10 (omega arith))

    tests_same : (test : Test) → test_holds s cs test p ≡ passes ms (rules_for unicode longest input) test p (char_before text p) (char_at text p)
    tests_same StartText = ap (λ x. x && not input.no_start_text) start_is
    tests_same EndText = ap (λ x. x && not input.no_end_text) end_is
    tests_same (StartLine crlf) = line_same crlf
    tests_same (EndLine false) = ap₂ ◌||◌ end_is (before_is 10 (omega arith))
    tests_same (EndLine true) =
        ap (λ x. x || is_before_byte text 13 p || (is_before_byte text 10 p && not (is_after_byte text 13 p))) end_is
        ∙ ap (λ x. is_none (char_at text p) || x || (is_before_byte text 10 p && not (is_after_byte text 13 p))) (before_is 13 (omega arith))
        ∙ ap (λ x. is_none (char_at text p) || is_char 13 (char_at text p) || (x && not (is_after_byte text 13 p))) (before_is 10 (omega arith))
        ∙ ap (λ x. is_none (char_at text p) || is_char 13 (char_at text p) || (is_char 10 (char_at text p) && not x)) (after_is 13 (omega arith))
    tests_same WordBoundary = refl
    tests_same NotWordBoundary = refl
    tests_same LeftWordBoundary = refl
    tests_same RightWordBoundary = refl
    tests_same LeftWordHalfBoundary = refl
    tests_same RightWordHalfBoundary = refl
    tests_same (StartLineOniguruma crlf) = ap₂ (λ x y. x && not y) (line_same crlf) (ap₂ ◌&&◌ end_is (after_is 10 (omega arith)))
    tests_same Never = refl
    tests_same Continue = refl
    tests_same (LookAhead leaf) = after_same leaf
    tests_same (LookAheadNeg leaf) = ap not (after_same leaf)
    tests_same (LookBehind leaf) = before_same leaf
    tests_same (LookBehindNeg leaf) = ap not (before_same leaf)

module _ (unicode longest : Bool) (text : List ℕ) (input : RunInput) (ms : List CharClassMatcher) (cs : List (Text × Bool)) (serve : HaveMatchers unicode ms cs) where
  -- what looks show is what the meaning sees
  pub shows_all : IsUtf8 text → ShowsAll ms (rules_for unicode longest input) text (view_of (setting_for unicode text input) cs longest)
  shows_all u p b = record {
    has = λ leaf. taken unicode longest text input ms cs serve leaf p (char_at text p) refl;
    next = refl;
    back = refl;
    holds = tests_same text p u b unicode longest input ms cs serve;
    no_parts = refl;
  }
