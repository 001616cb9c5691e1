-- Characters stand between character boundaries.
use Rattle.std.proofs.Common.{◌≡◌, ℕ, suc, ◌+◌, ◌-◌, ◌≤◌, Bool, true, false, cond, List, length, Option, Some, None, refl, sym, ap, ◌∙◌, subst, arith, ⊎_elim, inl, inr, nat_le, ◌==◌, ◌&&◌}
use Rattle.std.specs.Prelude.{◌↔◌, IsTrue, slice_index, IfSome, option_and_then}
use Rattle.fancy_regex_meaning.specs.Positions.{position_before}
use Rattle.std.specs.Str.{IsUtf8, IsCharBoundary}
use Rattle.std.specs.Char.{len_utf8}
use Rattle.std.proofs.lemmas.Bool.{false≢true, and_parts, and_from, le-leb, leb-true, eqb-true, cases_lt}
use Rattle.std.proofs.lemmas.Option.{none-some, same_Some, slice_get-get_or, slice_get_past}
use Rattle.std.proofs.lemmas.Bool.Decides.{nat_tests}
use Rattle.std.proofs.lemmas.Str.{IsUtf8-drop, IsCharBoundary-past_char}
use Rattle.regex_hir.specs.Text.{is_some_and, char_at, char_before, char_of_len_before, is_boundary}
use Rattle.regex_hir.proofs.TextLemmas.{char_at_fits, char_at_parts}
use Rattle.regex_hir.proofs.Utf8Lemmas.{char_at_cases, IsOneByteAt, IsTwoBytesAt, IsThreeBytesAt, IsFourBytesAt}
use Rattle.fancy_regex_meaning.proofs.BoundaryLemmas.{IsCharBoundary-of_test}
use Rattle.fancy_regex_meaning.specs.Ways.{Setting}
use Rattle.fancy_regex_program.specs.Machine.{is_valid_offset, is_valid_span}
use Rattle.regex_hir.proofs.OptionLemmas.{none_of_no_value, option_or_cases}

-- the lead byte of a character is no continuation byte
is_lead : (hay : List ℕ) (i c : ℕ) → char_at hay i ≡ Some c → 128 ≤ slice_index hay i → 192 ≤ slice_index hay i
is_lead hay i c e high =
    ⊎_elim (λ (x : IsOneByteAt hay i c). absurd (omega (arith, x.0, x.2)))
    (⊎_elim (λ (x : IsTwoBytesAt hay i c). omega (arith, x.3))
    (⊎_elim (λ (x : IsThreeBytesAt hay i c). omega (arith, x.3)) (λ (x : IsFourBytesAt hay i c). omega (arith, x.2))))
    (char_at_cases hay i c e).1

-- the text may be cut where a character begins
pub starts_character : (hay : List ℕ) (i c : ℕ) → char_at hay i ≡ Some c → IsCharBoundary hay i
starts_character hay i c e = (omega (arith, char_at_fits hay i c e), λ lt high. is_lead hay i c e high)

-- and where it ends
pub ends_character : (hay : List ℕ) (i c : ℕ) → IsUtf8 hay → char_at hay i ≡ Some c → IsCharBoundary hay (i + len_utf8 c)
ends_character hay i c u e =
    let here = starts_character hay i c e in
    IsCharBoundary-past_char hay _ i c here.0 (IsUtf8-drop hay i u here) (char_at_parts hay i c e).1

-- a character of so many bytes that ends at i
ends_there : (hay : List ℕ) (n i c : ℕ) → char_of_len_before hay n i ≡ Some c → (n ≤ i) × (len_utf8 c ≡ n) × (char_at hay (i - n) ≡ Some c)
ends_there hay n i c e = let parts = passes (nat_le n i) (char_at hay (i - n)) e in (leb-true n i parts.0, parts.1, parts.2)
  where
    tested : (b : Bool) (x : ℕ) → cond b (Some x) None ≡ Some c → (b ≡ true) × (x ≡ c)
    tested true x e = (refl, same_Some x c e)
    tested false x e = absurd (none-some c e)

    passes : (b : Bool) (o : Option ℕ) → cond (b && is_some_and o (λ x. len_utf8 x == n)) o None ≡ Some c → (b ≡ true) × (len_utf8 c ≡ n) × (o ≡ Some c)
    passes false o e = absurd (none-some c e)
    passes true None e = absurd (none-some c e)
    passes true (Some x) e =
        let both = tested (len_utf8 x == n) x e in
        (refl, ap len_utf8 (sym both.1) ∙ eqb-true (len_utf8 x) n both.0, ap Some both.1)

-- where a character that ends at i begins
abbrev pub Begins : List ℕ → ℕ → ℕ → Type 0
Begins hay i c = (len_utf8 c ≤ i) × (char_at hay (i - len_utf8 c) ≡ Some c)

at_length : (hay : List ℕ) (n i c : ℕ) → char_of_len_before hay n i ≡ Some c → Begins hay i c
at_length hay n i c e =
    let parts = ends_there hay n i c e in
    (omega (arith, parts.0, parts.1), subst (λ m. char_at hay (i - m) ≡ Some c) (sym parts.1) parts.2)

pub begins_before : (hay : List ℕ) (i c : ℕ) → char_before hay i ≡ Some c → Begins hay i c
unfolding char_before
begins_before hay i c e =
    ⊎_elim (λ x. at_length hay 1 i c x)
    (λ x. ⊎_elim (λ y. at_length hay 2 i c y)
    (λ y. ⊎_elim (λ z. at_length hay 3 i c z) (λ z. at_length hay 4 i c z.1) (option_or_cases _ _ c y.1))
    (option_or_cases _ _ c x.1))
    (option_or_cases _ _ c e)

pub ends_before : (hay : List ℕ) (i c : ℕ) → IsUtf8 hay → char_before hay i ≡ Some c → IsCharBoundary hay i
ends_before hay i c u e =
    let begins = begins_before hay i c e in
    let same : i - len_utf8 c + len_utf8 c ≡ i = omega (arith, begins.0) in
    subst (IsCharBoundary hay) same (ends_character hay (i - len_utf8 c) c u begins.1)

-- no character begins or ends where the text may not be cut
pub none_at : (hay : List ℕ) (i : ℕ) → (IsCharBoundary hay i → ⊥) → char_at hay i ≡ None
none_at hay i uncut = none_of_no_value _ (λ c e. uncut (starts_character hay i c e))

pub none_before : (hay : List ℕ) (i : ℕ) → IsUtf8 hay → (IsCharBoundary hay i → ⊥) → char_before hay i ≡ None
none_before hay i u uncut = none_of_no_value _ (λ c e. uncut (ends_before hay i c u e))

pub room_before : (hay : List ℕ) (i : ℕ) (o : Option ℕ) → o ≡ char_before hay i → IfSome o (λ c. len_utf8 c ≤ i)
room_before hay i None e = tt
room_before hay i (Some c) e = (begins_before hay i c (sym e)).0

-- the test for a boundary
pub test_of_cut : (text : List ℕ) (i : ℕ) → IsCharBoundary text i → is_boundary text i ≡ true
unfolding is_boundary
test_of_cut text i b = elim (cases_lt i (length text)) [
  | inl lt ↦ rw (slice_get-get_or text i 0 lt) (let h = b.1 lt in grind (arith, nat_tests))
  | inr ge ↦ rw (slice_get_past text i ge) refl
]

-- what the tests for places say
pub cut_of_place : (text : List ℕ) (p : ℕ) → is_valid_offset text p ≡ true → IsCharBoundary text p
cut_of_place text p e =
    let both = and_parts _ _ e in
    IsCharBoundary-of_test text p (leb-true p (length text) both.0) both.1

pub place_of_cut : (text : List ℕ) (p : ℕ) → IsCharBoundary text p → is_valid_offset text p ≡ true
place_of_cut text p b = and_from _ _ (le-leb p (length text) b.0) (test_of_cut text p b)

pub ends_of : (s : Setting) (a b : ℕ) → is_valid_span s a b ≡ true → (a ≤ b) × IsCharBoundary s.text a × IsCharBoundary s.text b
ends_of s a b e =
    let outer = and_parts _ _ e in
    let inner = and_parts _ _ outer.0 in
    (leb-true a b inner.0, cut_of_place s.text a inner.1, cut_of_place s.text b outer.1)

pub no_place : (text : List ℕ) (p : ℕ) → (IsCharBoundary text p → ⊥) → is_valid_offset text p ≡ false
no_place text p uncut = (elim (is_valid_offset text p) as (λ b. is_valid_offset text p ≡ b → b ≡ false) [
  | true ↦ λ e. absurd (uncut (cut_of_place text p e))
  | false ↦ λ e. refl
]) refl

pub one_back : (text : List ℕ) (n m p c : ℕ) → n ≡ suc m → char_before text p ≡ Some c → position_before text n p ≡ position_before text m (p - len_utf8 c)
one_back text n m p c e found = ap (λ k. position_before text k p) e ∙ ap (option_and_then (λ d. position_before text m (p - len_utf8 d))) found

-- a step back, and the rest of the way
pub goes_back : (text : List ℕ) (n m p q : ℕ) → n ≡ suc m → Some q ≡ position_before text 1 p → position_before text n p ≡ position_before text m q
goes_back text n m p q e is = ap (λ k. position_before text k p) e ∙ by_char (char_before text p) is
  where
    by_char : (o : Option ℕ) → Some q ≡ option_and_then (λ c. position_before text 0 (p - len_utf8 c)) o → option_and_then (λ c. position_before text m (p - len_utf8 c)) o ≡ position_before text m q
    by_char None is = absurd (none-some q (sym is))
    by_char (Some c) is = ap (position_before text m) (sym (same_Some q _ is))

pub goes_nowhere : (text : List ℕ) (n m p : ℕ) → n ≡ suc m → None ≡ position_before text 1 p → None ≡ position_before text n p
goes_nowhere text n m p e is = by_char (char_before text p) is ∙ sym (ap (λ k. position_before text k p) e)
  where
    by_char : (o : Option ℕ) → None ≡ option_and_then (λ c. position_before text 0 (p - len_utf8 c)) o → None ≡ option_and_then (λ c. position_before text m (p - len_utf8 c)) o
    by_char None is = refl
    by_char (Some c) is = absurd (none-some _ is)

pub place_by_test : (text : List ℕ) (p : ℕ) (b : Bool) → IsTrue b ↔ IsCharBoundary text p → b ≡ is_valid_offset text p
place_by_test text p true test = sym (place_of_cut text p (test.0 refl))
place_by_test text p false test = sym (no_place text p (λ cut. false≢true (test.1 cut)))
