-- The characters before and after a place, as std's iterators give them.
use Rattle.std.proofs.Common.{◌≡◌, ℕ, ◌+◌, ◌-◌, ◌<◌, ◌≤◌, Bool, true, false, cond, List, ◌++◌, length, drop, take, Option, Some, None, sym, ap, subst, ◌∙◌, arith, length-append, length-drop, append_assoc, ⊎_elim, slice_index, slice_index_or, encode_utf8, le-leb, eq-eqb, lt-ltb, le-ltb, ◌==◌, IfSome, IsCharBoundary, IsUtf8}
use Rattle.std.specs.Prelude.{MatchOption}
use Rattle.std.proofs.Math.Seq.{drop-append_seam}
use Rattle.std.proofs.lemmas.List.{take-append-drop}
use Rattle.std.proofs.lemmas.Bool.{cond-true, cond-false, and_from}
use Rattle.std.proofs.lemmas.Option.{none-some, slice_get-get_or}
use Rattle.std.proofs.lemmas.Str.{length-encode, IsCharBoundary-past_char, IsUtf8-drop}
use Rattle.std.specs.Char.{IsScalar, len_utf8}
use Rattle.regex_hir.specs.Text.{is_some_and, char_at, char_of_len_before, char_before}
use Rattle.regex_hir.proofs.OptionLemmas.{none_of_no_value, option_or_first, option_or_second}
use Rattle.regex_hir.proofs.TextLemmas.{char_at_from, char_at_parts, char_at_ascii, char_at_past, char_before-zero}
use Rattle.regex_hir.proofs.Utf8Lemmas.{char_at_cases, IsOneByteAt, IsTwoBytesAt, IsThreeBytesAt, IsFourBytesAt}

-- no character starts with a continuation byte
pub no_char_at : (hay : List ℕ) (k low : ℕ) → low < 64 → slice_index hay k ≡ 128 + low → (d : ℕ) → char_at hay k ≡ Some d → ⊥
no_char_at hay k low small is d found = let cases = char_at_cases hay k d found in omega arith

kept : (b : Bool) (o : Option ℕ) (d : ℕ) → cond b o None ≡ Some d → o ≡ Some d
kept true o d e = e
kept false o d e = absurd (none-some d e)

none_before : (hay : List ℕ) (m i k low : ℕ) → i - m ≡ k → low < 64 → slice_index hay k ≡ 128 + low → char_of_len_before hay m i ≡ None
none_before hay m i k low place small is =
    none_of_no_value _ (λ d e. no_char_at hay k low small is d (ap (char_at hay) (sym place) ∙ kept _ _ d e))

some_before : (hay : List ℕ) (n j c : ℕ) → len_utf8 c ≡ n → char_at hay j ≡ Some c → char_of_len_before hay n (j + n) ≡ Some c
some_before hay n j c long found =
    let back : j + n - n ≡ j = omega arith in
    let here : char_at hay (j + n - n) ≡ Some c = ap (char_at hay) back ∙ found in
    let fits : is_some_and (char_at hay (j + n - n)) (λ d. len_utf8 d == n) ≡ true =
    ap (λ o. is_some_and o (λ d. len_utf8 d == n)) here ∙ eq-eqb _ n long in
    cond-true _ _ None (and_from _ _ (le-leb n (j + n) (omega arith)) fits) ∙ here

-- a character that stands at j stands before the place after it
module _ (hay : List ℕ) (j c : ℕ) (found : char_at hay j ≡ Some c) where
  past_one : len_utf8 c ≡ 1 → char_before hay (j + 1) ≡ Some c
  unfolding char_before
  past_one long = option_or_first _ _ c (some_before hay 1 j c long found)

  past_two : len_utf8 c ≡ 2 → IsTwoBytesAt hay j c → char_before hay (j + 2) ≡ Some c
  unfolding char_before
  past_two long at =
      option_or_second _ _ (none_before hay 1 (j + 2) (j + 1) _ (omega arith) (omega arith) at.4)
      ∙ option_or_first _ _ c (some_before hay 2 j c long found)

  past_three : len_utf8 c ≡ 3 → IsThreeBytesAt hay j c → char_before hay (j + 3) ≡ Some c
  unfolding char_before
  past_three long at =
      option_or_second _ _ (none_before hay 1 (j + 3) (j + 2) _ (omega arith) (omega arith) at.5)
      ∙ option_or_second _ _ (none_before hay 2 (j + 3) (j + 1) _ (omega arith) (omega arith) at.4)
      ∙ option_or_first _ _ c (some_before hay 3 j c long found)

  past_four : len_utf8 c ≡ 4 → IsFourBytesAt hay j c → char_before hay (j + 4) ≡ Some c
  unfolding char_before
  past_four long at =
      option_or_second _ _ (none_before hay 1 (j + 4) (j + 3) _ (omega arith) (omega arith) at.5)
      ∙ option_or_second _ _ (none_before hay 2 (j + 4) (j + 2) _ (omega arith) (omega arith) at.4)
      ∙ option_or_second _ _ (none_before hay 3 (j + 4) (j + 1) _ (omega arith) (omega arith) at.3)
      ∙ some_before hay 4 j c long found

  at_length : (n : ℕ) → len_utf8 c ≡ n → char_before hay (j + n) ≡ Some c → char_before hay (j + len_utf8 c) ≡ Some c
  at_length n long is = ap (λ m. char_before hay (j + m)) long ∙ is

  pub char_before_past : char_before hay (j + len_utf8 c) ≡ Some c
  char_before_past =
      ⊎_elim
      (λ (at : IsOneByteAt hay j c). let long : len_utf8 c ≡ 1 = cond-true _ _ _ (lt-ltb c 0x80 at.0) in at_length 1 long (past_one long))
      (⊎_elim
      (λ (at : IsTwoBytesAt hay j c). let long : len_utf8 c ≡ 2 = cond-false _ _ _ (le-ltb c 0x80 at.0) ∙ cond-true _ _ _ (lt-ltb c 0x800 at.1) in at_length 2 long (past_two long at))
      (⊎_elim
      (λ (at : IsThreeBytesAt hay j c). let long : len_utf8 c ≡ 3 = cond-false _ _ _ (le-ltb c 0x80 (omega arith)) ∙ cond-false _ _ _ (le-ltb c 0x800 at.0) ∙ cond-true _ _ _ (lt-ltb c 0x1_0000 at.1) in at_length 3 long (past_three long at))
      (λ (at : IsFourBytesAt hay j c). let long : len_utf8 c ≡ 4 = cond-false _ _ _ (le-ltb c 0x80 (omega arith)) ∙ cond-false _ _ _ (le-ltb c 0x800 (omega arith)) ∙ cond-false _ _ _ (le-ltb c 0x1_0000 at.0) in at_length 4 long (past_four long at))))
      (char_at_cases hay j c found).1

-- the bytes up to i end in the character
pub char_before_from : (hay rest : List ℕ) (i c : ℕ) → i ≤ length hay → IsScalar c → take i hay ≡ rest ++ encode_utf8 c → char_before hay i ≡ Some c
char_before_from hay rest i c within scalar e =
    let whole : hay ≡ rest ++ (encode_utf8 c ++ drop i hay) =
    sym (take-append-drop i hay) ∙ ap (λ x. x ++ drop i hay) e ∙ append_assoc rest (encode_utf8 c) (drop i hay) in
    let found = char_at_from hay (length rest) c (drop i hay) scalar (ap (drop (length rest)) whole ∙ drop-append_seam rest _) in
    let place : length rest + len_utf8 c ≡ i =
    omega (arith, ap length whole, length-append rest (encode_utf8 c ++ drop i hay), length-append (encode_utf8 c) (drop i hay), length-drop i hay, length-encode c) in
    ap (char_before hay) (sym place) ∙ char_before_past hay (length rest) c found

-- what `next` gives is the character after the place
pub is_char_at : (A : Type 0) (bs rest : List ℕ) (i : ℕ) (r : Option ℕ) → IfSome r IsScalar
    → MatchOption r ((length (drop i bs) ≡ 0) × A) (λ c. drop i bs ≡ encode_utf8 c ++ rest) → r ≡ char_at bs i
is_char_at A bs rest i None s m = sym (char_at_past bs i (omega (arith, m.0, length-drop i bs)))
is_char_at A bs rest i (Some c) s m = sym (char_at_from bs i c rest s m)

-- what `next_back` gives is the character before it
pub is_char_before : (A : Type 0) (bs front rest : List ℕ) (i : ℕ) (r : Option ℕ) → i ≤ length bs → take i bs ≡ front → length front ≡ i → IfSome r IsScalar
    → MatchOption r ((length front ≡ 0) × A) (λ c. front ≡ rest ++ encode_utf8 c) → r ≡ char_before bs i
is_char_before A bs front rest i None within is long s m =
    let start : i ≡ 0 = omega (arith, m.0) in sym (ap (char_before bs) start ∙ char_before-zero bs)
is_char_before A bs front rest i (Some c) within is long s m = sym (char_before_from bs rest i c within s (is ∙ m))

-- the place after a character is a boundary
pub is_boundary_past : (A : Type 0) (bs rest : List ℕ) (i : ℕ) (r : Option ℕ) → i ≤ length bs → IsUtf8 (drop i bs)
    → MatchOption r A (λ c. drop i bs ≡ encode_utf8 c ++ rest) → IfSome r (λ c. IsCharBoundary bs (i + len_utf8 c))
is_boundary_past A bs rest i None p u m = tt
is_boundary_past A bs rest i (Some c) p u m = IsCharBoundary-past_char bs rest i c p u m

-- a byte of ASCII is a character
pub ascii_at : (bs : List ℕ) (i b d : ℕ) → i < length bs → b ≡ slice_index_or bs i d → b < 128 → char_at bs i ≡ Some b
ascii_at bs i b d inside is small = char_at_ascii bs i b (slice_get-get_or bs i d inside ∙ ap Some (sym is)) small

-- a byte of ASCII is the character before the place after it
pub ascii_before : (bs : List ℕ) (i b d : ℕ) → 0 < i → i ≤ length bs → b ≡ slice_index_or bs (i - 1) d → b < 128 → char_before bs i ≡ Some b
ascii_before bs i b d some within is small =
    let long : len_utf8 b ≡ 1 = cond-true _ _ _ (lt-ltb b 0x80 small) in
    let place : i - 1 + len_utf8 b ≡ i = omega (arith, long) in
    ap (char_before bs) (sym place) ∙ char_before_past bs (i - 1) b (ascii_at bs (i - 1) b d (omega arith) is small)

-- the place after the character at a boundary is a boundary
pub boundary_past : (bs : List ℕ) (i : ℕ) → IsUtf8 bs → IsCharBoundary bs i → (r : Option ℕ) → char_at bs i ≡ r
    → IfSome r (λ c. IsCharBoundary bs (i + len_utf8 c))
boundary_past bs i u b None e = tt
boundary_past bs i u b (Some c) e = IsCharBoundary-past_char bs _ i c b.0 (IsUtf8-drop bs i u b) (char_at_parts bs i c e).1

-- after a byte of ASCII comes a boundary
pub boundary_past_ascii : (bs : List ℕ) (i b : ℕ) → IsUtf8 bs → IsCharBoundary bs i → b < 128 → char_at bs i ≡ Some b → IsCharBoundary bs (i + 1)
boundary_past_ascii bs i b u here small is =
    let long : len_utf8 b ≡ 1 = cond-true _ _ _ (lt-ltb b 0x80 small) in
    subst (λ (n : ℕ). IsCharBoundary bs (i + n)) long (boundary_past bs i u here (Some b) is)
