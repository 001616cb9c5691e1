-- What a pattern of one character matches in the text of one character.
use Rattle.std.proofs.Common.{◌≡◌, ℕ, zero, suc, ◌+◌, ◌-◌, ◌<◌, ◌≤◌, Bool, true, false, cond, List, [], ◌∷◌, length, Option, Some, None, refl, sym, ap, ◌∙◌, arith, append-nil, ⊎_elim, slice_index, encode_utf8, is_some, option_map, ◌==◌, eq-eqb, lt-ltb, le-ltb, All, eqb-true, ◌/◌, ◌%◌, subst, option_and_then, add-one}
use Rattle.std.proofs.lemmas.Bool.{cond-true, cond-false, cond_both, cases_lt, false_from_ne_true}
use Rattle.std.proofs.lemmas.Str.{length-encode, encode_ascii, IsUtf8-encode, IsCharBoundary-start}
use Rattle.std.proofs.lemmas.List.Elements.{All-cons}
use Rattle.std.specs.Char.{IsScalar, len_utf8}
use Rattle.std.specs.List.{list_any}
use Rattle.std.specs.Option.{option_or}
use Rattle.regex_class.specs.Ranges.{Range, in_ranges}
use Rattle.regex_class.proofs.RangesLemmas.{or-false}
use Rattle.regex_hir.specs.Re.{Re, Rest, Trace, literal, byte_in, char_in, attempt, accept}
use Rattle.regex_hir.specs.Find.{Match, find_str, first_from}
use Rattle.regex_hir.specs.Text.{is_some_and, is_boundary, char_at, has_bytes_at}
use Rattle.regex_hir.proofs.OptionLemmas.{none_of_no_value}
use Rattle.regex_hir.proofs.TextLemmas.{char_at_from, char_at_past, char_at_parts, has_bytes_at_parts, has_bytes_at_from}
use Rattle.regex_hir.proofs.Utf8Lemmas.{char_at_cases, IsOneByteAt, IsTwoBytesAt, IsThreeBytesAt, IsFourBytesAt, encode_two, encode_three, encode_four, InScalarRange-of_IsScalar}
use Rattle.regex.proofs.Utf8Lemmas.{test_of_IsCharBoundary}
use Rattle.regex_syntax.proofs.Written.{find_str_ascii}
use Rattle.fancy_regex_class.specs.Classes.{matches_single_char}
use Rattle.fancy_regex_class.proofs.AdjacentCharLemmas.{no_char_at}

none_unless : {T : Type 0} (o : Option T) → is_some o ≡ false → o ≡ None
none_unless None e = refl
none_unless (Some x) e = cc

none_from : (at : Rest) (n i : ℕ) → ((k : ℕ) → at (suc k) ≡ None) → first_from at n (suc i) ≡ None
unfolding first_from
none_from at zero i h = refl
none_from at (suc n) i h = rw (h i, add-one) (none_from at n (suc i) h)

-- what is tried past the start fails
at_start_alone : (at : Rest) (n : ℕ) → ((i : ℕ) → at (suc i) ≡ None) → is_some (first_from at (suc n) 0) ≡ is_some (at 0)
unfolding first_from
at_start_alone at n h = rw (none_from at n 0 h) (here (at 0)) where
  here : (o : Option Trace) → is_some {T = Match} (option_or (option_map (λ t. record { start = 0; trace = t }) o) None) ≡ is_some o
  here None = refl
  here (Some t) = refl

module _ (c : ℕ) (scalar : IsScalar c) where
  -- the character stands at the start of its text
  pub char_at_start : char_at (encode_utf8 c) 0 ≡ Some c
  char_at_start = char_at_from (encode_utf8 c) 0 c [] scalar (sym (append-nil (encode_utf8 c)))

  past : (i : ℕ) → len_utf8 c ≤ i → char_at (encode_utf8 c) i ≡ None
  past i le = char_at_past (encode_utf8 c) i (omega (arith, length-encode c))

  inner : (i low : ℕ) → low < 64 → slice_index (encode_utf8 c) i ≡ 128 + low → char_at (encode_utf8 c) i ≡ None
  inner i low small is = none_of_no_value _ (no_char_at (encode_utf8 c) i low small is)

  one_long : c < 0x80 → len_utf8 c ≡ 1
  one_long h = cond-true _ _ _ (lt-ltb c 0x80 h)

  two_long : 0x80 ≤ c → c < 0x800 → len_utf8 c ≡ 2
  two_long low high = cond-false _ _ _ (le-ltb c 0x80 low) ∙ cond-true _ _ _ (lt-ltb c 0x800 high)

  three_long : 0x800 ≤ c → c < 0x1_0000 → len_utf8 c ≡ 3
  three_long low high = cond-false _ _ _ (le-ltb c 0x80 (omega arith)) ∙ cond-false _ _ _ (le-ltb c 0x800 low) ∙ cond-true _ _ _ (lt-ltb c 0x1_0000 high)

  four_long : 0x1_0000 ≤ c → len_utf8 c ≡ 4
  four_long low = cond-false _ _ _ (le-ltb c 0x80 (omega arith)) ∙ cond-false _ _ _ (le-ltb c 0x800 (omega arith)) ∙ cond-false _ _ _ (le-ltb c 0x1_0000 low)

  -- no other character stands in it
  pub no_other : (i : ℕ) → char_at (encode_utf8 c) (suc i) ≡ None
  no_other i =
      ⊎_elim
      (λ (at : IsOneByteAt (encode_utf8 c) 0 c). past (suc i) (omega (arith, one_long at.0)))
      (⊎_elim
      (λ (at : IsTwoBytesAt (encode_utf8 c) 0 c). two at i)
      (⊎_elim
      (λ (at : IsThreeBytesAt (encode_utf8 c) 0 c). three at i)
      (λ (at : IsFourBytesAt (encode_utf8 c) 0 c). four at i)))
      (char_at_cases (encode_utf8 c) 0 c char_at_start).1 where
        two : IsTwoBytesAt (encode_utf8 c) 0 c → (i : ℕ) → char_at (encode_utf8 c) (suc i) ≡ None
        two at zero = inner 1 _ (omega arith) at.4
        two at (suc i) = past (suc (suc i)) (omega (arith, two_long at.0 at.1))

        three : IsThreeBytesAt (encode_utf8 c) 0 c → (i : ℕ) → char_at (encode_utf8 c) (suc i) ≡ None
        three at zero = inner 1 _ (omega arith) at.4
        three at (suc zero) = inner 2 _ (omega arith) at.5
        three at (suc (suc i)) = past (suc (suc (suc i))) (omega (arith, three_long at.0 at.1))

        four : IsFourBytesAt (encode_utf8 c) 0 c → (i : ℕ) → char_at (encode_utf8 c) (suc i) ≡ None
        four at zero = inner 1 _ (omega arith) at.3
        four at (suc zero) = inner 2 _ (omega arith) at.4
        four at (suc (suc zero)) = inner 3 _ (omega arith) at.5
        four at (suc (suc (suc i))) = past (suc (suc (suc (suc i)))) (omega (arith, four_long at.0))

  -- its bytes are bytes
  pub small_bytes : All (λ x. x < 256) (encode_utf8 c)
  small_bytes =
      ⊎_elim
      (λ (h : c < 0x80). subst (All (λ x. x < 256)) (sym (encode_ascii c h)) (one_byte c (omega arith)))
      (λ (h : 0x80 ≤ c). ⊎_elim
      (λ (g : c < 0x800). subst (All (λ x. x < 256)) (sym (encode_two c h g)) (two_bytes (192 + c / 64) (128 + c % 64) (omega arith) (omega arith)))
      (λ (g : 0x800 ≤ c). ⊎_elim
      (λ (f : c < 0x1_0000). subst (All (λ x. x < 256)) (sym (encode_three c g f))
      (All-cons (λ x. x < 256) (224 + c / 4096) ((128 + (c / 64) % 64) ∷ (128 + c % 64) ∷ []) (omega arith) (two_bytes (128 + (c / 64) % 64) (128 + c % 64) (omega arith) (omega arith))))
      (λ (f : 0x1_0000 ≤ c). let range = InScalarRange-of_IsScalar c scalar in subst (All (λ x. x < 256)) (sym (encode_four c f))
      (All-cons (λ x. x < 256) (240 + c / 262144) ((128 + (c / 4096) % 64) ∷ (128 + (c / 64) % 64) ∷ (128 + c % 64) ∷ []) (omega arith)
      (All-cons (λ x. x < 256) (128 + (c / 4096) % 64) ((128 + (c / 64) % 64) ∷ (128 + c % 64) ∷ []) (omega arith) (two_bytes (128 + (c / 64) % 64) (128 + c % 64) (omega arith) (omega arith)))))
      (cases_lt c 0x1_0000))
      (cases_lt c 0x800))
      (cases_lt c 0x80) where
        one_byte : (a : ℕ) → a < 256 → All (λ x. x < 256) (a ∷ [])
        one_byte a h = All-cons (λ x. x < 256) a [] h (λ k d impossible. absurd (omega arith))

        two_bytes : (a b : ℕ) → a < 256 → b < 256 → All (λ x. x < 256) (a ∷ b ∷ [])
        two_bytes a b h g = All-cons (λ x. x < 256) a (b ∷ []) h (one_byte b g)

  -- the text begins with a character
  starts : is_boundary (encode_utf8 c) 0 ≡ true
  starts = test_of_IsCharBoundary (encode_utf8 c) 0 (IsCharBoundary-start (encode_utf8 c) (IsUtf8-encode c scalar))

  -- a pattern that reads one character that passes the test, and nothing else
  pub alone : (re : Re) (test : ℕ → Bool) →
      ((i : ℕ) → is_some (attempt (encode_utf8 c) re accept i) ≡ is_some_and (char_at (encode_utf8 c) i) test) →
      matches_single_char re c ≡ test c
  unfolding find_str
  alone re test h =
      let here : is_some (attempt (encode_utf8 c) re accept 0) ≡ test c = h 0 ∙ ap (λ o. is_some_and o test) char_at_start in
      let later : (i : ℕ) → attempt (encode_utf8 c) re accept (suc i) ≡ None =
      λ i. none_unless _ (h (suc i) ∙ ap (λ o. is_some_and o test) (no_other i)) in
      let count : length (encode_utf8 c) + 1 - 0 ≡ suc (length (encode_utf8 c)) = omega arith in
      let at : Rest = λ i. cond (is_boundary (encode_utf8 c) i) (attempt (encode_utf8 c) re accept i) None in
      ap (λ n. is_some (first_from at n 0)) count
      ∙ at_start_alone at _ (λ i. ap (λ o. cond (is_boundary (encode_utf8 c) (suc i)) o None) (later i) ∙ cond_both _ None None (λ (x : Option Trace). x ≡ None) (λ _. refl) (λ _. refl))
      ∙ ap (λ b. is_some (cond b (attempt (encode_utf8 c) re accept 0) None)) starts ∙ here

  pub class_alone : (rs : List Range) → matches_single_char (char_in rs) c ≡ in_ranges rs c
  unfolding attempt
  class_alone rs = alone (char_in rs) (in_ranges rs) (λ i. through (char_at (encode_utf8 c) i) i) where
    through : (o : Option ℕ) (i : ℕ) → is_some (option_and_then (λ d. cond (in_ranges rs d) (accept (i + len_utf8 d)) None) o) ≡ is_some_and o (in_ranges rs)
    through None i = refl
    through (Some d) i = elim (in_ranges rs d) as (λ b. is_some (cond b (accept (i + len_utf8 d)) None) ≡ b) [ true ↦ refl | false ↦ refl ]

  pub literal_alone : (d : ℕ) → IsScalar d → matches_single_char (literal (encode_utf8 d)) c ≡ (c == d)
  unfolding attempt
  literal_alone d other = alone (literal (encode_utf8 d)) (λ e. e == d) (λ i. at_place i _ refl) where
    stands : (i : ℕ) → has_bytes_at (encode_utf8 c) i (encode_utf8 d) ≡ true → is_some_and (char_at (encode_utf8 c) i) (λ e. e == d) ≡ true
    stands i e =
        ap (λ o. is_some_and o (λ e. e == d)) (char_at_from (encode_utf8 c) i d _ other (has_bytes_at_parts _ i _ e)) ∙ eq-eqb d d refl

    stands_not : (i : ℕ) (o : Option ℕ) → char_at (encode_utf8 c) i ≡ o → has_bytes_at (encode_utf8 c) i (encode_utf8 d) ≡ false → is_some_and o (λ e. e == d) ≡ false
    stands_not i None found e = refl
    stands_not i (Some x) found e = false_from_ne_true _ (λ same.
        let here : char_at (encode_utf8 c) i ≡ Some d = found ∙ ap Some (eqb-true x d same) in
        let yes_it : has_bytes_at (encode_utf8 c) i (encode_utf8 d) ≡ true = has_bytes_at_from (encode_utf8 c) i (encode_utf8 d) _ (char_at_parts (encode_utf8 c) i d here).1 in cc)

    at_place : (i : ℕ) (b : Bool) → has_bytes_at (encode_utf8 c) i (encode_utf8 d) ≡ b → is_some (cond b (accept (i + length (encode_utf8 d))) None) ≡ is_some_and (char_at (encode_utf8 c) i) (λ e. e == d)
    at_place i true e = sym (stands i e)
    at_place i false e = sym (stands_not i _ refl e)

  pub bytes_alone : (rs : List Range) → ((b : ℕ) → in_ranges rs b ≡ true → b ≤ 127) → matches_single_char (byte_in rs) c ≡ in_ranges rs c
  bytes_alone rs small =
      find_str_ascii rs small (encode_utf8 c) ∙ ⊎_elim
      (λ (h : c < 0x80). ap (list_any (in_ranges rs)) (encode_ascii c h) ∙ or-false _)
      (λ (h : 0x80 ≤ c). ⊎_elim
      (λ (g : c < 0x800). ap (list_any (in_ranges rs)) (encode_two c h g)
      ∙ rw (out (192 + c / 64) (omega arith), out (128 + c % 64) (omega arith), out c h) refl)
      (λ (g : 0x800 ≤ c). ⊎_elim
      (λ (f : c < 0x1_0000). ap (list_any (in_ranges rs)) (encode_three c g f)
      ∙ rw (out (224 + c / 4096) (omega arith), out (128 + (c / 64) % 64) (omega arith), out (128 + c % 64) (omega arith), out c h) refl)
      (λ (f : 0x1_0000 ≤ c). ap (list_any (in_ranges rs)) (encode_four c f)
      ∙ rw (out (240 + c / 262144) (omega arith), out (128 + (c / 4096) % 64) (omega arith), out (128 + (c / 64) % 64) (omega arith), out (128 + c % 64) (omega arith), out c h) refl)
      (cases_lt c 0x1_0000))
      (cases_lt c 0x800))
      (cases_lt c 0x80) where
        out : (b : ℕ) → 0x80 ≤ b → in_ranges rs b ≡ false
        out b h = false_from_ne_true _ (λ inside. let low = small b inside in omega arith)
