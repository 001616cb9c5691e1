-- Names, numbers and references, as the functions find them.
use Rattle.fancy_regex_lex_grammar.specs.Exact.{FindsExactly}
use Rattle.std.proofs.Common.{◌≡◌, ℕ, ℤ, pos, neg_ℤ, ◌-◌, ◌^◌, ◌<◌, ◌≤◌, min, Bool, true, false, cond, not, ◌&&◌, ◌||◌, ◌==◌, Option, Some, None, [], ◌∷◌, ◌++◌, option_map, refl, sym, ap, ◌∙◌, subst, true≢false, arith, ⊎_elim, append-nil, if◌then◌else◌}
use Rattle.std.proofs.lemmas.Bool.{or_cases, or_left, or_right, agree_below, agree_below_at}
use Rattle.std.proofs.lemmas.Bool.Decides.{nat_tests}
use Rattle.std.proofs.lemmas.Option.{none-some}
use Rattle.ucd_derived.specs.Binary.{is_alphabetic}
use Rattle.ucd_category.specs.GeneralCategory.{general_category}
use Rattle.ucd_category.specs.declared.GeneralCategory.{GeneralCategory}
use Rattle.ucd_category.specs.declared.GeneralCategory.TheVariants.{DecimalNumber, LetterNumber, OtherNumber}
use Rattle.fancy_regex_text.specs.Text.{Text, span, is_empty, is_decimal, value, unbounded}
use Rattle.fancy_regex_text.specs.Names as functions
use Rattle.fancy_regex_text.specs.Names.{Named, by_number, by_name, relative, Referred, is_number_category, is_name_char, is_name, digits, whole_number, signed, named_target, reference}
use Rattle.fancy_regex_lex.proofs.Computing.{computing}
use Rattle.fancy_regex_lex_grammar.specs.Prefixes.{IsRun, at_end, at_other, one_more}
use Rattle.fancy_regex_lex_grammar.specs.Names.{IsNameCharacter, underscore, alphabetic, decimal_number, letter_number, other_number, IsName, last_of_name, more_of_name, IsDigits, last_digit, more_digits, IsNumber, a_number, IsSigned, forward, backward, IsNumberOrName, number, name, IsReference, without_level, with_level, signed_number, IsLeadingNumber, no_digits, some_digits, NamesAreExact}
use Rattle.fancy_regex_lex_grammar.proofs.ReadingLemmas.{at_char, Found, is_found, is_none, if_found, map_found, found_has, finds_exactly}
use Rattle.fancy_regex_lex_grammar.proofs.PrefixProofs.{run_of, span_run, run_parts}

-- characters of names

category_of : (c : ℕ) (g : GeneralCategory) → general_category c ≡ g → is_number_category g ≡ true → IsNameCharacter c
category_of c DecimalNumber e h = decimal_number e
category_of c LetterNumber e h = letter_number e
category_of c OtherNumber e h = other_number e
category_of c _ e h = absurd (true≢false (sym h))

pub name_character_of : (c : ℕ) → is_name_char c ≡ true → IsNameCharacter c
unfolding is_name_char
name_character_of c h =
    ⊎_elim (λ b. ⊎_elim (λ a. at_char c 0x5F IsNameCharacter a underscore) (λ a. alphabetic a) (or_cases (c == 0x5F) (is_alphabetic c) b))
    (λ a. category_of c (general_category c) refl a)
    (or_cases (c == 0x5F || is_alphabetic c) (is_number_category (general_category c)) h)

pub name_character_test : {c : ℕ} → IsNameCharacter c → is_name_char c ≡ true
unfolding is_name_char
name_character_test underscore = refl
name_character_test (alphabetic {c} h) =
    or_left (c == 0x5F || is_alphabetic c) (is_number_category (general_category c)) (or_right (c == 0x5F) (is_alphabetic c) h)
name_character_test (decimal_number {c} h) =
    or_right (c == 0x5F || is_alphabetic c) (is_number_category (general_category c)) (ap is_number_category h)
name_character_test (letter_number {c} h) =
    or_right (c == 0x5F || is_alphabetic c) (is_number_category (general_category c)) (ap is_number_category h)
name_character_test (other_number {c} h) =
    or_right (c == 0x5F || is_alphabetic c) (is_number_category (general_category c)) (ap is_number_category h)

pub small_digit : (c : ℕ) → is_decimal c ≡ true → c < 58
small_digit c h = grind (arith, nat_tests)

digits_are_named : agree_below (λ c. not (is_decimal c) || is_name_char c) (λ c. true) 58 ≡ true
unfolding computing
digits_are_named = refl

digit_is_named : (c : ℕ) → is_decimal c ≡ true → is_name_char c ≡ true
digit_is_named c h =
    ⊎_elim (λ a. absurd (true≢false (sym a ∙ ap not h))) (λ a. a)
    (or_cases (not (is_decimal c)) (is_name_char c) (agree_below_at (λ d. not (is_decimal d) || is_name_char d) (λ d. true) 58 c digits_are_named (small_digit c h)))

plus_is_no_name : is_name_char 0x2B ≡ false
unfolding computing
plus_is_no_name = refl

minus_is_no_name : is_name_char 0x2D ≡ false
unfolding computing
minus_is_no_name = refl

-- rows of characters

run_name : (c : ℕ) (front : Text) {t rest : Text} → IsRun is_name_char t (c ∷ front) rest → IsName (c ∷ front)
run_name c [] (one_more h r) = last_of_name (name_character_of c h)
run_name c (d ∷ front) (one_more h r) = more_of_name (name_character_of c h) (run_name d front r)

run_digits : (c : ℕ) (front : Text) {t rest : Text} → IsRun is_decimal t (c ∷ front) rest → IsDigits (c ∷ front)
run_digits c [] (one_more h r) = last_digit h
run_digits c (d ∷ front) (one_more h r) = more_digits h (run_digits d front r)

name_run : {front rest : Text} → IsName front → IsRun is_name_char rest [] rest → IsRun is_name_char (front ++ rest) front rest
name_run (last_of_name h) r = one_more (name_character_test h) r
name_run (more_of_name h n) r = one_more (name_character_test h) (name_run n r)

pub digits_run : {front rest : Text} → IsDigits front → IsRun is_decimal rest [] rest → IsRun is_decimal (front ++ rest) front rest
digits_run (last_digit h) r = one_more h r
digits_run (more_digits h n) r = one_more h (digits_run n r)

digits_name : {t : Text} → IsDigits t → IsName t
digits_name (last_digit {c} h) = last_of_name (name_character_of c (digit_is_named c h))
digits_name (more_digits {c} h d) = more_of_name (name_character_of c (digit_is_named c h)) (digits_name d)

some_name : {t : Text} → IsName t → is_empty t ≡ false
some_name (last_of_name h) = refl
some_name (more_of_name h n) = refl

name_from : (t front rest : Text) → IsRun is_name_char t front rest → (not (is_empty front) && is_empty rest) ≡ true → IsName t
name_from t [] rest r h = absurd (true≢false (sym h))
name_from t (c ∷ front) [] r h = subst IsName (sym (run_parts r ∙ append-nil (c ∷ front))) (run_name c front r)
name_from t (c ∷ front) (d ∷ rest) r h = absurd (true≢false (sym h))

pub name_sound : (t : Text) → is_name t ≡ true → IsName t
unfolding is_name
name_sound t h = name_from t _ _ (run_of is_name_char t) h

whole_name : {t : Text} → IsName t → span is_name_char t ≡ (t, [])
whole_name {t} n = ap (span is_name_char) (sym (append-nil t)) ∙ span_run (name_run n at_end)

pub name_complete : (t : Text) → IsName t → is_name t ≡ true
unfolding is_name
name_complete t n =
    ap (λ (parts : Text × Text). not (is_empty parts.0) && is_empty parts.1) (whole_name n) ∙ ap (λ b. not b && true) (some_name n)

-- numbers

some_number : {t : Text} → IsDigits t → is_empty t ≡ false
some_number (last_digit h) = refl
some_number (more_digits h n) = refl

pub digits_of : (t : Text) → IsLeadingNumber t (digits t).0 (digits t).1
unfolding digits functions.number
digits_of t = from (span is_decimal t).0 (span is_decimal t).1 (run_of is_decimal t)
  where
    from : (front rest : Text) → IsRun is_decimal t front rest →
        IsLeadingNumber t (cond (is_empty front) None (Some (min (value 10 front) unbounded))) rest
    from [] rest r = subst (λ u. IsLeadingNumber u None rest) (sym (run_parts r)) (no_digits (subst (λ u. IsRun is_decimal u [] rest) (run_parts r) r))
    from (c ∷ front) rest r = some_digits r (a_number (run_digits c front r))

pub digits_read : {t rest : Text} {n : Option ℕ} → IsLeadingNumber t n rest → digits t ≡ (n, rest)
unfolding digits functions.number
digits_read (no_digits r) =
    ap (λ (parts : Text × Text). (cond (is_empty parts.0) None (Some (min (value 10 parts.0) unbounded)), parts.1)) (span_run r)
digits_read (some_digits {rest = rest} r m) =
    ap (λ (parts : Text × Text). (cond (is_empty parts.0) None (Some (min (value 10 parts.0) unbounded)), parts.1)) (span_run r) ∙ valued m
  where
    valued : {front : Text} {n : ℕ} → IsNumber front n →
        ◌≡◌ {A = Option ℕ × Text} (cond (is_empty front) None (Some (min (value 10 front) unbounded)), rest) (Some n, rest)
    valued (a_number {t = front} d) = ap (λ b. (cond b None (Some (min (value 10 front) unbounded)), rest)) (some_number d)

number_found : (t : Text) (n : Option ℕ) (rest : Text) → IsLeadingNumber t n rest → Found (IsNumber t) (Unit {0}) (cond (is_empty rest) n None)
number_found t n (d ∷ rest) counted = is_none tt
number_found t None [] (no_digits r) = is_none tt
number_found t (Some n) [] (some_digits {front = front} r m) = is_found (subst (λ u. IsNumber u n) (sym (run_parts r ∙ append-nil front)) m)

pub number_sound : (t : Text) (n : ℕ) → whole_number t ≡ Some n → IsNumber t n
unfolding whole_number
number_sound t n h = found_has (number_found t (digits t).0 (digits t).1 (digits_of t)) n h

pub counted_digits : {t : Text} → IsDigits t → IsLeadingNumber t (Some (min (value 10 t) unbounded)) []
counted_digits {t} d = some_digits (subst (λ u. IsRun is_decimal u t []) (append-nil t) (digits_run d at_end)) (a_number d)

pub number_complete : (t : Text) (n : ℕ) → IsNumber t n → whole_number t ≡ Some n
unfolding whole_number
number_complete t n (a_number d) = ap (λ (r : Option ℕ × Text). cond (is_empty r.1) r.0 None) (digits_read (counted_digits d))

least : (n most : ℕ) → most ≤ unbounded → min (min n unbounded) most ≡ min n most
least n most h = omega arith

forward_of : {t : Text} {n : ℕ} → IsNumber t n → IsSigned (0x2B ∷ t) (pos (min n (2 ^ 63 - 1)))
forward_of (a_number {t} d) = subst (λ m. IsSigned (0x2B ∷ t) (pos m)) (sym (least (value 10 t) (2 ^ 63 - 1) (omega arith))) (forward d)

backward_of : {t : Text} {n : ℕ} → IsNumber t n → IsSigned (0x2D ∷ t) (neg_ℤ (pos (min n (2 ^ 63))))
backward_of (a_number {t} d) = subst (λ m. IsSigned (0x2D ∷ t) (neg_ℤ (pos m))) (sym (least (value 10 t) (2 ^ 63) (omega arith))) (backward d)

signed_found : (t : Text) → Found (IsSigned t) (Unit {0}) (signed t)
unfolding signed
signed_found [] = is_none tt
signed_found (c ∷ t) =
    if_found (c == 0x2B) _ _ (λ h. map_found _ (whole_number t) (λ e. tt) (λ n e.
    at_char c 0x2B (λ d. IsSigned (d ∷ t) (pos (min n (2 ^ 63 - 1)))) h (forward_of (number_sound t n e)))) (λ h.
    if_found (c == 0x2D) _ _ (λ k. map_found _ (whole_number t) (λ e. tt) (λ n e.
    at_char c 0x2D (λ d. IsSigned (d ∷ t) (neg_ℤ (pos (min n (2 ^ 63))))) k (backward_of (number_sound t n e)))) (λ k. is_none tt))

pub signed_sound : (t : Text) (k : ℤ) → signed t ≡ Some k → IsSigned t k
signed_sound t k h = found_has (signed_found t) k h

pub signed_complete : (t : Text) (k : ℤ) → IsSigned t k → signed t ≡ Some k
unfolding signed
signed_complete t k (forward {t = s} d) =
    ap (option_map (λ n. pos (min n (2 ^ 63 - 1)))) (number_complete s _ (a_number d)) ∙ ap (λ n. Some (pos n)) (least (value 10 s) (2 ^ 63 - 1) (omega arith))
signed_complete t k (backward {t = s} d) =
    ap (option_map (λ n. neg_ℤ (pos (min n (2 ^ 63))))) (number_complete s _ (a_number d)) ∙ ap (λ n. Some (neg_ℤ (pos n))) (least (value 10 s) (2 ^ 63) (omega arith))

-- references

target_of : (t : Text) → IsName t → IsNumberOrName t (named_target t)
unfolding named_target
target_of t n = by_number_of (whole_number t) refl
  where
    by_number_of : (o : Option ℕ) → whole_number t ≡ o → IsNumberOrName t (elim o [ None ↦ by_name t | Some m ↦ by_number m ])
    by_number_of None e = name n (λ d. none-some _ (sym e ∙ number_complete t _ (a_number d)))
    by_number_of (Some m) e = number (number_sound t m e)

target_read : {t : Text} {target : Named} → IsNumberOrName t target → named_target t ≡ target
unfolding named_target
target_read (number {t} {n} m) = ap (λ o. elim o [ None ↦ by_name t | Some k ↦ by_number k ]) (number_complete t n m)
target_read (name {t} n lacks) = by_number_of (whole_number t) refl
  where
    by_number_of : (o : Option ℕ) → whole_number t ≡ o → elim o [ None ↦ by_name t | Some m ↦ by_number m ] ≡ by_name t
    by_number_of None e = refl
    by_number_of (Some m) e = absurd (lacks (digits_there (number_sound t m e)))
      where
        digits_there : {u : Text} {k : ℕ} → IsNumber u k → IsDigits u
        digits_there (a_number d) = d

named_text : {t : Text} {target : Named} → IsNumberOrName t target → IsName t
named_text (number (a_number d)) = digits_name d
named_text (name n lacks) = n

referred : (allow_level : Bool) (t front rest : Text) → IsRun is_name_char t front rest →
    Found (λ (r : Referred). IsReference allow_level t r.0 r.1) (Unit {0})
    (if is_empty front then option_map (λ k. (relative k, None)) (signed rest)
    else if is_empty rest then Some (named_target front, None)
    else if allow_level then option_map (λ k. (named_target front, Some k)) (signed rest)
    else None)
referred allow_level t [] rest r =
    map_found _ (signed rest) (λ e. tt) (λ k e. signed_number (subst (λ u. IsSigned u k) (sym (run_parts r)) (signed_sound rest k e)))
referred allow_level t (c ∷ front) [] r =
    is_found (without_level (subst (λ u. IsNumberOrName u (named_target (c ∷ front))) (sym (run_parts r ∙ append-nil (c ∷ front)))
    (target_of (c ∷ front) (run_name c front r))))
referred true t (c ∷ front) (d ∷ rest) r =
    map_found _ (signed (d ∷ rest)) (λ e. tt) (λ k e.
    subst (λ u. IsReference true u (named_target (c ∷ front)) (Some k)) (sym (run_parts r))
    (with_level refl (target_of (c ∷ front) (run_name c front r)) (signed_sound (d ∷ rest) k e)))
referred false t (c ∷ front) (d ∷ rest) r = is_none tt

reference_sound : (allow_level : Bool) (t : Text) (r : Referred) → reference allow_level t ≡ Some r → IsReference allow_level t r.0 r.1
unfolding reference
reference_sound allow_level t r h = found_has (referred allow_level t (span is_name_char t).0 (span is_name_char t).1 (run_of is_name_char t)) r h

-- what the function answers from the front that it finds
abbrev answers : Bool → Text × Text → Option Referred
answers allow_level parts =
    if is_empty parts.0 then option_map (λ k. (relative k, None)) (signed parts.1)
    else if is_empty parts.1 then Some (named_target parts.0, None)
    else if allow_level then option_map (λ k. (named_target parts.0, Some k)) (signed parts.1)
    else None

sign_stops : {t : Text} {k : ℤ} → IsSigned t k → IsRun is_name_char t [] t
sign_stops (forward d) = at_other plus_is_no_name
sign_stops (backward d) = at_other minus_is_no_name

some_sign : {t : Text} {k : ℤ} → IsSigned t k → is_empty t ≡ false
some_sign (forward d) = refl
some_sign (backward d) = refl

reference_complete : (allow_level : Bool) (t : Text) (target : Named) (level : Option ℤ) → IsReference allow_level t target level →
    reference allow_level t ≡ Some (target, level)
unfolding reference
reference_complete allow_level t target level (without_level n) =
    ap (answers allow_level) (whole_name (named_text n))
    ∙ ap (λ b. cond b (option_map (λ k. (relative k, None)) (signed [])) (Some (named_target t, None))) (some_name (named_text n))
    ∙ ap (λ x. Some (x, None)) (target_read n)
reference_complete allow_level t target level (with_level {front} {t = s} {level = k} l n m) =
    ap (answers allow_level) (span_run (name_run (named_text n) (sign_stops m)))
    ∙ rw (some_name (named_text n), some_sign m, l, signed_complete s k m, target_read n) refl
reference_complete allow_level t target level (signed_number {k = k} m) =
    ap (answers allow_level) (span_run (sign_stops m)) ∙ ap (option_map (λ z. (relative z, None))) (signed_complete t k m)

pub reference_is_exact : (allow_level : Bool) (t : Text) → FindsExactly (reference allow_level t) (λ (r : Referred). IsReference allow_level t r.0 r.1)
reference_is_exact allow_level t = finds_exactly (reference allow_level t) (reference_sound allow_level t) (λ r h. reference_complete allow_level t r.0 r.1 h)

pub names_are_exact : NamesAreExact
names_are_exact = record {
  of_name = λ t. (name_sound t, name_complete t);
  of_number = λ t. finds_exactly (whole_number t) (number_sound t) (number_complete t);
  of_signed = λ t. finds_exactly (signed t) (signed_sound t) (signed_complete t);
  of_digits = λ t n rest. (λ h. subst (λ (r : Option ℕ × Text). IsLeadingNumber t r.0 r.1) h (digits_of t), λ c. digits_read c);
  of_reference = reference_is_exact;
}
