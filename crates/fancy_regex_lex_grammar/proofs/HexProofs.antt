-- Codes by their digits.
use Rattle.std.proofs.Common.{◌≡◌, ℕ, ◌≤◌, nat_lt, nat_le, Bool, true, false, cond, ◌&&◌, ◌==◌, Option, Some, None, [], ◌∷◌, ◌++◌, length, refl, sym, ap, ◌∙◌, subst, true≢false, eqb-true, ltb-true, lt-ltb, leb-true, le-leb, eq-eqb, append-nil, arith, ⊎_elim}
use Rattle.std.proofs.lemmas.Bool.{or_cases, or_left, or_right, and_parts, and_from}
use Rattle.fancy_regex_text.specs.Text.{Text, span_at_most, is_empty, is_hexadecimal, value}
use Rattle.fancy_regex_lex.specs.Escapes.{is_character, braced_digits, plain_digits}
use Rattle.fancy_regex_lex_grammar.specs.Prefixes.{IsRunOfLength}
use Rattle.fancy_regex_lex_grammar.specs.Escapes.{IsCodePoint, below_surrogates, above_surrogates}
use Rattle.fancy_regex_lex_grammar.proofs.ReadingLemmas.{Found, is_found, is_none}
use Rattle.fancy_regex_lex_grammar.proofs.PrefixProofs.{most_front, most_within, front_read, front_length, front_parts, front_whole}

pub code_point_of : (code : ℕ) → is_character code ≡ true → IsCodePoint code
code_point_of code h =
    ⊎_elim (λ a. below_surrogates (ltb-true code 0xD800 a)) (λ a.
    let (b, c) = and_parts (nat_le 0xE000 code) (nat_le code 0x10_FFFF) a in above_surrogates (leb-true 0xE000 code b) (leb-true code 0x10_FFFF c))
    (or_cases (nat_lt code 0xD800) (nat_le 0xE000 code && nat_le code 0x10_FFFF) h)

pub code_point_test : {code : ℕ} → IsCodePoint code → is_character code ≡ true
code_point_test (below_surrogates {code} h) = or_left (nat_lt code 0xD800) _ (lt-ltb code 0xD800 h)
code_point_test (above_surrogates {code} h k) =
    or_right (nat_lt code 0xD800) (nat_le 0xE000 code && nat_le code 0x10_FFFF)
    (and_from (nat_le 0xE000 code) (nat_le code 0x10_FFFF) (le-leb 0xE000 code h) (le-leb code 0x10_FFFF k))

-- exactly n digits

abbrev PlainFound : ℕ → Text → Option (ℕ × Text) → Type 0
PlainFound n t =
    Found (λ (found : ℕ × Text). (digits : Text) × IsRunOfLength is_hexadecimal n t digits found.1 × (found.0 ≡ value 16 digits))
    ((digits rest : Text) → IsRunOfLength is_hexadecimal n t digits rest → ⊥)

pub plain_of : (n : ℕ) (t : Text) → PlainFound n t (plain_digits n t)
unfolding plain_digits
plain_of n t = by_length (span_at_most is_hexadecimal n t) refl (most_front is_hexadecimal n t) (length (span_at_most is_hexadecimal n t).0 == n) refl
  where
    by_length : (parts : Text × Text) → span_at_most is_hexadecimal n t ≡ parts → IsRunOfLength is_hexadecimal (length parts.0) t parts.0 parts.1 →
        (b : Bool) → (length parts.0 == n) ≡ b → PlainFound n t (cond b (Some (value 16 parts.0, parts.1)) None)
    by_length parts is f true e =
        is_found (parts.0, subst (λ m. IsRunOfLength is_hexadecimal m t parts.0 parts.1) (eqb-true (length parts.0) n e) f, refl)
    by_length parts is f false e =
        is_none (λ digits rest g.
        let same : parts ≡ (digits, rest) = sym is ∙ front_read g in
        true≢false (sym (eq-eqb (length parts.0) n (ap (λ (x : Text × Text). length x.0) same ∙ front_length g)) ∙ e))

pub plain_read : {n : ℕ} {t digits rest : Text} → IsRunOfLength is_hexadecimal n t digits rest → plain_digits n t ≡ Some (value 16 digits, rest)
unfolding plain_digits
plain_read {n} {t} {digits} {rest} f =
    ap (λ (parts : Text × Text). cond (length parts.0 == n) (Some (value 16 parts.0, parts.1)) None) (front_read f)
    ∙ ap (λ b. cond b (Some (value 16 digits, rest)) None) (eq-eqb (length digits) n (front_length f))

-- one to eight digits

abbrev BracedFound : Text → Option ℕ → Type 0
BracedFound t =
    Found (λ code. (n : ℕ) × IsRunOfLength is_hexadecimal n t t [] × (1 ≤ n) × (n ≤ 8) × (code ≡ value 16 t))
    ((n : ℕ) → IsRunOfLength is_hexadecimal n t t [] → 1 ≤ n → n ≤ 8 → ⊥)

braced_from : (t front rest : Text) → t ≡ front ++ rest → IsRunOfLength is_hexadecimal (length front) t front rest → length front ≤ 8 →
    ((n : ℕ) → IsRunOfLength is_hexadecimal n t t [] → n ≤ 8 → ◌≡◌ {A = Text × Text} (front, rest) (t, [])) →
    BracedFound t (cond (nat_lt 0 (length front) && is_empty rest) (Some (value 16 front)) None)
braced_from t [] rest is f k unique = is_none (λ n g a b. absurd (empty n g a b))
  where
    empty : (n : ℕ) → IsRunOfLength is_hexadecimal n t t [] → 1 ≤ n → n ≤ 8 → ⊥
    empty n g a b =
        let none : [] ≡ t = ap (λ (x : Text × Text). x.0) (unique n g b) in
        let long : length t ≡ n = front_length g in omega (arith, long, ap (λ x. length x) none)
braced_from t (c ∷ front) [] is f k unique =
    let same : c ∷ front ≡ t = sym (is ∙ append-nil (c ∷ front)) in
    subst (λ b. BracedFound t (cond (b && true) (Some (value 16 (c ∷ front))) None)) (sym (lt-ltb 0 (length (c ∷ front)) (omega arith)))
    (is_found (length (c ∷ front), subst (λ u. IsRunOfLength is_hexadecimal (length (c ∷ front)) t u []) same f, omega arith, k, ap (λ u. value 16 u) same))
braced_from t (c ∷ front) (d ∷ rest) is f k unique =
    subst (λ b. BracedFound t (cond (b && false) (Some (value 16 (c ∷ front))) None)) (sym (lt-ltb 0 (length (c ∷ front)) (omega arith)))
    (is_none (λ n g a b. rest_is (unique n g b)))
  where
    rest_is : ◌≡◌ {A = Text × Text} (c ∷ front, d ∷ rest) (t, []) → ⊥
    rest_is e = let more : d ∷ rest ≡ [] = ap (λ (x : Text × Text). x.1) e in omega (arith, ap (λ x. length x) more)

pub braced_of : (t : Text) → BracedFound t (braced_digits t)
unfolding braced_digits
braced_of t =
    braced_from t (span_at_most is_hexadecimal 8 t).0 (span_at_most is_hexadecimal 8 t).1 (front_parts (most_front is_hexadecimal 8 t)) (most_front is_hexadecimal 8 t)
    (most_within is_hexadecimal 8 t) (λ n f k. front_whole f refl 8 k)

pub braced_read : {n : ℕ} {t : Text} → IsRunOfLength is_hexadecimal n t t [] → 1 ≤ n → n ≤ 8 → braced_digits t ≡ Some (value 16 t)
unfolding braced_digits
braced_read {n} {t} f a b =
    ap (λ (parts : Text × Text). cond (nat_lt 0 (length parts.0) && is_empty parts.1) (Some (value 16 parts.0)) None) (front_whole f refl 8 b)
    ∙ ap (λ x. cond (x && true) (Some (value 16 t)) None) (lt-ltb 0 (length t) (let e = front_length f in omega (arith, e)))
