-- Printed quantifiers.
use Rattle.std.proofs.Common.{◌≡◌, ℕ, ◌+◌, ◌*◌, ◌/◌, ◌%◌, ◌^◌, ◌<◌, ◌≤◌, min, Bool, true, false, ◌&&◌, ◌==◌, [], ◌∷◌, ◌++◌, fold, codes, decimal, refl, sym, ap, subst, ◌∙◌, cond, arith, append_assoc}
use Rattle.std.proofs.lemmas.Bool.{eqb-true, eqb-false, false≢true, and_parts, lt-ltb}
use Rattle.std.proofs.lemmas.Fmt.{decimal_by_steps}
use Rattle.std.proofs.lemmas.Str.{digit_value_digit}
use Rattle.std.specs.Char.{digit_value}
use Rattle.fancy_regex_text.specs.Text.{Text, is_decimal, value, unbounded}
use Rattle.fancy_regex_lex.specs.Quantifiers.{sign}
use Rattle.fancy_regex_lex.specs.declared.token.Quantifier.{Quantifier}
use Rattle.fancy_regex_lex_grammar.specs.Prefixes.{IsRun, at_other, one_more}
use Rattle.fancy_regex_lex_grammar.specs.Names.{IsDigits, last_digit, more_digits, IsNumber, a_number, some_digits}
use Rattle.fancy_regex_lex_grammar.specs.Counts.{IsSpacedNumber, IsBracedQuantifier, exactly, at_least, between, IsQuantifier, optional, any_number, one_or_more, counted}
use Rattle.fancy_regex_tree.specs.Printed.{braces_text, bounds_text}
use Rattle.fancy_regex_print_laws.proofs.Starts.{skipped}
use Rattle.fancy_regex_print_laws.specs.PrintedParts.{is_comment}

digit_at : (d : ℕ) → d < 10 → digit_value (48 + d) ≡ d
digit_at d small = omega (arith, digit_value_digit (48 + d) (omega arith, omega arith))

decimal_at : (d : ℕ) → d < 10 → is_decimal (48 + d) ≡ true
decimal_at d small = lt-ltb (digit_value (48 + d)) 10 (omega (arith, digit_at d small))

digits_push : (ds : Text) (c : ℕ) → IsDigits ds → is_decimal c ≡ true → IsDigits (ds ++ c ∷ [])
digits_push ds c (last_digit first) last = more_digits first (last_digit last)
digits_push ds c (more_digits first more) last = more_digits first (digits_push _ c more last)

value_push_from : (n : ℕ) (ds : Text) (c : ℕ) → fold (λ m d. m * 10 + digit_value d) n (ds ++ c ∷ []) ≡ fold (λ m d. m * 10 + digit_value d) n ds * 10 + digit_value c
value_push_from n [] c = refl
value_push_from n (d ∷ ds) c = value_push_from (n * 10 + digit_value d) ds c

abbrev Writes : ℕ → Text → Type 0
Writes n ds = IsDigits ds × (value 10 ds ≡ n)

one_digit : (n : ℕ) → n < 10 → Writes n ((48 + n) ∷ [])
one_digit n small = (last_digit (decimal_at n small), omega (arith, digit_at n small))

one_more_digit : (n : ℕ) (ds : Text) → 10 ≤ n → Writes (n / 10) ds → Writes n (ds ++ (48 + n % 10) ∷ [])
one_more_digit n ds large done =
    let small : n % 10 < 10 = omega arith in (
      digits_push ds (48 + n % 10) done.0 (decimal_at (n % 10) small),
      omega (arith, value_push_from 0 ds (48 + n % 10), digit_at (n % 10) small, done.1),
    )

pub decimal_writes : (n : ℕ) → n < 2 ^ 64 → Writes n (decimal n)
decimal_writes n fits = decimal_by_steps Writes one_digit one_more_digit n fits

run_of : (ds rest : Text) → IsDigits ds → IsRun is_decimal rest [] rest → IsRun is_decimal (ds ++ rest) ds rest
run_of ds rest (last_digit first) stop = one_more first stop
run_of ds rest (more_digits first more) stop = one_more first (run_of _ rest more stop)

not_comment : (c : ℕ) (t : Text) → is_decimal c ≡ true → is_comment (c ∷ t) ≡ false
not_comment c t digit = at_paren (c == 0x28) refl
  where
    at_paren : (b : Bool) → (c == 0x28) ≡ b → is_comment (c ∷ t) ≡ false
    at_paren true is = absurd (false≢true (sym (ap is_decimal (eqb-true c 0x28 is)) ∙ digit))
    at_paren false is = rw is refl

digits_are_token : (ds rest : Text) → IsDigits ds → is_comment (ds ++ rest) ≡ false
digits_are_token ds rest (last_digit first) = not_comment _ rest first
digits_are_token ds rest (more_digits {c = c} {t = t} first more) = not_comment c (t ++ rest) first

-- a number before a character that is no digit
pub spaced : (n c : ℕ) (rest : Text) → n < unbounded → is_decimal c ≡ false → is_comment (c ∷ rest) ≡ false →
    IsSpacedNumber false (decimal n ++ (c ∷ rest)) n (c ∷ rest)
spaced n c rest fits other token =
    let written = decimal_writes n (omega arith) in
    let clipped : min (value 10 (decimal n)) unbounded ≡ n = omega (arith, written.1) in
    record {
      digits = decimal n ++ (c ∷ rest);
      after = c ∷ rest;
      layout_before = skipped (digits_are_token (decimal n) (c ∷ rest) written.0);
      number = some_digits (run_of (decimal n) (c ∷ rest) written.0 (at_other other)) (subst (λ (k : ℕ). IsNumber (decimal n) k) clipped (a_number written.0));
      layout_after = skipped token;
    }

-- a quantifier of these bounds
pub record HasBounds (lo hi : ℕ) (t rest : Text) : Type 0 where
  pub count : Quantifier
  pub quantifier : IsQuantifier false t count rest
  pub lo_is : count.lo ≡ lo
  pub hi_is : count.hi ≡ hi

braced : (lo hi : ℕ) (t u rest : Text) (count : Quantifier) → u ≡ t → count.lo ≡ lo → count.hi ≡ hi → IsBracedQuantifier false t count rest →
    HasBounds lo hi (0x7B ∷ u) rest
braced lo hi t u rest count same lo_is hi_is is = record {
  count = count;
  quantifier = subst (λ (v : Text). IsQuantifier false (0x7B ∷ v) count rest) (sym same) (counted is);
  lo_is = lo_is;
  hi_is = hi_is;
}

braces_bounds : (lo hi : ℕ) (rest : Text) → lo < unbounded → hi ≤ unbounded → HasBounds lo hi (braces_text lo hi ++ rest) rest
unfolding braces_text
braces_bounds lo hi rest low high = at_same (lo == hi) refl
  where
    at_last : (b : Bool) → (hi == unbounded) ≡ b →
        HasBounds lo hi (cond b (codes "{" ++ decimal lo ++ codes ",}") (codes "{" ++ decimal lo ++ codes "," ++ decimal hi ++ codes "}") ++ rest) rest
    at_last true is =
        braced lo hi (decimal lo ++ (0x2C ∷ 0x7D ∷ rest)) _ rest _ (append_assoc (decimal lo) (codes ",}") rest) refl (sym (eqb-true hi unbounded is))
        (at_least (spaced lo 0x2C (0x7D ∷ rest) low refl refl) (skipped refl) low)
    at_last false is =
        let below : hi < unbounded = omega (arith, eqb-false hi unbounded is) in
        braced lo hi (decimal lo ++ (0x2C ∷ (decimal hi ++ (0x7D ∷ rest)))) _ rest _
        (append_assoc (decimal lo ++ codes "," ++ decimal hi) (codes "}") rest ∙ append_assoc (decimal lo ++ codes ",") (decimal hi) (0x7D ∷ rest)
        ∙ append_assoc (decimal lo) (codes ",") (decimal hi ++ (0x7D ∷ rest)))
        refl refl
        (between (spaced lo 0x2C (decimal hi ++ (0x7D ∷ rest)) low refl refl) (spaced hi 0x7D rest below refl refl) low below)

    at_same : (b : Bool) → (lo == hi) ≡ b →
        HasBounds lo hi (cond b (codes "{" ++ decimal lo ++ codes "}") (cond (hi == unbounded) (codes "{" ++ decimal lo ++ codes ",}") (codes "{" ++ decimal lo ++ codes "," ++ decimal hi ++ codes "}")) ++ rest) rest
    at_same true is =
        braced lo hi (decimal lo ++ (0x7D ∷ rest)) _ rest _ (append_assoc (decimal lo) (codes "}") rest) refl (eqb-true lo hi is)
        (exactly (spaced lo 0x7D rest low refl refl) low)
    at_same false is = at_last (hi == unbounded) refl

abbrev pair_is : ℕ → ℕ → ℕ → ℕ → Bool
pair_is lo hi a b = lo == a && hi == b

pair_parts : (lo hi a b : ℕ) → pair_is lo hi a b ≡ true → (lo ≡ a) × (hi ≡ b)
pair_parts lo hi a b is = let parts = and_parts (lo == a) (hi == b) is in (eqb-true lo a parts.0, eqb-true hi b parts.1)

pub bounds_found : (lo hi : ℕ) (rest : Text) → lo < unbounded → hi ≤ unbounded → HasBounds lo hi (bounds_text lo hi ++ rest) rest
unfolding bounds_text
bounds_found lo hi rest low high = at_optional (pair_is lo hi 0 1) refl
  where
    at_plus : (b : Bool) → pair_is lo hi 1 unbounded ≡ b → HasBounds lo hi (cond b (codes "+") (braces_text lo hi) ++ rest) rest
    at_plus true is = let same = pair_parts lo hi 1 unbounded is in record { count = sign 1 unbounded; quantifier = one_or_more; lo_is = sym same.0; hi_is = sym same.1 }
    at_plus false is = braces_bounds lo hi rest low high

    at_star : (b : Bool) → pair_is lo hi 0 unbounded ≡ b →
        HasBounds lo hi (cond b (codes "*") (cond (pair_is lo hi 1 unbounded) (codes "+") (braces_text lo hi)) ++ rest) rest
    at_star true is = let same = pair_parts lo hi 0 unbounded is in record { count = sign 0 unbounded; quantifier = any_number; lo_is = sym same.0; hi_is = sym same.1 }
    at_star false is = at_plus (pair_is lo hi 1 unbounded) refl

    at_optional : (b : Bool) → pair_is lo hi 0 1 ≡ b →
        HasBounds lo hi (cond b (codes "?") (cond (pair_is lo hi 0 unbounded) (codes "*") (cond (pair_is lo hi 1 unbounded) (codes "+") (braces_text lo hi))) ++ rest) rest
    at_optional true is = let same = pair_parts lo hi 0 1 is in record { count = sign 0 1; quantifier = optional; lo_is = sym same.0; hi_is = sym same.1 }
    at_optional false is = at_star (pair_is lo hi 0 unbounded) refl
