-- Fronts of a text, character by character.
use Rattle.std.proofs.Common.{◌≡◌, ℕ, ◌+◌, ◌*◌, ◌<◌, min, Bool, true, false, cond, [], ◌∷◌, ◌++◌, take, fold, Option, Some, None, option_map, refl, sym, ap, ◌∙◌, subst, append_assoc, append-nil, arith}
use Rattle.std.specs.Char.{is_digit, digit_value}
use Rattle.std.proofs.Math.Seq.{take-append_seam}
use Rattle.std.proofs.lemmas.List.{length-append}
use Rattle.std.proofs.lemmas.Option.{none-some, same_Some}
use Rattle.fancy_regex_text.specs.Text.{Text, split_if, span, split_digit, is_decimal, is_empty, value, unbounded, prefix_before}
use Rattle.fancy_regex_text.specs.Names.{number, digits, append_digit}

-- these characters were taken from the front, and the others are still to be looked at
abbrev pub Spans : (ℕ → Bool) → Text → Text → Text → Type 0
Spans test front whole rest = (whole ≡ front ++ rest) × (span test whole ≡ (front ++ (span test rest).0, (span test rest).1))

abbrev pub IsSpanned : (ℕ → Bool) → Text → Text → Type 0
IsSpanned test whole rest = (front : Text) × Spans test front whole rest

pub span_start : (test : ℕ → Bool) (t : Text) → IsSpanned test t t
span_start test t = ([], (refl, refl))

abbrev first_of : ℕ → Text → Option (ℕ × Text)
first_of c t = Some (c, t)

one_more : (test : ℕ → Bool) (c : ℕ) (t : Text) → test c ≡ true → span test (c ∷ t) ≡ (c ∷ (span test t).0, (span test t).1)
unfolding span
one_more test c t h = ap (λ b. elim b [ true ↦ (c ∷ (span test t).0, (span test t).1) | false ↦ ([], c ∷ t) ]) h

no_more : (test : ℕ → Bool) (c : ℕ) (t : Text) → test c ≡ false → span test (c ∷ t) ≡ ([], c ∷ t)
unfolding span
no_more test c t h = ap (λ b. elim b [ true ↦ (c ∷ (span test t).0, (span test t).1) | false ↦ ([], c ∷ t) ]) h

pub span_step : (test : ℕ → Bool) (c : ℕ) (front whole t : Text) → test c ≡ true → Spans test front whole (c ∷ t) → Spans test (front ++ c ∷ []) whole t
span_step test c front whole t h (all, is) =
    let more = one_more test c t h in
    (all ∙ sym (append_assoc front (c ∷ []) t), is ∙ rw more (ap (λ x. (x, (span test t).1)) (sym (append_assoc front (c ∷ []) (span test t).0))))

pub span_ends : (test : ℕ → Bool) (rest : Text) → split_if test rest ≡ None → span test rest ≡ ([], rest)
unfolding span
span_ends test [] h = refl
span_ends test (c ∷ t) h = no_more test c t (stopped (test c) (c, t) h)
  where
    stopped : {A : Type 0} (b : Bool) (a : A) → cond b (Some a) None ≡ None → b ≡ false
    stopped true a e = absurd (none-some a (sym e))
    stopped false a e = refl

pub up_to_front : (front rest : Text) → prefix_before (front ++ rest) rest ≡ front
up_to_front front rest =
    ap (λ n. take n (front ++ rest)) (omega (arith, length-append front rest)) ∙ take-append_seam front rest

pub span_end : (test : ℕ → Bool) (whole rest : Text) → split_if test rest ≡ None → IsSpanned test whole rest →
    span test whole ≡ (prefix_before whole rest, rest)
span_end test whole rest h (front, (all, is)) =
    is ∙ rw (span_ends test rest h) (ap (λ x. (x, rest)) (append-nil front ∙ sym (ap (λ w. prefix_before w rest) all ∙ up_to_front front rest)))

-- the first character passes
passed_in : (b : Bool) (c : ℕ) (t u : Text) → Some u ≡ option_map (λ (x : ℕ × Text). x.1) (cond b (first_of c t) None) → (t ≡ u) × (b ≡ true)
passed_in true c t u e = (sym (same_Some u t e), refl)
passed_in false c t u e = absurd (none-some u (sym e))

pub passed : (test : ℕ → Bool) (t u : Text) → Some u ≡ option_map (λ x. x.1) (split_if test t) → (c : ℕ) × (t ≡ c ∷ u) × (test c ≡ true)
passed test [] u h = absurd (none-some u (sym h))
passed test (c ∷ t) u h = let (same, pass) = passed_in (test c) c t u h in (c, ap (λ x. c ∷ x) same, pass)

none_passed_in : (b : Bool) (c : ℕ) (t : Text) → None ≡ option_map (λ (x : ℕ × Text). x.1) (cond b (first_of c t) None) → cond b (first_of c t) None ≡ None
none_passed_in true c t e = absurd (none-some t e)
none_passed_in false c t e = refl

pub none_passed : (test : ℕ → Bool) (t : Text) → None ≡ option_map (λ x. x.1) (split_if test t) → split_if test t ≡ None
none_passed test [] h = refl
none_passed test (c ∷ t) h = none_passed_in (test c) c t h

pub span_next : (test : ℕ → Bool) (whole t u : Text) → Some u ≡ option_map (λ x. x.1) (split_if test t) → IsSpanned test whole t → IsSpanned test whole u
span_next test whole t u h (front, s) =
    let (c, is, pass) = passed test t u h in (front ++ c ∷ [], span_step test c front whole u pass (subst (Spans test front whole) is s))

-- the number that digits write, if there are any
abbrev pub number_of : Text → Option ℕ
number_of [] = None
number_of (c ∷ t) = Some (number (c ∷ t))

-- digits were taken from the front, and write this number
abbrev pub IsCounted : Option ℕ → Text → Text → Type 0
IsCounted n whole rest =
    (front : Text) × Spans is_decimal front whole rest × (n ≡ number_of front)

pub count_start : (t : Text) → IsCounted None t t
count_start t = ([], (refl, refl), refl)

fold-snoc : (radix : ℕ) (t : Text) (n c : ℕ) →
    fold (λ m d. m * radix + digit_value d) n (t ++ c ∷ []) ≡ fold (λ m d. m * radix + digit_value d) n t * radix + digit_value c
fold-snoc radix [] n c = refl
fold-snoc radix (d ∷ t) n c = fold-snoc radix t (n * radix + digit_value d) c

pub value-snoc : (radix : ℕ) (t : Text) (c : ℕ) → value radix (t ++ c ∷ []) ≡ value radix t * radix + digit_value c
value-snoc radix t c = fold-snoc radix t 0 c

min_more : (v d : ℕ) → min (v * 10 + d) unbounded ≡ min (min (min v unbounded * 10) unbounded + d) unbounded
min_more v d = omega arith

number-snoc : (t : Text) (c d : ℕ) → digit_value c ≡ d → number (t ++ c ∷ []) ≡ min (min (number t * 10) unbounded + d) unbounded
unfolding number
number-snoc t c d h = ap (λ v. min v unbounded) (value-snoc 10 t c ∙ ap (λ x. value 10 t * 10 + x) h) ∙ min_more (value 10 t) d

one_digit : (c d : ℕ) → digit_value c ≡ d → d < 10 → number (c ∷ []) ≡ d
unfolding number
one_digit c d h small = ap (λ x. min (0 * 10 + x) unbounded) h ∙ omega (arith, small)

pub number_of-snoc : (t : Text) (c d : ℕ) → digit_value c ≡ d → d < 10 → number_of (t ++ c ∷ []) ≡ Some (append_digit (number_of t) d)
number_of-snoc [] c d h small = ap Some (one_digit c d h small)
number_of-snoc (e ∷ t) c d h small = ap Some (number-snoc (e ∷ t) c d h)

-- the first character is a digit
digit_passed_in : (b : Bool) (c d : ℕ) (t u : Text) → Some (d, u) ≡ cond b (first_of (digit_value c) t) None → (t ≡ u) × (b ≡ true) × (digit_value c ≡ d)
digit_passed_in true c d t u e =
    let same : first_of (digit_value c) t ≡ first_of d u = sym e in
    (ap (λ x. x.1) (same_Some (digit_value c, t) (d, u) same), refl, ap (λ x. x.0) (same_Some (digit_value c, t) (d, u) same))
digit_passed_in false c d t u e = absurd (none-some (d, u) (sym e))

pub digit_passed : (radix : ℕ) (t u : Text) (d : ℕ) → Some (d, u) ≡ split_digit radix t →
    (c : ℕ) × (t ≡ c ∷ u) × (is_digit c radix ≡ true) × (digit_value c ≡ d)
digit_passed radix [] u d h = absurd (none-some (d, u) (sym h))
digit_passed radix (c ∷ t) u d h = let (same, pass, digit) = digit_passed_in (is_digit c radix) c d t u h in (c, ap (λ x. c ∷ x) same, pass, digit)

no_digit_in : (b : Bool) (c : ℕ) (t : Text) → None ≡ cond b (first_of (digit_value c) t) None → cond b (first_of c t) None ≡ None
no_digit_in true c t e = absurd (none-some (digit_value c, t) e)
no_digit_in false c t e = refl

pub no_digit : (radix : ℕ) (t : Text) → None ≡ split_digit radix t → split_if (λ c. is_digit c radix) t ≡ None
no_digit radix [] h = refl
no_digit radix (c ∷ t) h = no_digit_in (is_digit c radix) c t h

pub count_next : (n : Option ℕ) (whole t u : Text) (d : ℕ) → Some (d, u) ≡ split_digit 10 t → d < 10 → IsCounted n whole t →
    IsCounted (Some (append_digit n d)) whole u
count_next n whole t u d h small (front, spans, counted) =
    let (c, first, pass, digit) = digit_passed 10 t u d h in (
      front ++ c ∷ [],
      span_step is_decimal c front whole u pass (subst (Spans is_decimal front whole) first spans),
      rw counted (sym (number_of-snoc front c d digit small)),
    )

pub count_end : (n : Option ℕ) (whole rest : Text) → None ≡ split_digit 10 rest → IsCounted n whole rest → (n, rest) ≡ digits whole
unfolding digits
count_end n whole rest h (front, (all, is), counted) =
    let ends = span_ends is_decimal rest (no_digit 10 rest h) in
    let parts : span is_decimal whole ≡ (front, rest) = is ∙ rw ends (ap (λ x. (x, rest)) (append-nil front)) in
    rw (parts, counted) (ap (λ x. (x, rest)) (same front))
  where
    same : (t : Text) → number_of t ≡ cond (is_empty t) None (Some (number t))
    same [] = refl
    same (c ∷ t) = refl
