-- The leading number of a text is the longest that fits.
use Rattle.std.proofs.Common.{◌≡◌, ◌≢◌, ℕ, ◌+◌, ◌*◌, ◌<◌, ◌≤◌, true, false, cond, nat_le, [], ◌∷◌, ◌++◌, fold, Some, None, option_map, refl, sym, ap, ◌∙◌, subst, append_assoc, append-nil, arith, ⊎_elim}
use Rattle.std.specs.Char.{digit_value}
use Rattle.std.proofs.lemmas.Option.{none-some, same_Some}
use Rattle.std.proofs.lemmas.Bool.{cases_Bool, and_parts, and_from, leb-true, leb-false, le-leb, both_ways}
use Rattle.fancy_regex_text.specs.Text.{Text, is_decimal, value, unbounded}
use Rattle.fancy_regex_text.proofs.SpanLemmas.{value-snoc}
use Rattle.fancy_regex_template.specs.Numbers.{append_digit, append_digits, leading_number, with_digit}
use Rattle.fancy_regex_template.specs.Cuts.{AllPass, IsLongestNumber}
use Rattle.fancy_regex_template.proofs.NumberLemmas.{is_taken, pair}

-- no further digit fits after these
abbrev pub IsFull : Text → Text → Type 0
IsFull digits rest = (c : ℕ) (more : Text) → rest ≡ c ∷ more → is_decimal c ≡ true → unbounded < value 10 (digits ++ c ∷ [])

-- the digits in front, and as many of the text as fit, write the number
pub record Continues (front t : Text) (number : ℕ) (rest : Text) : Type 0 where
  pub digits : Text
  pub whole : t ≡ digits ++ rest
  pub all : AllPass is_decimal digits
  pub value_is : number ≡ value 10 (front ++ digits)
  pub fits : number ≤ unbounded
  pub longest : IsFull (front ++ digits) rest

digits-true : (n c : ℕ) (t : Text) → is_taken n c ≡ true → append_digits n (c ∷ t) ≡ append_digits (with_digit n c) t
unfolding append_digits
digits-true n c t h = ap (λ b. cond b (append_digits (with_digit n c) t) (n, c ∷ t)) h

digits-false : (n c : ℕ) (t : Text) → is_taken n c ≡ false → append_digits n (c ∷ t) ≡ (n, c ∷ t)
unfolding append_digits
digits-false n c t h = ap (λ b. cond b (append_digits (with_digit n c) t) (n, c ∷ t)) h

snoc_value : (front : Text) (n c : ℕ) → n ≡ value 10 front → with_digit n c ≡ value 10 (front ++ c ∷ [])
snoc_value front n c h = ap (λ m. m * 10 + digit_value c) h ∙ sym (value-snoc 10 front c)

nil_cons : (c : ℕ) (t : Text) → ◌≡◌ {A = Text} [] (c ∷ t) → ⊥
nil_cons c t h = cc

abbrev ContinuesIn : Text → Text → ℕ × Text → Type 0
ContinuesIn front t x = Continues front t x.0 x.1

nothing_more : (front t : Text) (n : ℕ) → n ≡ value 10 front → n ≤ unbounded → IsFull front t → Continues front t n t
nothing_more front t n h fits full = record {
  digits = [];
  whole = refl;
  all = tt;
  value_is = h ∙ ap (value 10) (sym (append-nil front));
  fits = fits;
  longest = subst (λ ds. IsFull ds t) (sym (append-nil front)) full;
}

too_much : (front t : Text) (n c : ℕ) → n ≡ value 10 front → is_taken n c ≡ false → IsFull front (c ∷ t)
too_much front t n c h left d more same pass =
    let first : c ≡ d = cc in
    let decimal : is_decimal c ≡ true = ap is_decimal first ∙ pass in
    let over : nat_le (with_digit n c) unbounded ≡ false =
    ⊎_elim (λ e. absurd (both_ways (is_taken n c) left (and_from (is_decimal c) (nat_le (with_digit n c) unbounded) decimal e))) (λ e. e)
    (cases_Bool (nat_le (with_digit n c) unbounded)) in
    subst (λ e. unbounded < value 10 (front ++ e ∷ [])) first
    (subst (λ v. unbounded < v) (snoc_value front n c h) (leb-false (with_digit n c) unbounded over))

pub digits_continue : (front : Text) (n : ℕ) (t : Text) → n ≡ value 10 front → n ≤ unbounded → ContinuesIn front t (append_digits n t)
unfolding append_digits
digits_continue front n [] h fits = nothing_more front [] n h fits (λ c more same pass. absurd (nil_cons c more same))
digits_continue front n (c ∷ t) h fits = ⊎_elim
    (λ e. let parts = and_parts (is_decimal c) (nat_le (with_digit n c) unbounded) e in
    let more = digits_continue (front ++ c ∷ []) (with_digit n c) t (snoc_value front n c h) (leb-true (with_digit n c) unbounded parts.1) in
    subst (ContinuesIn front (c ∷ t)) (sym (digits-true n c t e)) (record {
      digits = c ∷ more.digits;
      whole = ap (λ x. c ∷ x) more.whole;
      all = (parts.0, more.all);
      value_is = more.value_is ∙ ap (value 10) (append_assoc front (c ∷ []) more.digits);
      fits = more.fits;
      longest = subst (λ ds. IsFull ds (append_digits (with_digit n c) t).1) (append_assoc front (c ∷ []) more.digits) more.longest;
    }))
    (λ e. subst (ContinuesIn front (c ∷ t)) (sym (digits-false n c t e)) (nothing_more front (c ∷ t) n h fits (too_much front t n c h e)))
    (cases_Bool (is_taken n c))

first_taken : (c : ℕ) (t : Text) → is_taken 0 c ≡ true → leading_number (c ∷ t) ≡ Some (append_digits (with_digit 0 c) t)
unfolding leading_number append_digit
first_taken c t h = ap (λ b. option_map (λ first. append_digits first.0 first.1) (cond b (Some (pair (with_digit 0 c) t)) None)) h

first_left : (c : ℕ) (t : Text) → is_taken 0 c ≡ false → leading_number (c ∷ t) ≡ None
unfolding leading_number append_digit
first_left c t h = ap (λ b. option_map (λ first. append_digits first.0 first.1) (cond b (Some (pair (with_digit 0 c) t)) None)) h

abbrev LongestIn : Text → ℕ × Text → Type 0
LongestIn t x = (digits : Text) × (x.0 ≡ value 10 digits) × IsLongestNumber t digits x.1

cons_nil : (c : ℕ) (t : Text) → ◌≡◌ {A = Text} (c ∷ t) [] → ⊥
cons_nil c t h = cc

-- what `leading_number` finds
pub number_is_longest : (t : Text) (x : ℕ × Text) → leading_number t ≡ Some x → LongestIn t x
unfolding leading_number append_digit
number_is_longest [] x h = absurd (none-some x h)
number_is_longest (c ∷ t) x h = ⊎_elim
    (λ e. let parts = and_parts (is_decimal c) (nat_le (with_digit 0 c) unbounded) e in
    let more = digits_continue (c ∷ []) (with_digit 0 c) t refl (leb-true (with_digit 0 c) unbounded parts.1) in
    subst (LongestIn (c ∷ t)) (same_Some (append_digits (with_digit 0 c) t) x (sym (first_taken c t e) ∙ h)) (
      c ∷ more.digits,
      more.value_is,
      record {
        whole = ap (λ y. c ∷ y) more.whole;
        present = cons_nil c more.digits;
        all = (parts.0, more.all);
        fits = subst (λ v. v ≤ unbounded) more.value_is more.fits;
        longest = more.longest;
      },
    ))
    (λ e. absurd (none-some x (sym (first_left c t e) ∙ h)))
    (cases_Bool (is_taken 0 c))

-- more digits write no less
fold_grows : (t : Text) (n : ℕ) → n ≤ fold (λ m d. m * 10 + digit_value d) n t
fold_grows [] n = omega arith
fold_grows (c ∷ t) n = omega (arith, fold_grows t (n * 10 + digit_value c))

fold-append : (a b : Text) (n : ℕ) → fold (λ m d. m * 10 + digit_value d) n (a ++ b) ≡ fold (λ m d. m * 10 + digit_value d) (fold (λ m d. m * 10 + digit_value d) n a) b
fold-append [] b n = refl
fold-append (c ∷ a) b n = fold-append a b (n * 10 + digit_value c)

value_grows : (a b : Text) → value 10 a ≤ value 10 (a ++ b)
value_grows a b = subst (λ v. value 10 a ≤ v) (sym (fold-append a b 0)) (fold_grows b (value 10 a))

stopped : (front rest : Text) (n : ℕ) → n ≡ value 10 front → IsFull front rest → append_digits n rest ≡ (n, rest)
unfolding append_digits
stopped front [] n h full = refl
stopped front (c ∷ t) n h full = digits-false n c t (⊎_elim
    (λ e. let parts = and_parts (is_decimal c) (nat_le (with_digit n c) unbounded) e in
    absurd (omega (arith, full c t refl parts.0, leb-true (with_digit n c) unbounded parts.1, snoc_value front n c h)))
    (λ e. e) (cases_Bool (is_taken n c)))

-- digits that fit are taken
run_taken : (digits front rest : Text) (n : ℕ) → n ≡ value 10 front → AllPass is_decimal digits → value 10 (front ++ digits) ≤ unbounded →
    IsFull (front ++ digits) rest → append_digits n (digits ++ rest) ≡ (value 10 (front ++ digits), rest)
run_taken [] front rest n h all fits full =
    stopped front rest n h (subst (λ ds. IsFull ds rest) (append-nil front) full) ∙ ap (λ v. (v, rest)) (h ∙ ap (value 10) (sym (append-nil front)))
run_taken (c ∷ digits) front rest n h all fits full =
    let again : (front ++ c ∷ []) ++ digits ≡ front ++ c ∷ digits = append_assoc front (c ∷ []) digits in
    let small : with_digit n c ≤ unbounded =
    omega (arith, snoc_value front n c h, value_grows (front ++ c ∷ []) digits, ap (value 10) again, fits) in
    digits-true n c (digits ++ rest) (and_from (is_decimal c) (nat_le (with_digit n c) unbounded) all.0 (le-leb (with_digit n c) unbounded small))
    ∙ run_taken digits (front ++ c ∷ []) rest (with_digit n c) (snoc_value front n c h) all.1 (subst (λ ds. value 10 ds ≤ unbounded) (sym again) fits)
    (subst (λ ds. IsFull ds rest) (sym again) full)
    ∙ ap (λ ds. (value 10 ds, rest)) again

longest_from : (digits rest : Text) → digits ≢ [] → AllPass is_decimal digits → value 10 digits ≤ unbounded → IsFull digits rest →
    leading_number (digits ++ rest) ≡ Some (value 10 digits, rest)
longest_from [] rest present all fits full = absurd (present refl)
longest_from (c ∷ digits) rest present all fits full =
    let small : with_digit 0 c ≤ unbounded = omega (arith, value_grows (c ∷ []) digits, fits) in
    first_taken c (digits ++ rest) (and_from (is_decimal c) (nat_le (with_digit 0 c) unbounded) all.0 (le-leb (with_digit 0 c) unbounded small))
    ∙ ap Some (run_taken digits (c ∷ []) rest (with_digit 0 c) refl all.1 fits full)

-- nothing else is a leading number
pub number_only : (t digits rest : Text) → IsLongestNumber t digits rest → leading_number t ≡ Some (value 10 digits, rest)
number_only t digits rest is = ap leading_number is.whole ∙ longest_from digits rest is.present is.all is.fits is.longest
