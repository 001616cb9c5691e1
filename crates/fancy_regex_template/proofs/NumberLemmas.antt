-- Numbers digit by digit.
use Rattle.std.proofs.Common.{◌≡◌, ℕ, Bool, true, false, cond, ◌&&◌, nat_le, [], ◌∷◌, Some, None, option_map, refl, sym, ap}
use Rattle.std.proofs.lemmas.Option.{none-some, same_Some}
use Rattle.fancy_regex_text.specs.Text.{Text, is_decimal, unbounded}
use Rattle.fancy_regex_template.specs.Numbers.{append_digit, append_digits, leading_number, with_digit}

-- no digit at all
pub number_none : (t : Text) → None ≡ append_digit 0 t → None ≡ leading_number t
unfolding leading_number
number_none t h = ap (option_map (λ first. append_digits first.0 first.1)) h

-- the first digit
pub number_start : (n : ℕ) (t u : Text) → Some (n, u) ≡ append_digit 0 t → leading_number t ≡ Some (append_digits n u)
unfolding leading_number
number_start n t u h = ap (option_map (λ first. append_digits first.0 first.1)) (sym h)

abbrev pub pair : ℕ → Text → ℕ × Text
pair n t = (n, t)

taken : (b : Bool) (n m : ℕ) (t u : Text) (e : ℕ × Text) → Some (pair m u) ≡ cond b (Some (pair n t)) None → cond b (append_digits n t) e ≡ append_digits m u
taken true n m t u e h = ap (λ x. append_digits x.0 x.1) (same_Some (pair n t) (pair m u) (sym h))
taken false n m t u e h = absurd (none-some (pair m u) (sym h))

left : (b : Bool) (n : ℕ) (t : Text) (e : ℕ × Text) → None ≡ cond b (Some (pair n t)) None → cond b (append_digits n t) e ≡ e
left true n t e h = absurd (none-some (pair n t) h)
left false n t e h = refl

-- the next character is a digit that still fits
abbrev pub is_taken : ℕ → ℕ → Bool
is_taken n c = is_decimal c && nat_le (with_digit n c) unbounded

-- a further digit
pub number_more : (n m : ℕ) (t u : Text) → Some (m, u) ≡ append_digit n t → append_digits n t ≡ append_digits m u
unfolding append_digit append_digits
number_more n m [] u h = absurd (none-some (pair m u) (sym h))
number_more n m (c ∷ t) u h = taken (is_taken n c) (with_digit n c) m t u (n, c ∷ t) h

-- no further digit
pub number_end : (n : ℕ) (t : Text) → None ≡ append_digit n t → append_digits n t ≡ (n, t)
unfolding append_digit append_digits
number_end n [] h = refl
number_end n (c ∷ t) h = left (is_taken n c) (with_digit n c) t (n, c ∷ t) h
