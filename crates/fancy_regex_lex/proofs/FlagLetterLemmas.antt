-- Flags letter by letter.
use Rattle.std.proofs.Common.{◌≡◌, ℕ, Bool, true, false, cond, ◌||◌, ◌==◌, Some, None, Ok, [], ◌∷◌, ◌++◌, refl, sym, ap, ◌∙◌, subst, append_assoc, true≢false}
use Rattle.std.proofs.lemmas.Option.{none-some, same_Some}
use Rattle.fancy_regex_text.specs.Text.{Text, IsSuffix}
use Rattle.fancy_regex_text.specs.ParseFault.{ParseOutcome, ◌>>=◌, Fails}
use Rattle.fancy_regex_lex.specs.FlagLetters.{next_letter, closed, flag_letter, flag_letters}
use Rattle.fancy_regex_lex.specs.declared.token.Flags.{Flags}
use Rattle.fancy_regex_text.specs.declared.fault.ReadError.{ReadError}
use Rattle.fancy_regex_text.specs.declared.fault.ReadError.TheVariants as errors

pub fails_with : {A B : Type 0} (e : ReadError) (r : ParseOutcome A) (f : A → ParseOutcome B) → Fails e r → Fails e (r >>= f)
fails_with errors.Memory r f h = tt
fails_with (errors.ParseFault x) r f h = rw h refl

abbrev first_of : ℕ → Text → ℕ × Text
first_of c t = (c, t)

-- neither ends the flags
goes_in : (a b : Bool) (p q : ℕ × Text) → Some p ≡ cond (a || b) None (Some q) → (a ≡ false) × (b ≡ false) × (p ≡ q)
goes_in true b p q h = absurd (none-some p (sym h))
goes_in false true p q h = absurd (none-some p (sym h))
goes_in false false p q h = (refl, refl, same_Some p q h)

-- one of them does
ends_in : (a b : Bool) (q : ℕ × Text) → None ≡ cond (a || b) None (Some q) → (a || b) ≡ true
ends_in true b q h = refl
ends_in false true q h = refl
ends_in false false q h = absurd (none-some q h)

-- whatever stands in the last place
last_place : {A : Type 0} (a b : Bool) (x y z w : A) → (a || b) ≡ true → cond a x (cond b y z) ≡ cond a x (cond b y w)
last_place true b x y z w h = refl
last_place false true x y z w h = refl
last_place false false x y z w h = absurd (true≢false (sym h))

module _ (unicode : Bool) (here : Text) where
  -- a letter and then the others
  letter_then : (on : Bool) (f : Flags) (c : ℕ) (t u : Text) → Some (c, u) ≡ next_letter t →
      flag_letters unicode here on f t ≡ (flag_letter unicode here on f c u >>= λ x. flag_letters unicode here x.1 x.0 u)
  unfolding next_letter flag_letters
  letter_then on f c [] u h = absurd (none-some (c, u) (sym h))
  letter_then on f c (d ∷ t) u h =
      let (colon, paren, same) = goes_in (d == 0x3A) (d == 0x29) (first_of c u) (first_of d t) h in
      rw (flag_letters, colon, paren) (ap (λ x. flag_letter unicode here on f x.0 x.1 >>= λ y. flag_letters unicode here y.1 y.0 x.1) (sym same))

  pub letter_goes : (on o : Bool) (f g : Flags) (c : ℕ) (t u : Text) → Some (c, u) ≡ next_letter t → flag_letter unicode here on f c u ≡ Ok (g, o) →
      flag_letters unicode here on f t ≡ flag_letters unicode here o g u
  letter_goes on o f g c t u h k = letter_then on f c t u h ∙ ap (λ r. r >>= λ x. flag_letters unicode here x.1 x.0 u) k

  pub letter_fails : (on : Bool) (f : Flags) (c : ℕ) (t u : Text) (e : ReadError) → Some (c, u) ≡ next_letter t → Fails e (flag_letter unicode here on f c u) →
      Fails e (flag_letters unicode here on f t)
  letter_fails on f c t u e h k = subst (Fails e) (sym (letter_then on f c t u h)) (fails_with e (flag_letter unicode here on f c u) _ k)

  pub letters_end : (on : Bool) (f : Flags) (t : Text) → None ≡ next_letter t → flag_letters unicode here on f t ≡ closed f t
  unfolding next_letter flag_letters closed
  letters_end on f [] h = refl
  letters_end on f (d ∷ t) h = last_place (d == 0x3A) (d == 0x29) _ _ _ _ (ends_in (d == 0x3A) (d == 0x29) (first_of d t) h)

-- what follows the first character of an end is an end
pub end_next : (c : ℕ) (t u whole : Text) → t ≡ c ∷ u → IsSuffix t whole → IsSuffix u whole
end_next c t u whole h (front, is) = (front ++ c ∷ [], is ∙ ap (λ x. front ++ x) h ∙ sym (append_assoc front (c ∷ []) u))
