-- The bodies of a program whose calls stay, one behind another.
use Rattle.std.proofs.Common.{◌≡◌, ℕ, zero, suc, ◌+◌, Bool, List, [], ◌∷◌, ◌++◌, length, Some, refl, sym, ap, subst, ◌∙◌, append_assoc, length-append, arith}
use Rattle.std.specs.Prelude.{slice_get}
use Rattle.std.proofs.lemmas.Option.{none-some, same_Some}
use Rattle.fancy_regex_tree.specs.Tree.{Text}
use Rattle.fancy_regex_program.specs.Ops.{Op}
use Rattle.fancy_regex_program.specs.Code.{Layout, slots_with}
use Rattle.fancy_regex_program.specs.Assembled.{Body, stretch, stretches, StandFrom}

append_none : {A : Type 0} (l : List A) → l ++ [] ≡ l
append_none [] = refl
append_none (x ∷ l) = ap (λ m. x ∷ m) (append_none l)

module _ (has_member : Text → Bool → ℕ → Bool) (fold : ℕ → ℕ) (whole : Bool) (layout : Layout) where
  abbrev R : List Body → List Op
  R = stretches has_member fold whole layout

  -- one body more
  pub stretches_more : (bs : List Body) (b : Body) → R (bs ++ b ∷ []) ≡ R bs ++ stretch has_member fold whole layout b
  stretches_more [] b = append_none (stretch has_member fold whole layout b)
  stretches_more (x ∷ bs) b =
      ap (λ ops. stretch has_member fold whole layout x ++ ops) (stretches_more bs b)
      ∙ sym (append_assoc (stretch has_member fold whole layout x) (R bs) (stretch has_member fold whole layout b))

  pub stand_more : (pc : ℕ) (bs : List Body) (b : Body) → StandFrom has_member fold whole layout pc bs → b.start ≡ pc + length (R bs) → b.own ≡ slots_with layout b.pattern →
      StandFrom has_member fold whole layout pc (bs ++ b ∷ [])
  stand_more pc [] b v start own = (omega (arith, start), own, tt)
  stand_more pc (x ∷ bs) b v start own =
      let here = stretch has_member fold whole layout x in
      (v.0, v.1, stand_more (pc + length here) bs b v.2 (omega (arith, start, length-append here (R bs))) own)

  -- A body stands in the program, where others are in front of it and behind it.
  pub record StandsIn (pc : ℕ) (bs : List Body) (b : Body) : Type 0 where
    pub before : List Op
    pub after : List Op
    pub is : R bs ≡ before ++ (stretch has_member fold whole layout b ++ after)
    pub start : b.start ≡ pc + length before
    pub own : b.own ≡ slots_with layout b.pattern

  pub stands_at : (pc : ℕ) (bs : List Body) (n : ℕ) (b : Body) → StandFrom has_member fold whole layout pc bs → slice_get bs n ≡ Some b → StandsIn pc bs b
  stands_at pc [] n b v at = absurd (none-some b at)
  stands_at pc (x ∷ bs) zero b v at =
      let P = λ (y : Body). StandsIn pc (x ∷ bs) y in
      subst P (same_Some x b at) (record { before = []; after = R bs; is = refl; start = omega (arith, v.0); own = v.1 })
  stands_at pc (x ∷ bs) (suc n) b v at =
      let here = stretch has_member fold whole layout x in
      let later = stands_at (pc + length here) bs n b v.2 at in
      record {
        before = here ++ later.before;
        after = later.after;
        is = ap (λ ops. here ++ ops) later.is ∙ sym (append_assoc here later.before (stretch has_member fold whole layout b ++ later.after));
        start = omega (arith, later.start, length-append here later.before);
        own = later.own;
      }
