-- The first of several ends.
use Rattle.std.proofs.Common.{◌≡◌, ℕ, zero, suc, ◌<◌, Bool, true, false, List, [], ◌∷◌, ◌++◌, length, Option, Some, None, refl, sym, ap, subst, ◌∙◌, arith, get_or}
use Rattle.std.specs.Prelude.{Contains, if◌then◌else◌}
use Rattle.fancy_regex_states.specs.Attempts.{Trace, Continuation, AttemptResult, guard, write, better_trace}
use Rattle.fancy_regex_table.specs.Ends.{end_of, or_else, end_at, first_end}

pub or_else_assoc : (a b c : Option ℕ) → or_else (or_else a b) c ≡ or_else a (or_else b c)
or_else_assoc None b c = refl
or_else_assoc (Some x) b c = refl

pub or_else_none : (a : Option ℕ) → or_else a None ≡ a
or_else_none None = refl
or_else_none (Some x) = refl

pub or_else_twice : (a b : Option ℕ) → or_else (or_else a b) a ≡ or_else a b
or_else_twice None b = or_else_none b
or_else_twice (Some x) b = refl

-- neither of two is there
pub neither : (a b : Option ℕ) → or_else a b ≡ None → (a ≡ None) × (b ≡ None)
neither None b e = (refl, e)
neither (Some x) b e = cc

pub end_better : (a b : Option Trace) → end_of (better_trace false a b) ≡ or_else (end_of a) (end_of b)
end_better None b = refl
end_better (Some x) None = refl
end_better (Some x) (Some y) = refl

pub end_write : (slot i : ℕ) (a : Option Trace) → end_of (write slot i a) ≡ end_of a
end_write slot i None = refl
end_write slot i (Some t) = refl

pub end_guard : (b : Bool) (r : AttemptResult) → end_of (guard b r).answer ≡ (if b then end_of r.answer else None)
end_guard true r = refl
end_guard false r = refl

module _ (go : ℕ → Continuation) (i : ℕ) where
  pub first_end_append : (xs ys : List ℕ) → first_end go i (xs ++ ys) ≡ or_else (first_end go i xs) (first_end go i ys)
  first_end_append [] ys = refl
  first_end_append (x ∷ xs) ys =
      ap (or_else (end_at go i x)) (first_end_append xs ys) ∙ sym (or_else_assoc (end_at go i x) (first_end go i xs) (first_end go i ys))

  there_from : (xs : List ℕ) (k q : ℕ) → k < length xs → get_or xs k q ≡ q
      → or_else (first_end go i xs) (end_at go i q) ≡ first_end go i xs
  there_from [] k q lt is = absurd (omega arith)
  there_from (x ∷ xs) zero q lt is =
      subst (λ (p : ℕ). or_else (or_else (end_at go i x) (first_end go i xs)) (end_at go i p) ≡ or_else (end_at go i x) (first_end go i xs)) is
      (or_else_twice (end_at go i x) (first_end go i xs))
  there_from (x ∷ xs) (suc k) q lt is =
      or_else_assoc (end_at go i x) (first_end go i xs) (end_at go i q)
      ∙ ap (or_else (end_at go i x)) (there_from xs k q (omega arith) is)

  -- a state that is in the list adds nothing to it
  pub first_end_there : (xs : List ℕ) (q : ℕ) → Contains xs q → or_else (first_end go i xs) (end_at go i q) ≡ first_end go i xs
  first_end_there xs q (k, lt, is) = there_from xs k q lt is

  -- if none of the list has a way, one that is in it has none
  pub none_there : (xs : List ℕ) (q : ℕ) → first_end go i xs ≡ None → Contains xs q → end_at go i q ≡ None
  none_there xs q none is =
      subst (λ (a : Option ℕ). or_else a (end_at go i q) ≡ a) none (first_end_there xs q is)
