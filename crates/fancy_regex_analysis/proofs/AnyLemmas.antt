-- Lists that have an item that passes a test.
use Rattle.std.proofs.Common.{◌≡◌, zero, suc, ◌<◌, ⊎_elim, Bool, true, List, [], ◌∷◌, refl, ap, ◌∙◌, arith}
use Rattle.std.specs.List.{list_any, Contains}
use Rattle.fancy_regex_info.proofs.ReachabilityLemmas.{or_left, or_right, or_cases}

module _ {X : Type 0} (p : X → Bool) where
  pub any_has : (xs : List X) (x : X) → Contains xs x → p x ≡ true → list_any p xs ≡ true
  any_has [] x c h = absurd (let low : c.0 < 0 = c.1 in omega arith)
  any_has (y ∷ ys) x (zero, low, is) h = or_left (p y) (list_any p ys) (ap p is ∙ h)
  any_has (y ∷ ys) x (suc i, low, is) h = or_right (p y) (list_any p ys) (any_has ys x (i, omega arith, is) h)

  pub any_finds : (xs : List X) → list_any p xs ≡ true → (x : X) × (p x ≡ true) × Contains xs x
  any_finds [] h = cc
  any_finds (y ∷ ys) h =
      ⊎_elim (λ e. (y, e, (0, omega arith, refl)))
      (λ e. let found = any_finds ys e in (found.0, found.1, (suc found.2.0, omega (arith, found.2.1), found.2.2)))
      (or_cases (p y) (list_any p ys) h)
