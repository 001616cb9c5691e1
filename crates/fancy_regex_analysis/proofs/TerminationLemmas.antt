-- What can end, along branches.
use Rattle.std.proofs.Common.{◌≡◌, ℕ, ◌+◌, ◌<◌, ◌≤◌, Bool, true, false, ◌||◌, List, [], ◌∷◌, length, drop, get_or, map, refl, ap, sym, ◌∙◌}
use Rattle.std.proofs.lemmas.List.{at_drop_more}
use Rattle.std.proofs.Math.ListN.{drop_of_length-le}
use Rattle.fancy_regex_tree.specs.Tree.{tree_of, trees}
use Rattle.fancy_regex_tree.specs.declared.expr.Expr.{Expr}
use Rattle.fancy_regex_meaning.specs.Termination.{can_end_with, some_can_end}

module _ (call : ℕ → Bool) where
  abbrev can : Expr → Bool
  can x = can_end_with call (tree_of x)

  abbrev some : List Expr → Bool
  some xs = some_can_end call (trees (map tree_of xs))

  some_of_none : some [] ≡ false
  unfolding can_end_with some_can_end
  some_of_none = refl

  some_of_more : (x : Expr) (xs : List Expr) → some (x ∷ xs) ≡ (can x || some xs)
  unfolding can_end_with some_can_end
  some_of_more x xs = refl

  some_step : (xs : List Expr) (i : ℕ) (x : Expr) → i < length xs → x ≡ get_or xs i x → some (drop i xs) ≡ (can x || some (drop (i + 1) xs))
  some_step xs i x inside is =
      at_drop_more some xs i x inside ∙ some_of_more (get_or xs i x) (drop (i + 1) xs) ∙ ap (λ y. can y || some (drop (i + 1) xs)) (sym is)

  pub some_holds : (xs : List Expr) (i : ℕ) (x : Expr) → i < length xs → x ≡ get_or xs i x → some (drop i xs) ≡ some xs →
      can x ≡ true → true ≡ some xs
  some_holds xs i x inside is same holds = sym (ap (λ b. b || some (drop (i + 1) xs)) holds) ∙ sym (some_step xs i x inside is) ∙ same

  pub some_goes_on : (xs : List Expr) (i : ℕ) (x : Expr) → i < length xs → x ≡ get_or xs i x → some (drop i xs) ≡ some xs →
      can x ≡ false → some (drop (i + 1) xs) ≡ some xs
  some_goes_on xs i x inside is same fails = sym (ap (λ b. b || some (drop (i + 1) xs)) fails) ∙ sym (some_step xs i x inside is) ∙ same

  pub some_fails : (xs : List Expr) (i : ℕ) → length xs ≤ i → some (drop i xs) ≡ some xs → false ≡ some xs
  some_fails xs i past same = sym some_of_none ∙ ap some (sym (drop_of_length-le xs past)) ∙ same
