-- Rows all of whose trees pass a test.
use Rattle.std.proofs.Common.{◌≡◌, ℕ, ◌+◌, ◌<◌, ◌≤◌, Bool, true, false, ◌&&◌, List, length, drop, get_or, map, ap, sym, ◌∙◌}
use Rattle.std.proofs.lemmas.List.{at_drop_more}
use Rattle.std.proofs.Math.ListN.{drop_of_length-le}
use Rattle.fancy_regex_tree.specs.Tree.{Tree, Trees, tree_of, trees, no_trees, more_trees}
use Rattle.fancy_regex_tree.specs.declared.expr.Expr.{Expr}

module _ (one : Tree → Bool) (row : Trees → Bool) (none : row no_trees ≡ true)
    (more : (t : Tree) (ts : Trees) → row (more_trees t ts) ≡ (one t && row ts)) where
  abbrev all : List Expr → Bool
  all xs = row (trees (map tree_of xs))

  all_step : (xs : List Expr) (i : ℕ) (x : Expr) → i < length xs → x ≡ get_or xs i x → all (drop i xs) ≡ (one (tree_of x) && all (drop (i + 1) xs))
  all_step xs i x inside is =
      at_drop_more all xs i x inside ∙ more (tree_of (get_or xs i x)) (trees (map tree_of (drop (i + 1) xs)))
      ∙ ap (λ y. one (tree_of y) && all (drop (i + 1) xs)) (sym is)

  pub all_fails : (xs : List Expr) (i : ℕ) (x : Expr) → i < length xs → x ≡ get_or xs i x → all (drop i xs) ≡ all xs →
      one (tree_of x) ≡ false → false ≡ all xs
  all_fails xs i x inside is same fails = sym (ap (λ b. b && all (drop (i + 1) xs)) fails) ∙ sym (all_step xs i x inside is) ∙ same

  pub all_goes_on : (xs : List Expr) (i : ℕ) (x : Expr) → i < length xs → x ≡ get_or xs i x → all (drop i xs) ≡ all xs →
      one (tree_of x) ≡ true → all (drop (i + 1) xs) ≡ all xs
  all_goes_on xs i x inside is same holds = sym (ap (λ b. b && all (drop (i + 1) xs)) holds) ∙ sym (all_step xs i x inside is) ∙ same

  pub all_holds : (xs : List Expr) (i : ℕ) → length xs ≤ i → all (drop i xs) ≡ all xs → true ≡ all xs
  all_holds xs i past same = sym none ∙ ap all (sym (drop_of_length-le xs past)) ∙ same
