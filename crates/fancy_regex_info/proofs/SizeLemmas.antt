-- Sizes of rows and alternations, from their ends.
use Rattle.std.proofs.Common.{◌≡◌, ℕ, ◌+◌, ◌-◌, ◌<◌, ◌≤◌, List, [], ◌∷◌, length, drop, get_or, map, refl, ap, sym, ◌∙◌, arith}
use Rattle.std.proofs.lemmas.List.{at_drop_more}
use Rattle.fancy_regex_tree.specs.Tree.{tree_of, trees}
use Rattle.fancy_regex_tree.specs.declared.expr.Expr.{Expr}
use Rattle.fancy_regex_meaning.specs.Sizes.{Size, always_size, both_sizes, either_size, size_with, concat_size, alternation_size}
use Rattle.fancy_regex_info.proofs.RowLemmas.{one_before, at_end, at_last}

module _ (call : ℕ → Size) where
  abbrev row : List Expr → Size
  row xs = concat_size call (trees (map tree_of xs))

  abbrev branches : List Expr → Size
  branches xs = alternation_size call (trees (map tree_of xs))

  pub row_of_none : row [] ≡ always_size 0
  unfolding size_with concat_size alternation_size
  row_of_none = refl

  row_of_more : (x : Expr) (xs : List Expr) → row (x ∷ xs) ≡ both_sizes (size_with call (tree_of x)) (row xs)
  unfolding size_with concat_size alternation_size
  row_of_more x xs = refl

  pub branches_of_none : branches [] ≡ always_size 0
  unfolding size_with concat_size alternation_size
  branches_of_none = refl

  branches_of_one : (x : Expr) → branches (x ∷ []) ≡ size_with call (tree_of x)
  unfolding size_with concat_size alternation_size
  branches_of_one x = refl

  branches_of_more : (x y : Expr) (xs : List Expr) → branches (x ∷ y ∷ xs) ≡ either_size (size_with call (tree_of x)) (branches (y ∷ xs))
  unfolding size_with concat_size alternation_size
  branches_of_more x y xs = refl

  pub row_end : (xs : List Expr) → row (drop (length xs) xs) ≡ always_size 0
  row_end xs = at_end row xs ∙ row_of_none

  pub row_step : (xs : List Expr) (i : ℕ) (x : Expr) → 0 < i → i ≤ length xs → x ≡ get_or xs (i - 1) x →
      row (drop (i - 1) xs) ≡ both_sizes (size_with call (tree_of x)) (row (drop i xs))
  row_step xs i x some inside is = one_before row xs i x some inside is ∙ row_of_more x (drop i xs)

  pub branches_end : (xs : List Expr) (x : Expr) → 0 < length xs → x ≡ get_or xs (length xs - 1) x →
      branches (drop (length xs - 1) xs) ≡ size_with call (tree_of x)
  branches_end xs x some is = at_last branches xs x some is ∙ branches_of_one x

  pub branches_step : (xs : List Expr) (i : ℕ) (x : Expr) → 0 < i → i < length xs → x ≡ get_or xs (i - 1) x →
      branches (drop (i - 1) xs) ≡ either_size (size_with call (tree_of x)) (branches (drop i xs))
  branches_step xs i x some inside is =
      one_before branches xs i x some (omega arith) is
      ∙ at_drop_more (λ ys. branches (x ∷ ys)) xs i x inside
      ∙ branches_of_more x (get_or xs i x) (drop (i + 1) xs)
      ∙ ap (either_size (size_with call (tree_of x))) (sym (at_drop_more branches xs i x inside))
