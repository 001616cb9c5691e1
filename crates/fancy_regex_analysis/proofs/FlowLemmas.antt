-- Walks that go through each child of a node, and those of items and branches.
use Rattle.std.proofs.Common.{◌≡◌, ℕ, ◌⊎◌, ⊎_elim, Bool, true, false, ◌&&◌, List, [], ◌∷◌, ◌++◌, flat_map, map, refl, sym, ap, subst, ◌∙◌}
use Rattle.std.specs.Borrow.{Bor}
use Rattle.std.specs.List.{list_all}
use Rattle.std.proofs.lemmas.List.{append-nil}
use Rattle.fancy_regex_tree.specs.declared.expr.Expr.{Expr}
use Rattle.fancy_regex_tree.specs.Tree.{Tree, Trees, tree_of, trees, concat, alt, group, look_around, repeat, atomic_group, conditional}
use Rattle.fancy_regex_tree.specs.Tree.{subroutine_call, absent_repeater, absent_expression, absent_stopper, define_group, ast_group, no_trees, more_trees}
use Rattle.fancy_regex_tree.specs.Traversal.{subtrees, listed}
use Rattle.fancy_regex_meaning.specs.Sizes.{Size}
use Rattle.fancy_regex_meaning.specs.Termination.{can_end_with, all_can_end, some_can_end}
use Rattle.fancy_regex_analysis.specs.LeftRecursion.{first_calls, first_calls_in_row, first_calls_in_branches}
use Rattle.fancy_regex_analysis.specs.Flows.{is_definitions, goes_through_children, IsFlowOf}
use Rattle.fancy_regex_analysis.specs.declared.flow.Flow.{Flow}
use Rattle.fancy_regex_analysis.specs.declared.flow.Flow.TheVariants as flow

and_true : (b : Bool) → b ≡ (b && true)
and_true true = refl
and_true false = refl

and_turned : (a b : Bool) → (a && b) ≡ (b && (a && true))
and_turned true true = refl
and_turned true false = refl
and_turned false true = refl
and_turned false false = refl

module _ (call : ℕ → Bool) where
  abbrev can : Tree → Bool
  can = can_end_with call

  row_ends : (ts : Trees) → all_can_end call ts ≡ list_all can (listed ts)
  unfolding can_end_with all_can_end some_can_end
  row_ends no_trees = refl
  row_ends (more_trees t ts) = ap (λ b. can t && b) (row_ends ts)

  items_end : (t : Tree) (ts : Trees) → t ≡ concat ts → can t ≡ list_all can (subtrees t)
  unfolding can_end_with all_can_end some_can_end
  items_end t ts is = ap can is ∙ row_ends ts ∙ sym (ap (λ u. list_all can (subtrees u)) is)

  definitions_end : (t : Tree) → is_definitions t ≡ true → can t ≡ list_all can (subtrees t)
  unfolding can_end_with all_can_end some_can_end
  definitions_end (define_group t) h = and_true (can t)
  definitions_end t h = cc

  children_end : (t : Tree) → goes_through_children t ≡ true → can t ≡ list_all can (subtrees t)
  unfolding can_end_with all_can_end some_can_end
  children_end (concat ts) h = cc
  children_end (alt ts) h = cc
  children_end (repeat t lo hi greedy) h = cc
  children_end (conditional c a b) h = cc
  children_end (subroutine_call k) h = cc
  children_end (define_group t) h = cc
  children_end (group t) h = and_true (can t)
  children_end (look_around t how) h = and_true (can t)
  children_end (atomic_group t) h = and_true (can t)
  children_end (absent_repeater t) h = and_true (can t)
  children_end (absent_expression a t) h = and_turned (can t) (can a)
  children_end (absent_stopper t) h = and_true (can t)
  children_end (ast_group name t position) h = and_true (can t)
  children_end t h = refl

  -- a node that ends where all its children do
  pub each_ends : (f : Flow) (t : Tree) → IsFlowOf f t →
      ((x : Bor (List Expr)) × (f ≡ flow.Row x)) ⊎ ((f ≡ flow.Definitions) ⊎ (f ≡ flow.Children)) → can t ≡ list_all can (subtrees t)
  each_ends f t is kind =
      ⊎_elim
      (λ e. items_end t (trees (map tree_of e.0.now)) (subst (λ g. IsFlowOf g t) e.1 is))
      (λ k. ⊎_elim (λ e. definitions_end t (subst (λ g. IsFlowOf g t) e is)) (λ e. children_end t (subst (λ g. IsFlowOf g t) e is)) k)
      kind

module _ (S : Tree → Size) where
  abbrev firsts : Tree → List ℕ
  firsts = first_calls S

  branches_begin : (ts : Trees) → first_calls_in_branches S ts ≡ flat_map firsts (listed ts)
  unfolding first_calls first_calls_in_row first_calls_in_branches
  branches_begin no_trees = refl
  branches_begin (more_trees t ts) = ap (λ ks. firsts t ++ ks) (branches_begin ts)

  alone : (t : Tree) → firsts t ≡ flat_map firsts (t ∷ [])
  alone t = sym (append-nil (firsts t))

  branches_start : (t : Tree) (ts : Trees) → t ≡ alt ts → firsts t ≡ flat_map firsts (subtrees t)
  unfolding first_calls first_calls_in_row first_calls_in_branches
  branches_start t ts is = ap firsts is ∙ branches_begin ts ∙ sym (ap (λ u. flat_map firsts (subtrees u)) is)

  children_start : (t : Tree) → goes_through_children t ≡ true → firsts t ≡ flat_map firsts (subtrees t)
  unfolding first_calls first_calls_in_row first_calls_in_branches
  children_start (concat ts) h = cc
  children_start (alt ts) h = cc
  children_start (repeat t lo hi greedy) h = cc
  children_start (conditional c a b) h = cc
  children_start (subroutine_call k) h = cc
  children_start (define_group t) h = cc
  children_start (group t) h = alone t
  children_start (look_around t how) h = alone t
  children_start (atomic_group t) h = alone t
  children_start (absent_repeater t) h = alone t
  children_start (absent_expression a t) h = ap (λ ks. firsts a ++ ks) (alone t)
  children_start (absent_stopper t) h = alone t
  children_start (ast_group name t position) h = alone t
  children_start t h = refl

  -- a node of which each child may come first
  pub each_starts : (f : Flow) (t : Tree) → IsFlowOf f t →
      ((x : Bor (List Expr)) × (f ≡ flow.Branches x)) ⊎ (f ≡ flow.Children) → firsts t ≡ flat_map firsts (subtrees t)
  each_starts f t is kind =
      ⊎_elim
      (λ e. branches_start t (trees (map tree_of e.0.now)) (subst (λ g. IsFlowOf g t) e.1 is))
      (λ e. children_start t (subst (λ g. IsFlowOf g t) e is))
      kind
