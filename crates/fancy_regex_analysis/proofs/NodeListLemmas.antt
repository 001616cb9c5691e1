-- Tests of some node of a tree, over the list of its nodes.
use Rattle.std.proofs.Common.{◌≡◌, ℕ, zero, suc, ◌+◌, ◌<◌, ◌≤◌, Bool, true, false, ◌||◌, List, [], ◌∷◌, ◌++◌, length, take, get_or, map, refl, sym, ap, ap₂, ◌∙◌, arith}
use Rattle.std.specs.List.{list_any}
use Rattle.std.proofs.lemmas.List.{take_all, take_more, map-append}
use Rattle.std.proofs.lemmas.List.Folds.{list_any-append}
use Rattle.fancy_regex_tree.specs.Tree.{Tree, Trees, concat, alt, group, look_around, repeat, atomic_group, conditional, absent_repeater}
use Rattle.fancy_regex_tree.specs.Tree.{absent_expression, absent_stopper, define_group, ast_group, no_trees, more_trees}
use Rattle.fancy_regex_tree.specs.Traversal.{nodes, all_nodes}
use Rattle.fancy_regex_analysis.specs.NodeErrors.{some_node, some_node_of}
use Rattle.fancy_regex_info.proofs.ReachabilityLemmas.{or_left, or_right}
use Rattle.fancy_regex_analysis.proofs.PartErrorLemmas.{or_none}

or_false : (b : Bool) → b ≡ (b || false)
or_false true = refl
or_false false = refl

-- a test of two lists
pub either_passes : {U : Type 0} (p : U → Bool) (xs ys : List U) (a b : Bool) → a ≡ list_any p xs → b ≡ list_any p ys → (a || b) ≡ list_any p (xs ++ ys)
either_passes p xs ys a b h k = ap₂ (λ x y. x || y) h k ∙ sym (list_any-append p xs ys)

module _ (p : Tree → Bool) where
  mutual
    unfolding some_node some_node_of

    pub some_node_is : (t : Tree) → some_node p t ≡ list_any p (nodes t)
    some_node_is (concat ts) = ap (λ b. p (concat ts) || b) (some_of_row_is ts)
    some_node_is (alt ts) = ap (λ b. p (alt ts) || b) (some_of_row_is ts)
    some_node_is (group t) = ap (λ b. p (group t) || b) (some_node_is t)
    some_node_is (look_around t how) = ap (λ b. p (look_around t how) || b) (some_node_is t)
    some_node_is (repeat t lo hi greedy) = ap (λ b. p (repeat t lo hi greedy) || b) (some_node_is t)
    some_node_is (atomic_group t) = ap (λ b. p (atomic_group t) || b) (some_node_is t)
    some_node_is (conditional c a b) =
        ap (λ x. p (conditional c a b) || x)
        (either_passes p (nodes c) (nodes a ++ nodes b) (some_node p c) (some_node p a || some_node p b) (some_node_is c)
        (either_passes p (nodes a) (nodes b) (some_node p a) (some_node p b) (some_node_is a) (some_node_is b)))
    some_node_is (absent_repeater t) = ap (λ b. p (absent_repeater t) || b) (some_node_is t)
    some_node_is (absent_expression a t) =
        ap (λ b. p (absent_expression a t) || b) (either_passes p (nodes a) (nodes t) (some_node p a) (some_node p t) (some_node_is a) (some_node_is t))
    some_node_is (absent_stopper t) = ap (λ b. p (absent_stopper t) || b) (some_node_is t)
    some_node_is (define_group t) = ap (λ b. p (define_group t) || b) (some_node_is t)
    some_node_is (ast_group name t position) = ap (λ b. p (ast_group name t position) || b) (some_node_is t)
    some_node_is t = or_false (p t)

    some_of_row_is : (ts : Trees) → some_node_of p ts ≡ list_any p (all_nodes ts)
    some_of_row_is no_trees = refl
    some_of_row_is (more_trees t ts) = either_passes p (nodes t) (all_nodes ts) (some_node p t) (some_node_of p ts) (some_node_is t) (some_of_row_is ts)

-- A test along a list, where each element is viewed as one of U.
module _ {X U : Type 0} (view : X → U) (p : U → Bool) where
  abbrev any_of : List X → Bool
  any_of xs = list_any p (map view xs)

  -- one that passes
  pub node_passes : (xs : List X) (i : ℕ) (x : X) → i < length xs → x ≡ get_or xs i x → p (view x) ≡ true → any_of xs ≡ true
  node_passes [] i x inside is holds = absurd (omega arith)
  node_passes (y ∷ ys) zero x inside is holds = or_left (p (view y)) (any_of ys) (ap (λ z. p (view z)) (sym is) ∙ holds)
  node_passes (y ∷ ys) (suc i) x inside is holds = or_right (p (view y)) (any_of ys) (node_passes ys i x (omega arith) is holds)

  -- one more that fails
  pub node_fails : (xs : List X) (i : ℕ) (x : X) → i < length xs → x ≡ get_or xs i x → any_of (take i xs) ≡ false →
      p (view x) ≡ false → any_of (take (i + 1) xs) ≡ false
  node_fails xs i x inside is before fails =
      ap any_of (take_more xs i x inside) ∙ ap (λ y. any_of (take i xs ++ y ∷ [])) (sym is)
      ∙ ap (list_any p) (map-append view (take i xs) (x ∷ []))
      ∙ list_any-append p (map view (take i xs)) (view x ∷ [])
      ∙ or_none (any_of (take i xs)) (p (view x) || false) before (or_none (p (view x)) false fails refl)

  -- all fail
  pub nodes_fail : (xs : List X) (i : ℕ) → length xs ≤ i → any_of (take i xs) ≡ false → any_of xs ≡ false
  nodes_fail xs i past fails = ap any_of (sym (take_all i xs past)) ∙ fails
