-- What a closure answers on the nodes of trees.
use Rattle.std.proofs.Common.{◌≡◌, Bool, true, false, inl, inr, List, [], ◌∷◌, ◌++◌, drop, map, refl, ap, subst, sym, ◌∙◌}
use Rattle.std.specs.Borrow.{Bor}
use Rattle.std.specs.Fn.{Shared, FnReturnsAt}
use Rattle.fancy_regex_tree.specs.declared.expr.Expr.{Expr}
use Rattle.fancy_regex_tree.specs.Tree.{Tree, tree_of, trees}
use Rattle.fancy_regex_tree.specs.Traversal.{below, nodes_in, all_nodes_in, Found, FoundNone, IsFound}
use Rattle.fancy_regex_tree.proofs.NodeRows.{node_and_below, nodes_below_by_parts}

module _ {F : Type 0} (g : Shared F (Bor Expr × Unit {0}) Bool) (f : F) where
  found_before : (xs ys : List Tree) → Found g f xs → Found g f (xs ++ ys)
  found_before [] ys h = absurd h
  found_before (x ∷ xs) ys (inl h) = inl h
  found_before (x ∷ xs) ys (inr h) = inr (found_before xs ys h)

  found_after : (xs ys : List Tree) → Found g f ys → Found g f (xs ++ ys)
  found_after [] ys h = h
  found_after (x ∷ xs) ys h = inr (found_after xs ys h)

  none_in_both : (xs ys : List Tree) → FoundNone g f xs → FoundNone g f ys → FoundNone g f (xs ++ ys)
  none_in_both [] ys h k = k
  none_in_both (x ∷ xs) ys h k = (h.0, none_in_both xs ys h.1 k)

  -- nothing in front, and this after it
  found_next : (b : Bool) (xs ys : List Tree) → FoundNone g f xs → IsFound g f b ys → IsFound g f b (xs ++ ys)
  found_next true xs ys h k = found_after xs ys k
  found_next false xs ys h k = none_in_both xs ys h k

  module _ (in_groups : Bool) where
    abbrev Nodes : Tree → List Tree
    Nodes = nodes_in in_groups

    abbrev Below : Tree → List Tree
    Below t = drop 1 (nodes_in in_groups t)

    abbrev NodesOf : List Expr → List Tree
    NodesOf xs = all_nodes_in in_groups (trees (map tree_of xs))

    -- at a node, below it, or neither
    pub found_here : (x : Expr) → FnReturnsAt g f x true → Found g f (Nodes (tree_of x))
    found_here x h = subst (Found g f) (sym (node_and_below in_groups (tree_of x))) (inl (x, refl, h))

    pub found_below : (x : Expr) → Found g f (Below (tree_of x)) → Found g f (Nodes (tree_of x))
    found_below x h = subst (Found g f) (sym (node_and_below in_groups (tree_of x))) (inr h)

    pub found_nowhere : (x : Expr) → FnReturnsAt g f x false → FoundNone g f (Below (tree_of x)) → FoundNone g f (Nodes (tree_of x))
    found_nowhere x h k = subst (FoundNone g f) (sym (node_and_below in_groups (tree_of x))) ((x, refl, h), k)

    -- The answer for the trees that are left is the answer for their parent: so it is at first, and so it stays while nothing is found.
    pub found_in_parts : (t : Tree) (xs : List Expr) → map tree_of xs ≡ below in_groups t → (b : Bool) → IsFound g f b (NodesOf xs) → IsFound g f b (Below t)
    found_in_parts t xs h b k = subst (IsFound g f b) (ap (λ ts. all_nodes_in in_groups (trees ts)) h ∙ sym (nodes_below_by_parts in_groups t)) k

    pub found_in_first : (xs more : List Expr) (x : Expr) → xs ≡ x ∷ more → Found g f (Nodes (tree_of x)) → Found g f (NodesOf xs)
    found_in_first xs more x is h = subst (λ es. Found g f (NodesOf es)) (sym is) (found_before (Nodes (tree_of x)) (NodesOf more) h)

    pub found_in_rest : (xs more : List Expr) (x : Expr) → xs ≡ x ∷ more → FoundNone g f (Nodes (tree_of x)) → (b : Bool) → IsFound g f b (NodesOf more)
        → IsFound g f b (NodesOf xs)
    found_in_rest xs more x is h b k = subst (λ es. IsFound g f b (NodesOf es)) (sym is) (found_next b (Nodes (tree_of x)) (NodesOf more) h k)

    pub none_in_none : (xs : List Expr) → xs ≡ [] → FoundNone g f (NodesOf xs)
    none_in_none xs is = subst (λ es. FoundNone g f (NodesOf es)) (sym is) tt
