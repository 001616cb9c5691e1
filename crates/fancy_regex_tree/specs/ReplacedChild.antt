-- A node with a child replaced.
use Rattle.std.specs.Prelude.{◌≡◌, ℕ, List, [], ◌∷◌, Result, MatchResult, None, Some, slice_get, slice_set}
use Rattle.fancy_regex_tree.specs.Tree.{Tree, trees, concat, alt, group, look_around, repeat, atomic_group, conditional, absent_repeater, absent_expression, absent_stopper, define_group, tree_of}
use Rattle.fancy_regex_tree.specs.Traversal.{children}
use Rattle.fancy_regex_tree.specs.declared.expr.Expr.{Expr}

-- the same node over these children, of which there are as many as it has
abbrev pub with_children : Tree → List Tree → Tree
with_children (concat ts) us = concat (trees us)
with_children (alt ts) us = alt (trees us)
with_children (group t) (u ∷ []) = group u
with_children (look_around t look) (u ∷ []) = look_around u look
with_children (repeat t lo hi greedy) (u ∷ []) = repeat u lo hi greedy
with_children (atomic_group t) (u ∷ []) = atomic_group u
with_children (conditional c a b) (u ∷ v ∷ w ∷ []) = conditional u v w
with_children (absent_repeater t) (u ∷ []) = absent_repeater u
with_children (absent_expression t d) (u ∷ v ∷ []) = absent_expression u v
with_children (absent_stopper t) (u ∷ []) = absent_stopper u
with_children (define_group t) (u ∷ []) = define_group u
with_children t us = t

-- the same node with this tree as its i-th child
abbrev pub with_child : Tree → ℕ → Tree → Tree
with_child t i u = with_children t (slice_set (children t) i u)

-- The i-th child of a node is replaced by this one, nothing else changed, and the old child is the result; or the node has no
-- i-th child, it is unchanged, and the given child is the result.
abbrev pub IsChildReplaced : Tree → Tree → ℕ → Expr → Result Expr Expr → Type 0
IsChildReplaced before after i child result =
    MatchResult result (λ old. (slice_get (children before) i ≡ Some (tree_of old)) × (children after ≡ slice_set (children before) i (tree_of child)) × (after ≡ with_child before i (tree_of child)))
    (λ same. (slice_get (children before) i ≡ None) × (after ≡ before) × (same ≡ child))

-- the same for the items of a list
abbrev pub IsItemReplaced : List Expr → List Expr → ℕ → Expr → Result Expr Expr → Type 0
IsItemReplaced before after i child result =
    MatchResult result (λ old. (slice_get before i ≡ Some old) × (after ≡ slice_set before i child))
    (λ same. (slice_get before i ≡ None) × (after ≡ before) × (same ≡ child))
