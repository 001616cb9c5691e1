-- The nodes of a tree by the trees below it, and their number.
use Rattle.std.proofs.Common.{◌≡◌, ℕ, ◌<◌, Bool, true, false, List, [], ◌∷◌, ◌++◌, drop, map, refl, ap, sym, ◌∙◌, append_assoc, append-nil, arith}
use Rattle.std.proofs.lemmas.List.{map-append}
use Rattle.std.specs.Borrow.{Bor}
use Rattle.fancy_regex_tree.specs.declared.expr.Expr.{Expr}
use Rattle.fancy_regex_tree.specs.Tree.{Tree, Trees, no_trees, more_trees, tree_of, trees, concat, alt, group, look_around, repeat, atomic_group, conditional, absent_repeater}
use Rattle.fancy_regex_tree.specs.Tree.{absent_expression, absent_stopper, define_group, ast_group}
use Rattle.fancy_regex_tree.specs.Traversal.{listed, below, subtrees, nodes_in, all_nodes_in, nodes, all_nodes, tree_at}
use Rattle.fancy_regex_tree.specs.Bounds as bounds

trees_listed : (ts : Trees) → trees (listed ts) ≡ ts
trees_listed no_trees = refl
trees_listed (more_trees t ts) = ap (λ us. more_trees t us) (trees_listed ts)

module _ (in_groups : Bool) where
  one : (t : Tree) → nodes_in in_groups t ≡ all_nodes_in in_groups (trees (t ∷ []))
  one t = sym (append-nil (nodes_in in_groups t))

  two : (t u : Tree) → nodes_in in_groups t ++ nodes_in in_groups u ≡ all_nodes_in in_groups (trees (t ∷ u ∷ []))
  two t u = ap (λ ts. nodes_in in_groups t ++ ts) (one u)

-- a node, and then the nodes of each tree below it
pub nodes_by_parts : (in_groups : Bool) (t : Tree) → nodes_in in_groups t ≡ t ∷ all_nodes_in in_groups (trees (below in_groups t))
nodes_by_parts g (concat ts) = ap (λ us. concat ts ∷ all_nodes_in g us) (sym (trees_listed ts))
nodes_by_parts g (alt ts) = ap (λ us. alt ts ∷ all_nodes_in g us) (sym (trees_listed ts))
nodes_by_parts g (group t) = ap (λ ts. group t ∷ ts) (one g t)
nodes_by_parts g (look_around t look) = ap (λ ts. look_around t look ∷ ts) (one g t)
nodes_by_parts g (repeat t lo hi greedy) = ap (λ ts. repeat t lo hi greedy ∷ ts) (one g t)
nodes_by_parts g (atomic_group t) = ap (λ ts. atomic_group t ∷ ts) (one g t)
nodes_by_parts g (conditional c a b) = ap (λ ts. conditional c a b ∷ nodes_in g c ++ ts) (two g a b)
nodes_by_parts g (absent_repeater t) = ap (λ ts. absent_repeater t ∷ ts) (one g t)
nodes_by_parts g (absent_expression t d) = ap (λ ts. absent_expression t d ∷ ts) (two g t d)
nodes_by_parts g (absent_stopper t) = ap (λ ts. absent_stopper t ∷ ts) (one g t)
nodes_by_parts g (define_group t) = ap (λ ts. define_group t ∷ ts) (one g t)
nodes_by_parts true (ast_group name t position) = ap (λ ts. ast_group name t position ∷ ts) (one true t)
nodes_by_parts false (ast_group name t position) = refl
nodes_by_parts g _ = refl

-- the nodes below a node are those of the trees directly below it
pub nodes_below_by_parts : (in_groups : Bool) (t : Tree) → drop 1 (nodes_in in_groups t) ≡ all_nodes_in in_groups (trees (below in_groups t))
nodes_below_by_parts g t = ap (drop 1) (nodes_by_parts g t)

pub node_and_below : (in_groups : Bool) (t : Tree) → nodes_in in_groups t ≡ t ∷ drop 1 (nodes_in in_groups t)
node_and_below g t = nodes_by_parts g t ∙ ap (λ ts. t ∷ ts) (sym (nodes_below_by_parts g t))

-- there are fewer nodes below a node than in it
pub fewer_below : (in_groups : Bool) (t : Tree) → bounds.nodes_of (trees (below in_groups t)) < bounds.nodes t
fewer_below g (concat ts) = let same = ap bounds.nodes_of (trees_listed ts) in omega (arith, same)
fewer_below g (alt ts) = let same = ap bounds.nodes_of (trees_listed ts) in omega (arith, same)
fewer_below g (group t) = omega arith
fewer_below g (look_around t look) = omega arith
fewer_below g (repeat t lo hi greedy) = omega arith
fewer_below g (atomic_group t) = omega arith
fewer_below g (conditional c a b) = omega arith
fewer_below g (absent_repeater t) = omega arith
fewer_below g (absent_expression t d) = omega arith
fewer_below g (absent_stopper t) = omega arith
fewer_below g (define_group t) = omega arith
fewer_below true (ast_group name t position) = omega arith
fewer_below false (ast_group name t position) = omega arith
fewer_below g _ = omega arith

-- The trees that are left have fewer nodes than their parent: so it is at first, and so it stays.
pub fewer_in_parts : (in_groups : Bool) (t : Tree) (xs : List Expr) → map tree_of xs ≡ below in_groups t → bounds.nodes_of (trees (map tree_of xs)) < bounds.nodes t
fewer_in_parts g t xs h = let same = ap (λ ts. bounds.nodes_of (trees ts)) h in omega (arith, same, fewer_below g t)

pub fewer_in_first : (n : ℕ) (xs more : List Expr) (x : Expr) → xs ≡ x ∷ more → bounds.nodes_of (trees (map tree_of xs)) < n → bounds.nodes (tree_of x) < n
fewer_in_first n xs more x is h = let same = ap (λ es. bounds.nodes_of (trees (map tree_of es))) is in omega (arith, same, h)

pub fewer_in_rest : (n : ℕ) (xs more : List Expr) (x : Expr) → xs ≡ x ∷ more → bounds.nodes_of (trees (map tree_of xs)) < n → bounds.nodes_of (trees (map tree_of more)) < n
fewer_in_rest n xs more x is h = let same = ap (λ es. bounds.nodes_of (trees (map tree_of es))) is in omega (arith, same, h)

-- A list of nodes grows by a node and then by the nodes of each tree below it: with those of the trees that are left it is whole.
pub nodes_begun : (old now : List (Bor Expr)) (x : Bor Expr) (xs : List Expr) → now ≡ old ++ x ∷ [] → map tree_of xs ≡ subtrees (tree_of x.now)
    → map tree_at now ++ all_nodes (trees (map tree_of xs)) ≡ map tree_at old ++ nodes (tree_of x.now)
nodes_begun old now x xs h k =
    ap (λ ns. map tree_at ns ++ all_nodes (trees (map tree_of xs))) h
    ∙ ap (λ ts. ts ++ all_nodes (trees (map tree_of xs))) (map-append tree_at old (x ∷ []))
    ∙ append_assoc (map tree_at old) (tree_at x ∷ []) (all_nodes (trees (map tree_of xs)))
    ∙ ap (λ ts. map tree_at old ++ tree_of x.now ∷ all_nodes (trees ts)) k
    ∙ ap (λ ts. map tree_at old ++ ts) (sym (nodes_by_parts true (tree_of x.now)))

pub nodes_next : (now more whole : List Tree) (xs rest : List Expr) (x : Expr) → xs ≡ x ∷ rest → now ++ all_nodes (trees (map tree_of xs)) ≡ whole → more ≡ now ++ nodes (tree_of x)
    → more ++ all_nodes (trees (map tree_of rest)) ≡ whole
nodes_next now more whole xs rest x is h k =
    ap (λ ts. ts ++ all_nodes (trees (map tree_of rest))) k
    ∙ append_assoc now (nodes (tree_of x)) (all_nodes (trees (map tree_of rest)))
    ∙ ap (λ es. now ++ all_nodes (trees (map tree_of es))) (sym is)
    ∙ h

pub nodes_done : (now whole : List Tree) (xs : List Expr) → xs ≡ [] → now ++ all_nodes (trees (map tree_of xs)) ≡ whole → now ≡ whole
nodes_done now whole xs is h = sym (append-nil now) ∙ ap (λ es. now ++ all_nodes (trees (map tree_of es))) (sym is) ∙ h
