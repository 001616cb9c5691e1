-- What is summed over a node's children: its nodes, and its capture groups.
use Rattle.std.proofs.Common.{◌≡◌, ℕ, zero, suc, ◌+◌, ◌<◌, ◌≤◌, List, [], ◌∷◌, ◌++◌, length, map, take, get_or, refl, subst, ap, arith, length-append}
use Rattle.std.specs.List.{sum_by}
use Rattle.std.specs.Iterator.{YieldsFirstRef}
use Rattle.std.proofs.lemmas.Iterator.{YieldsList}
use Rattle.std.proofs.lemmas.Iterator.Consumers.{YieldsList-from_shown}
use Rattle.std.proofs.lemmas.List.Sums.{sum_by-cons, sum_by_more_le}
use Rattle.fancy_regex_tree.specs.Tree.{Tree, Trees, tree_of, trees, concat, alt, group, look_around, repeat, atomic_group, conditional}
use Rattle.fancy_regex_tree.specs.Tree.{absent_repeater, absent_expression, absent_stopper, define_group, ast_group, no_trees, more_trees}
use Rattle.fancy_regex_tree.specs.Traversal.{nodes, all_nodes, subtrees, listed, rest, tree_at}
use Rattle.fancy_regex_tree.specs.declared.traversal.ExprChildrenIter.{ExprChildrenIter}
use Rattle.fancy_regex_meaning.specs.Groups.{group_count, row_group_count}
use Rattle.fancy_regex_analysis.specs.WellFormed.{own_groups}

abbrev pub node_count : Tree → ℕ
node_count t = length (nodes t)

row_node_count : (ts : Trees) → length (all_nodes ts) ≡ sum_by node_count (listed ts)
row_node_count no_trees = refl
row_node_count (more_trees t ts) = omega (arith, length-append (nodes t) (all_nodes ts), row_node_count ts, sum_by-cons node_count t (listed ts))

-- a node counts one more than its children together
node_count_is : (t : Tree) → node_count t ≡ 1 + sum_by node_count (subtrees t)
node_count_is (concat ts) = omega (arith, row_node_count ts)
node_count_is (alt ts) = omega (arith, row_node_count ts)
node_count_is (group t) = omega arith
node_count_is (look_around t how) = omega arith
node_count_is (repeat t lo hi greedy) = omega arith
node_count_is (atomic_group t) = omega arith
node_count_is (conditional c a b) = omega (arith, length-append (nodes c) (nodes a ++ nodes b), length-append (nodes a) (nodes b))
node_count_is (absent_repeater t) = omega arith
node_count_is (absent_expression a t) = omega (arith, length-append (nodes a) (nodes t))
node_count_is (absent_stopper t) = omega arith
node_count_is (define_group t) = omega arith
node_count_is (ast_group name t position) = omega arith
node_count_is t = refl

-- so a child has fewer nodes
pub child_is_smaller : (t u : Tree) (i : ℕ) → i < length (subtrees t) → u ≡ get_or (subtrees t) i u → node_count u < node_count t
child_is_smaller t u i inside is =
    omega (arith, sum_by_more_le node_count (subtrees t) i u inside, ap node_count is, node_count_is t)

-- a row has as many children as parts
pub listed_is : (ts : List Tree) → listed (trees ts) ≡ ts
listed_is [] = refl
listed_is (t ∷ ts) = ap (λ us. t ∷ us) (listed_is ts)

-- so an item of a row, or a branch, has fewer nodes than the row
abbrev pub row_nodes : List Tree → ℕ
row_nodes ts = 1 + length (all_nodes (trees ts))

pub item_is_smaller : {X : Type 0} (view : X → Tree) (xs : List X) (x : X) (i : ℕ) → i < length xs → x ≡ get_or xs i x →
    node_count (view x) < row_nodes (map view xs)
item_is_smaller view [] x i inside is = absurd (omega arith)
item_is_smaller view (y ∷ ys) x zero inside is =
    omega (arith, length-append (nodes (view y)) (all_nodes (trees (map view ys))), ap (λ z. node_count (view z)) is)
item_is_smaller view (y ∷ ys) x (suc i) inside is =
    omega (arith, length-append (nodes (view y)) (all_nodes (trees (map view ys))), item_is_smaller view ys x i (omega arith) is)

-- the iterator over the children of a node yields them in turn
pub yields_children : (s : ExprChildrenIter) (t : Tree) → map tree_of (rest s) ≡ subtrees t → YieldsList (YieldsFirstRef rest) tree_at s (subtrees t)
yields_children s t all =
    subst (λ ts. YieldsList (YieldsFirstRef rest) tree_at s ts) all
    (YieldsList-from_shown (YieldsFirstRef rest) tree_at (λ u. map tree_of (rest u)) (λ u v h. ap (λ xs. length (map tree_of xs)) h.0)
    (λ u x v h. ap (map tree_of) h) s)

row_groups : (ts : Trees) → row_group_count ts ≡ sum_by group_count (listed ts)
unfolding group_count row_group_count
row_groups no_trees = refl
row_groups (more_trees t ts) = omega (arith, row_groups ts, sum_by-cons group_count t (listed ts))

-- the groups of a tree are its own and those of its children
pub group_count_is : (t : Tree) → group_count t ≡ own_groups t + sum_by group_count (subtrees t)
unfolding group_count row_group_count
group_count_is (concat ts) = omega (arith, row_groups ts)
group_count_is (alt ts) = omega (arith, row_groups ts)
group_count_is (group t) = omega arith
group_count_is (look_around t how) = omega arith
group_count_is (repeat t lo hi greedy) = omega arith
group_count_is (atomic_group t) = omega arith
group_count_is (conditional c a b) = omega arith
group_count_is (absent_repeater t) = omega arith
group_count_is (absent_expression a t) = omega arith
group_count_is (absent_stopper t) = omega arith
group_count_is (define_group t) = omega arith
group_count_is (ast_group name t position) = omega arith
group_count_is t = refl

-- up to a child there are no more than in the tree
pub groups_within : (t u : Tree) (i : ℕ) → i < length (subtrees t) → u ≡ get_or (subtrees t) i u →
    own_groups t + (sum_by group_count (take i (subtrees t)) + group_count u) ≤ group_count t
groups_within t u i inside is =
    omega (arith, sum_by_more_le group_count (subtrees t) i u inside, ap group_count is, group_count_is t)

pub own_within : (t : Tree) → own_groups t ≤ group_count t
own_within t = omega (arith, group_count_is t)
