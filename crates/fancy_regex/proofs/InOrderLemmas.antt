-- A tree in which no node passes a test that reversed repeats pass.
use Rattle.std.proofs.Common.{◌≡◌, ℕ, ◌≤◌, Bool, false}
use Rattle.std.proofs.lemmas.Bool.{or_parts}
use Rattle.fancy_regex_tree.specs.Tree.{Tree, Trees, concat, alt, group, look_around, repeat, atomic_group, conditional, absent_repeater}
use Rattle.fancy_regex_tree.specs.Tree.{absent_expression, absent_stopper, define_group, ast_group, no_trees, more_trees}
use Rattle.fancy_regex_meaning.specs.SizeLaws.{EachRepeat, EachRepeatInRow, IsInOrder}
use Rattle.fancy_regex_analysis.specs.NodeErrors.{some_node, some_node_of}

module _ (p : Tree → Bool) (told : (t : Tree) (lo hi : ℕ) (greedy : Bool) → p (repeat t lo hi greedy) ≡ false → lo ≤ hi) where
  mutual
    unfolding EachRepeat EachRepeatInRow some_node some_node_of

    pub in_order : (t : Tree) → some_node p t ≡ false → IsInOrder t
    in_order (group t) h = in_order t (or_parts (p (group t)) _ h).1
    in_order (concat ts) h = row_in_order ts (or_parts (p (concat ts)) _ h).1
    in_order (alt ts) h = row_in_order ts (or_parts (p (alt ts)) _ h).1
    in_order (look_around t how) h = in_order t (or_parts (p (look_around t how)) _ h).1
    in_order (repeat t lo hi greedy) h =
        let both = or_parts (p (repeat t lo hi greedy)) _ h in (told t lo hi greedy both.0, in_order t both.1)
    in_order (atomic_group t) h = in_order t (or_parts (p (atomic_group t)) _ h).1
    in_order (conditional c a b) h =
        let first = or_parts (some_node p c) _ (or_parts (p (conditional c a b)) _ h).1 in
        let second = or_parts (some_node p a) (some_node p b) first.1 in
        (in_order c first.0, in_order a second.0, in_order b second.1)
    in_order (absent_repeater t) h = in_order t (or_parts (p (absent_repeater t)) _ h).1
    in_order (absent_expression a t) h =
        let both = or_parts (some_node p a) (some_node p t) (or_parts (p (absent_expression a t)) _ h).1 in (in_order a both.0, in_order t both.1)
    in_order (absent_stopper t) h = in_order t (or_parts (p (absent_stopper t)) _ h).1
    in_order (define_group t) h = in_order t (or_parts (p (define_group t)) _ h).1
    in_order (ast_group name t position) h = in_order t (or_parts (p (ast_group name t position)) _ h).1
    in_order t h = tt

    row_in_order : (ts : Trees) → some_node_of p ts ≡ false → EachRepeatInRow (λ lo hi. lo ≤ hi) ts
    row_in_order no_trees h = tt
    row_in_order (more_trees t ts) h =
        let both = or_parts (some_node p t) (some_node_of p ts) h in (in_order t both.0, row_in_order ts both.1)
