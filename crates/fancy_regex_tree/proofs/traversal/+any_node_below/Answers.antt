use Rattle.std.proofs.Common.{true, false, rules, map, ap, ◌∙◌}
use Rattle.fancy_regex_tree.specs.Tree.{tree_of}
use Rattle.fancy_regex_tree.specs.Traversal.{nodes_in, Found, rest}
use Rattle.fancy_regex_tree.proofs.NodeRows.{fewer_in_parts, fewer_in_first, fewer_in_rest}
use Rattle.fancy_regex_tree.proofs.Found.{found_here, found_below, found_nowhere, found_in_parts, found_in_first, found_in_rest, none_in_none}
use Rattle.fancy_regex_tree.proofs.traversal.+any_node_below.Goals as goal
use Rattle.fancy_regex_tree.proofs.traversal.+any_node_below.Goals.{then-is_accepted-via-then-is_accepted, then-is_accepted-via-else-is_accepted+then-any_node_below}

pub loop-tree-init : goal.loop-tree-init
loop-tree-init g t c =
    let all = ap (λ iterator. map tree_of (rest iterator)) c.into_iter-tree-iterator.ensures.into_iter_gives ∙ c.below-tree-items.ensures in
    record {
      found = found_in_parts g.F.Fn c.args.predicate.now c.args.in_groups (tree_of c.args.node.now) (rest c.into_iter-tree-iterator.result) all;
      fewer = fewer_in_parts c.args.in_groups (tree_of c.args.node.now) (rest c.into_iter-tree-iterator.result) all;
    }

pub any_node_below-requires : goal.any_node_below-requires
any_node_below-requires g t c =
    let fewer = fewer_in_first _ (rest c.loop-tree.tree-iterator) (rest c.next.new.self) c.in-Some.tree.now c.in-Some.ensures.steps c.loop-tree.invariant.fewer in
    search rules

pub returns-then-is_accepted : goal.returns-then-is_accepted
returns-then-is_accepted g t c =
    let child = c.in-Some.tree.now in
    let found : Found g.F.Fn c.args.predicate.now (nodes_in c.args.in_groups (tree_of child)) =
    elim c.then-is_accepted.branch [
      | then-is_accepted-via-then-is_accepted w ↦ found_here g.F.Fn c.args.predicate.now c.args.in_groups child (rw w.if-is_accepted.true at c.is_accepted.ensures)
      | then-is_accepted-via-else-is_accepted+then-any_node_below w ↦ found_below g.F.Fn c.args.predicate.now c.args.in_groups child (rw w.if-any_node_below.true at w.any_node_below.ensures)
    ]
    in
    c.loop-tree.invariant.found true (found_in_first g.F.Fn c.args.predicate.now c.args.in_groups (rest c.loop-tree.tree-iterator) (rest c.next.new.self) child c.in-Some.ensures.steps found)

pub loop-tree-preserved : goal.loop-tree-preserved
loop-tree-preserved g t c =
    let here = rw c.if-is_accepted.false at c.is_accepted.ensures in
    let below = rw c.if-any_node_below.false at c.any_node_below.ensures in
    let none = found_nowhere g.F.Fn c.args.predicate.now c.args.in_groups c.in-Some.tree.now here below in
    record {
      found = λ b found.
          c.loop-tree.invariant.found b
          (found_in_rest g.F.Fn c.args.predicate.now c.args.in_groups (rest c.loop-tree.tree-iterator) (rest c.next.new.self) c.in-Some.tree.now c.in-Some.ensures.steps none b found);
      fewer = fewer_in_rest _ (rest c.loop-tree.tree-iterator) (rest c.next.new.self) c.in-Some.tree.now c.in-Some.ensures.steps c.loop-tree.invariant.fewer;
    }

pub returns : goal.returns
returns g t c = c.loop-tree.invariant.found false (none_in_none g.F.Fn c.args.predicate.now c.args.in_groups (rest c.loop-tree.tree-iterator) c.in-None.ensures.steps.0)
