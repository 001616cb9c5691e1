use Rattle.std.proofs.Common.{rules, true, map, ap, ◌∙◌}
use Rattle.fancy_regex_tree.specs.Tree.{tree_of}
use Rattle.fancy_regex_tree.specs.Traversal.{rest, tree_at}
use Rattle.fancy_regex_tree.proofs.NodeRows.{fewer_in_parts, fewer_in_first, fewer_in_rest, nodes_begun, nodes_next, nodes_done}
use Rattle.fancy_regex_tree.proofs.traversal.+with_nodes.Goals as goal

pub loop-tree-init : goal.loop-tree-init
loop-tree-init t c =
    let all = ap (λ iterator. map tree_of (rest iterator)) c.into_iter-tree-iterator.ensures.into_iter_gives ∙ c.subtrees_iter-tree-items.ensures in
    record {
      whole = nodes_begun c.args.found.items c.push.new.self.items c.args.node (rest c.into_iter-tree-iterator.result) c.in_ok-push.ensures.items all;
      fewer = fewer_in_parts true (tree_of c.args.node.now) (rest c.into_iter-tree-iterator.result) all;
    }

pub with_nodes-requires : goal.with_nodes-requires
with_nodes-requires t c =
    let fewer = fewer_in_first _ (rest c.loop-tree.tree-iterator) (rest c.next.new.self) c.in-Some.tree.now c.in-Some.ensures.steps c.loop-tree.invariant.fewer in
    search rules

pub loop-tree-preserved : goal.loop-tree-preserved
loop-tree-preserved t c = record {
  whole = nodes_next (map tree_at c.loop-tree.found.items) (map tree_at c.in_ok-found.found.items) _ (rest c.loop-tree.tree-iterator) (rest c.next.new.self) c.in-Some.tree.now
      c.in-Some.ensures.steps c.loop-tree.invariant.whole c.in_ok-found.ensures;
  fewer = fewer_in_rest _ (rest c.loop-tree.tree-iterator) (rest c.next.new.self) c.in-Some.tree.now c.in-Some.ensures.steps c.loop-tree.invariant.fewer;
}

pub returns : goal.returns
returns t c = nodes_done (map tree_at c.loop-tree.found.items) _ (rest c.loop-tree.tree-iterator) c.in-None.ensures.steps.0 c.loop-tree.invariant.whole
