use Rattle.std.proofs.Common.{◌≡◌, ◌++◌, ◌<◌, map}
use Rattle.fancy_regex_tree.specs.Tree.{tree_of, trees}
use Rattle.fancy_regex_tree.specs.Traversal.{nodes, all_nodes, rest, tree_at}
use Rattle.fancy_regex_tree.specs.Bounds as bounds
use Rattle.fancy_regex_tree.proofs.traversal.+with_nodes.Given as goal

abbrev pub decreases-with_nodes : goal.decreases-with_nodes
decreases-with_nodes l = bounds.nodes (tree_of l.node.now)

abbrev pub invariant-loop-tree : goal.invariant-loop-tree
invariant-loop-tree l = record {
  whole : map tree_at l.found.items ++ all_nodes (trees (map tree_of (rest l.tree-iterator))) ≡ map tree_at l.fn.found.items ++ nodes (tree_of l.node);
  fewer : bounds.nodes_of (trees (map tree_of (rest l.tree-iterator))) < bounds.nodes (tree_of l.node);
}
