use Rattle.std.proofs.Common.{◌<◌, Bool, map, drop}
use Rattle.fancy_regex_tree.specs.Tree.{tree_of, trees}
use Rattle.fancy_regex_tree.specs.Traversal.{nodes_in, all_nodes_in, IsFound, rest}
use Rattle.fancy_regex_tree.specs.Bounds as bounds
use Rattle.fancy_regex_tree.proofs.traversal.+any_node_below.Given as goal

abbrev pub decreases-any_node_below : goal.decreases-any_node_below
decreases-any_node_below g l = bounds.nodes (tree_of l.node.now)

abbrev pub invariant-loop-tree : goal.invariant-loop-tree
invariant-loop-tree g l = record {
  found : (b : Bool) → IsFound g.F.Fn l.predicate b (all_nodes_in l.in_groups (trees (map tree_of (rest l.tree-iterator)))) → IsFound g.F.Fn l.predicate b (drop 1 (nodes_in l.in_groups (tree_of l.node)));
  fewer : bounds.nodes_of (trees (map tree_of (rest l.tree-iterator))) < bounds.nodes (tree_of l.node);
}
