use Rattle.std.proofs.Common.{◌≡◌, true, ◌+◌, ◌*◌, map, drop}
use Rattle.std.specs.List.{list_all}
use Rattle.fancy_regex_tree.specs.Tree.{tree_of, trees}
use Rattle.fancy_regex_tree.specs.Traversal.{tree_at}
use Rattle.fancy_regex_meaning.specs.Termination.{can_end_with, some_can_end}
use Rattle.fancy_regex_analysis.specs.TerminationFixpoint.{ends_in}
use Rattle.fancy_regex_analysis.proofs.ChildLemmas.{node_count, row_nodes}
use Rattle.fancy_regex_analysis.proofs.termination.+ends.Given as goal

abbrev pub invariant-all_children_can_end-loop-child : goal.invariant-all_children_can_end-loop-child
invariant-all_children_can_end-loop-child l = list_all (can_end_with (ends_in l.ends)) (map tree_at l.yielded) ≡ true

abbrev pub invariant-some_can_end_in-loop-branch : goal.invariant-some_can_end_in-loop-branch
invariant-some_can_end_in-loop-branch l =
    some_can_end (ends_in l.ends) (trees (map tree_of (drop l.branch-index l.branches)))
    ≡ some_can_end (ends_in l.ends) (trees (map tree_of l.branches))

abbrev pub decreases-can_end_in : goal.decreases-can_end_in
decreases-can_end_in l = 2 * node_count (tree_of l.expr.now) + 1

abbrev pub decreases-all_children_can_end : goal.decreases-all_children_can_end
decreases-all_children_can_end l = 2 * node_count (tree_of l.node.now)

abbrev pub decreases-some_can_end_in : goal.decreases-some_can_end_in
decreases-some_can_end_in l = 2 * row_nodes (map tree_of l.branches.now)
