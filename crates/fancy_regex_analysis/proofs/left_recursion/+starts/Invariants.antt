use Rattle.std.proofs.Common.{◌≡◌, ◌+◌, ◌*◌, ◌++◌, map, drop, flat_map}
use Rattle.fancy_regex_tree.specs.Tree.{tree_of, trees}
use Rattle.fancy_regex_meaning.specs.Sizes.{size_with}
use Rattle.fancy_regex_analysis.specs.LeftRecursion.{first_calls, first_calls_in_row}
use Rattle.fancy_regex_info.specs.Views.{size_at}
use Rattle.fancy_regex_tree.specs.Traversal.{tree_at}
use Rattle.fancy_regex_analysis.proofs.ChildLemmas.{node_count, row_nodes}
use Rattle.fancy_regex_analysis.proofs.left_recursion.+starts.Given as goal

abbrev pub invariant-add_row_starts-loop-part : goal.invariant-add_row_starts-loop-part
invariant-add_row_starts-loop-part l =
    l.calls.items ++ first_calls_in_row (size_with (size_at l.sizes)) (trees (map tree_of (drop l.part-index l.parts)))
    ≡ l.fn.calls.items ++ first_calls_in_row (size_with (size_at l.sizes)) (trees (map tree_of l.parts))

abbrev pub invariant-add_child_starts-loop-child : goal.invariant-add_child_starts-loop-child
invariant-add_child_starts-loop-child l =
    l.calls.items ≡ l.fn.calls.items ++ flat_map (first_calls (size_with (size_at l.sizes))) (map tree_at l.yielded)

abbrev pub decreases-add_first_calls : goal.decreases-add_first_calls
decreases-add_first_calls l = 2 * node_count (tree_of l.expr.now) + 1

abbrev pub decreases-add_child_starts : goal.decreases-add_child_starts
decreases-add_child_starts l = 2 * node_count (tree_of l.node.now)

abbrev pub decreases-add_row_starts : goal.decreases-add_row_starts
decreases-add_row_starts l = 2 * row_nodes (map tree_of l.parts.now)
