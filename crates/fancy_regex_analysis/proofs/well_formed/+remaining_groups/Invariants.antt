use Rattle.std.proofs.Common.{◌≡◌, ◌+◌, map}
use Rattle.std.specs.List.{sum_by}
use Rattle.fancy_regex_tree.specs.Tree.{tree_of}
use Rattle.fancy_regex_tree.specs.Traversal.{tree_at}
use Rattle.fancy_regex_meaning.specs.Groups.{group_count}
use Rattle.fancy_regex_analysis.proofs.ChildLemmas.{node_count}
use Rattle.fancy_regex_analysis.proofs.well_formed.+remaining_groups.Given as goal

abbrev pub decreases-remaining_groups : goal.decreases-remaining_groups
decreases-remaining_groups l = node_count (tree_of l.expr.now)

abbrev pub invariant-loop-child : goal.invariant-loop-child
invariant-loop-child l = l.left + sum_by group_count (map tree_at l.yielded) ≡ l.initial.left
