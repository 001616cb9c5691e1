use Rattle.std.proofs.Common.{◌≡◌, false, map, take}
use Rattle.std.specs.List.{list_any}
use Rattle.fancy_regex_tree.specs.Traversal.{tree_at}
use Rattle.fancy_regex_analysis.specs.NodeErrors.{is_invalid_reference}
use Rattle.fancy_regex_analysis.proofs.nodes.check_references.Given as goal

abbrev pub invariant-loop-node : goal.invariant-loop-node
invariant-loop-node l = list_any (is_invalid_reference l.groups) (map tree_at (take l.node-index l.node-items)) ≡ false
