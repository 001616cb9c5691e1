use Rattle.std.proofs.Common.{◌≡◌, ◌++◌, map, take, filter_map}
use Rattle.fancy_regex_tree.specs.Traversal.{tree_at}
use Rattle.fancy_regex_tree.specs.ReferenceSummary.{back_group}
use Rattle.fancy_regex_info.proofs.references.add_references.Given as goal

abbrev pub invariant-loop-node : goal.invariant-loop-node
invariant-loop-node l = l.references.items ≡ l.fn.references.items ++ filter_map back_group (map tree_at (take l.node-index l.node-items))
