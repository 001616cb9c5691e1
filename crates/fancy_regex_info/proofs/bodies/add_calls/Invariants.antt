use Rattle.std.proofs.Common.{◌≡◌, ◌++◌, map, take, filter_map}
use Rattle.fancy_regex_tree.specs.Traversal.{tree_at}
use Rattle.fancy_regex_info.specs.GroupNodes.{called_group}
use Rattle.fancy_regex_info.proofs.bodies.add_calls.Given as goal

abbrev pub invariant-loop-node : goal.invariant-loop-node
invariant-loop-node l = l.calls.items ≡ l.fn.calls.items ++ filter_map called_group (map tree_at (take l.node-index l.node-items))
