use Rattle.std.proofs.Common.{◌≡◌, ◌++◌, map, take, filter_map}
use Rattle.fancy_regex_tree.specs.Traversal.{tree_at}
use Rattle.fancy_regex_info.specs.GroupNodes.{group_body}
use Rattle.fancy_regex_info.specs.Views.{body_tree}
use Rattle.fancy_regex_info.proofs.bodies.add_bodies.Given as goal

abbrev pub invariant-loop-node : goal.invariant-loop-node
invariant-loop-node l =
    map body_tree l.groups.items ≡ map body_tree l.fn.groups.items ++ filter_map group_body (map tree_at (take l.node-index l.node-items))
