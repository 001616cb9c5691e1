use Rattle.std.proofs.Common.{◌≡◌, false, map, take}
use Rattle.std.specs.List.{list_any}
use Rattle.fancy_regex_tree.specs.Traversal.{tree_at}
use Rattle.fancy_regex_bytes.specs.StartBytes.{is_keep_out}
use Rattle.fancy_regex_bytes.proofs.start.has_keep_out.Given as goal

abbrev pub invariant-loop-node : goal.invariant-loop-node
invariant-loop-node l = list_any is_keep_out (map tree_at (take l.node-index l.node-items)) ≡ false
