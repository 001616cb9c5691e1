use Rattle.std.proofs.Common.{◌≡◌, false, map, take}
use Rattle.std.specs.List.{list_any}
use Rattle.fancy_regex_tree.specs.Traversal.{tree_at}
use Rattle.fancy_regex_program.specs.BodyStarts.{is_reversed}
use Rattle.fancy_regex_program.proofs.body_starts.has_reversed_repeat.Given as goal

abbrev pub invariant-loop-node : goal.invariant-loop-node
invariant-loop-node l = list_any is_reversed (map tree_at (take l.node-index l.node-items)) ≡ false
