use Rattle.std.proofs.Common.{◌≡◌, false, map, take}
use Rattle.std.specs.List.{list_any}
use Rattle.fancy_regex_tree.specs.Traversal.{tree_at}
use Rattle.fancy_regex_desugar.specs.Delegates.{repeats_choices}
use Rattle.fancy_regex_compiler.proofs.tail.may_explode.Given as goal

abbrev pub invariant-loop-node : goal.invariant-loop-node
invariant-loop-node l = list_any repeats_choices (map tree_at (take l.node-index l.node-items)) ≡ false
