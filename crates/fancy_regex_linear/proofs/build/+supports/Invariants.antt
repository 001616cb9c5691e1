use Rattle.std.proofs.Common.{map, take}
use Rattle.fancy_regex_tree.specs.Tree.{tree_of, trees}
use Rattle.fancy_regex_linear.specs.Plain.{ArePlain}
use Rattle.fancy_regex_linear.proofs.build.+supports.Given as goal

abbrev pub invariant-are_supported-loop-i : goal.invariant-are_supported-loop-i
invariant-are_supported-loop-i l = ArePlain (trees (map tree_of (take l.i l.children)))
