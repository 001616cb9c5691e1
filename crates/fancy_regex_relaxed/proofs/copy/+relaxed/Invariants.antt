use Rattle.std.proofs.Common.{◌≡◌, map, take}
use Rattle.fancy_regex_tree.specs.Tree.{tree_of}
use Rattle.fancy_regex_relaxed.specs.Relaxed.{relaxed}
use Rattle.fancy_regex_relaxed.proofs.copy.+relaxed.Given as goal

abbrev pub invariant-relaxed_row-loop-child : goal.invariant-relaxed_row-loop-child
invariant-relaxed_row-loop-child l = map tree_of l.row.items ≡ map relaxed (map tree_of (take l.child-index l.children))
