use Rattle.std.proofs.Common.{map, take}
use Rattle.fancy_regex_tree.specs.Tree.{tree_of, trees}
use Rattle.fancy_regex_relaxed.specs.Relaxed.{AreRelaxable}
use Rattle.fancy_regex_relaxed.proofs.copy.+relaxable.Given as goal

abbrev pub invariant-are_relaxable-loop-child : goal.invariant-are_relaxable-loop-child
invariant-are_relaxable-loop-child l = AreRelaxable (trees (map tree_of (take l.child-index l.children)))
