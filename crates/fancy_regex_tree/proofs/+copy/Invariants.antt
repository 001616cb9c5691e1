use Rattle.std.proofs.Common.{◌≡◌, map, take}
use Rattle.fancy_regex_tree.specs.Tree.{tree_of}
use Rattle.fancy_regex_tree.proofs.+copy.Given as goal

abbrev pub invariant-copy::copy_all-loop-i : goal.invariant-copy::copy_all-loop-i
invariant-copy::copy_all-loop-i l = map tree_of l.all.items ≡ map tree_of (take l.i l.children)
