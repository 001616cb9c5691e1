use Rattle.std.proofs.Common.{◌≡◌, map, take}
use Rattle.fancy_regex_tree.specs.Tree.{tree_of}
use Rattle.fancy_regex_relaxed.specs.Relaxed.{extended}
use Rattle.fancy_regex_relaxed.proofs.CopyLemmas.{extended_list}
use Rattle.fancy_regex_relaxed.proofs.copy.+extended.Given as goal

abbrev pub invariant-extended_row-loop-i : goal.invariant-extended_row-loop-i
invariant-extended_row-loop-i l = map tree_of l.row.items ≡ take l.i (extended_list (map tree_of l.children))

abbrev pub invariant-extended_branches-loop-child : goal.invariant-extended_branches-loop-child
invariant-extended_branches-loop-child l = map tree_of l.row.items ≡ map extended (map tree_of (take l.child-index l.children))
