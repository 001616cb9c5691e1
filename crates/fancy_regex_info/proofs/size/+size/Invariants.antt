use Rattle.std.proofs.Common.{◌≡◌, map, drop}
use Rattle.fancy_regex_tree.specs.Tree.{tree_of, trees}
use Rattle.fancy_regex_meaning.specs.Sizes.{concat_size, alternation_size}
use Rattle.fancy_regex_info.specs.Views.{size_of, size_at}
use Rattle.fancy_regex_info.proofs.size.+size.Given as goal

abbrev pub invariant-size_in_row-loop-i : goal.invariant-size_in_row-loop-i
invariant-size_in_row-loop-i l = size_of l.size ≡ concat_size (size_at l.calls) (trees (map tree_of (drop l.i l.parts)))

abbrev pub invariant-size_in_branches-loop-i : goal.invariant-size_in_branches-loop-i
invariant-size_in_branches-loop-i l = size_of l.size ≡ alternation_size (size_at l.calls) (trees (map tree_of (drop l.i l.branches)))
