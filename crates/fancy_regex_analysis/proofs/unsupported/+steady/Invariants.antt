use Rattle.std.proofs.Common.{◌≡◌, map, drop}
use Rattle.fancy_regex_tree.specs.Tree.{tree_of, trees}
use Rattle.fancy_regex_meaning.specs.Sizes.{size_with}
use Rattle.fancy_regex_analysis.specs.UnsupportedParts.{are_fixed_length}
use Rattle.fancy_regex_info.specs.Views.{size_at}
use Rattle.fancy_regex_analysis.proofs.unsupported.+steady.Given as goal

abbrev pub invariant-are_fixed_length-loop-branch : goal.invariant-are_fixed_length-loop-branch
invariant-are_fixed_length-loop-branch l =
    are_fixed_length (size_with (size_at l.sizes)) (trees (map tree_of (drop l.branch-index l.branches)))
    ≡ are_fixed_length (size_with (size_at l.sizes)) (trees (map tree_of l.branches))
