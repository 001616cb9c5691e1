use Rattle.std.proofs.Common.{◌≡◌, map, drop}
use Rattle.fancy_regex_tree.specs.Tree.{tree_of, trees}
use Rattle.fancy_regex_analysis.specs.Anchored.{all_begin_anchored}
use Rattle.fancy_regex_analysis.proofs.anchored.+anchored.Given as goal

abbrev pub invariant-are_anchored-loop-branch : goal.invariant-are_anchored-loop-branch
invariant-are_anchored-loop-branch l =
    all_begin_anchored (trees (map tree_of (drop l.branch-index l.branches))) ≡ all_begin_anchored (trees (map tree_of l.branches))
