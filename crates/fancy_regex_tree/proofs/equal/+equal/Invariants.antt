use Rattle.std.proofs.Common.{◌≡◌, map, drop}
use Rattle.fancy_regex_tree.specs.Tree.{tree_of, trees}
use Rattle.fancy_regex_tree.specs.Equal.{same_trees}
use Rattle.fancy_regex_tree.proofs.equal.+equal.Given as goal

abbrev pub invariant-same_exprs-loop-i : goal.invariant-same_exprs-loop-i
invariant-same_exprs-loop-i l =
    same_trees (trees (map tree_of (drop l.i l.a))) (trees (map tree_of (drop l.i l.b))) ≡ same_trees (trees (map tree_of l.a)) (trees (map tree_of l.b))
