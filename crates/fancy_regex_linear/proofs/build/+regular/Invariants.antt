use Rattle.std.proofs.Common.{◌≡◌, true, map, take}
use Rattle.fancy_regex_tree.specs.Tree.{tree_of, trees}
use Rattle.fancy_regex_info.specs.AnalysisRelations.{mark_at}
use Rattle.fancy_regex_linear.specs.Plain.{AreRegular}
use Rattle.fancy_regex_linear.proofs.build.+regular.Given as goal

abbrev pub invariant-are_regular-loop-i : goal.invariant-are_regular-loop-i
invariant-are_regular-loop-i l = AreRegular l.resets (λ j. mark_at l.calls j ≡ true) (trees (map tree_of (take l.i l.children)))
