use Rattle.std.proofs.Common.{◌≡◌, ◌⊎◌, ℕ, true, map, take}
use Rattle.fancy_regex_tree.specs.Tree.{tree_of, trees}
use Rattle.fancy_regex_info.specs.AnalysisRelations.{mark_at}
use Rattle.fancy_regex_linear.specs.CalledClasses.{RowHasCall}
use Rattle.fancy_regex_linear.specs.CallMarks.{KeepsMarks, RowMarked}
use Rattle.fancy_regex_linear.proofs.calls.+mark.Given as goal

abbrev pub invariant-mark_calls_of-loop-i : goal.invariant-mark_calls_of-loop-i
invariant-mark_calls_of-loop-i l = record {
  kept : KeepsMarks l.fn.marks l.marks;
  all : RowMarked l.marks (trees (map tree_of (take l.i l.children)));
  only : (j : ℕ) → mark_at l.marks j ≡ true → (mark_at l.fn.marks j ≡ true) ⊎ RowHasCall j (trees (map tree_of (take l.i l.children)));
}
