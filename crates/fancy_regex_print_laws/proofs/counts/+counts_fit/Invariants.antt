use Rattle.std.proofs.Common.{map, take}
use Rattle.fancy_regex_tree.specs.Tree.{tree_of, trees}
use Rattle.fancy_regex_print_laws.specs.ReprintLaws.{AllCountsFit}
use Rattle.fancy_regex_print_laws.proofs.counts.+counts_fit.Given as goal

abbrev pub invariant-all_counts_fit-loop-i : goal.invariant-all_counts_fit-loop-i
invariant-all_counts_fit-loop-i l = AllCountsFit (trees (map tree_of (take l.i l.children)))
