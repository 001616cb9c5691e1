use Rattle.std.proofs.Common.{◌≡◌, map, drop, Some}
use Rattle.fancy_regex_tree.specs.Tree.{tree_of, trees}
use Rattle.fancy_regex_bytes.specs.ByteSets.{has}
use Rattle.fancy_regex_bytes.specs.SkippableTrees.{row_set_in, branches_set_in}
use Rattle.fancy_regex_bytes.specs.StartBytes.{either_set}
use Rattle.fancy_regex_bytes.proofs.start.+start.Given as goal

abbrev pub invariant-add_start_set_of_row-loop-part : goal.invariant-add_start_set_of_row-loop-part
invariant-add_start_set_of_row-loop-part l =
    let row = row_set_in l.walk.unicode l.walk.sizes.now in
    either_set (row (trees (map tree_of (drop l.part-index l.parts)))) (Some (has l.set)) ≡ either_set (row (trees (map tree_of l.parts))) (Some (has l.initial.set))

abbrev pub invariant-add_start_set_of_branches-loop-branch : goal.invariant-add_start_set_of_branches-loop-branch
invariant-add_start_set_of_branches-loop-branch l =
    let all = branches_set_in l.walk.unicode l.walk.sizes.now in
    either_set (all (trees (map tree_of (drop l.branch-index l.branches)))) (Some (has l.set)) ≡ either_set (all (trees (map tree_of l.branches))) (Some (has l.initial.set))
