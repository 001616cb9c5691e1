use Rattle.std.proofs.Common.{map, Some, ap, sym, ◌∙◌}
use Rattle.fancy_regex_tree.specs.Tree.{tree_of, trees}
use Rattle.fancy_regex_class.specs.Classes.{in_class, folded}
use Rattle.fancy_regex_bytes.specs.ByteSets.{has}
use Rattle.fancy_regex_bytes.specs.SkippableTrees.{is_skippable, row_set_in, branches_set_in}
use Rattle.fancy_regex_bytes.specs.StartBytes.{either_set, if_known, start_set}
use Rattle.fancy_regex_bytes.specs.StartErrors.{AreStartErrors}
use Rattle.fancy_regex_bytes.proofs.StartLemmas.{row_unknown, row_goes_on, row_stops, row_ends, branch_unknown, branches_go_on, branches_end, part_error, gives, tree_unresolved, unresolved_adds}
use Rattle.fancy_regex_bytes.proofs.start.+start.Goals as goal

pub add_start_set-returns-in-AstNode-clause-bytes : goal.add_start_set-returns-in-AstNode-clause-bytes
add_start_set-returns-in-AstNode-clause-bytes t c =
    let u = c.args.walk.unicode in
    let skips = is_skippable c.args.walk.sizes.now in
    let old = has c.args.set.now in
    unresolved_adds c.is_unresolved_and_empty.result old _
    (c.is_unresolved_and_empty.ensures (in_class u) (folded u) skips c.in-AstNode.field-1
    ∙ sym (ap (start_set (in_class u) (folded u) skips) (ap tree_of c.in-AstNode.is ∙ tree_unresolved c.in-AstNode.node c.in-AstNode.field-1)))

pub add_start_set_of_branches-returns-in_err-add_start_set-clause-refused : goal.add_start_set_of_branches-returns-in_err-add_start_set-clause-refused
add_start_set_of_branches-returns-in_err-add_start_set-clause-refused t c =
    let u = c.args.walk.unicode in
    let e = c.in_err-add_start_set.field-0.0 in
    gives c.from_residual.result e (AreStartErrors u (trees (map tree_of c.args.branches.now))) c.from_residual.ensures.1
    (part_error u c.args.branches.now c.loop-branch.branch-index c.branch-item.result e c.loop-branch-test.true c.branch-item.is c.in_err-add_start_set.ensures.refused)

pub add_start_set_of_branches-returns-then-not-branch-clause-bytes : goal.add_start_set_of_branches-returns-then-not-branch-clause-bytes
add_start_set_of_branches-returns-then-not-branch-clause-bytes t c =
    branch_unknown (in_class c.args.walk.unicode) (folded c.args.walk.unicode) (is_skippable c.args.walk.sizes.now)
    c.args.branches.now c.loop-branch.branch-index c.branch-item.result (has c.loop-branch.set)
    (either_set (branches_set_in c.args.walk.unicode c.args.walk.sizes.now (trees (map tree_of c.args.branches.now))) (Some (has c.args.set.now))) c.loop-branch-test.true c.branch-item.is c.loop-branch.invariant
    (sym (ap (λ b. if_known b (has c.add_start_set.new.set)) c.if-not-branch.true) ∙ c.in_ok-add_start_set.ensures.bytes)

pub add_start_set_of_branches-loop-branch-preserved : goal.add_start_set_of_branches-loop-branch-preserved
add_start_set_of_branches-loop-branch-preserved t c =
    branches_go_on (in_class c.args.walk.unicode) (folded c.args.walk.unicode) (is_skippable c.args.walk.sizes.now)
    c.args.branches.now c.loop-branch.branch-index c.branch-item.result (has c.loop-branch.set) (has c.add_start_set.new.set)
    (either_set (branches_set_in c.args.walk.unicode c.args.walk.sizes.now (trees (map tree_of c.args.branches.now))) (Some (has c.args.set.now))) c.loop-branch-test.true c.branch-item.is c.loop-branch.invariant
    (sym (ap (λ b. if_known b (has c.add_start_set.new.set)) c.if-not-branch.false) ∙ c.in_ok-add_start_set.ensures.bytes)

pub add_start_set_of_branches-returns-clause-bytes : goal.add_start_set_of_branches-returns-clause-bytes
add_start_set_of_branches-returns-clause-bytes t c =
    branches_end (in_class c.args.walk.unicode) (folded c.args.walk.unicode) (is_skippable c.args.walk.sizes.now)
    c.args.branches.now c.loop-branch.branch-index (has c.loop-branch.set)
    (either_set (branches_set_in c.args.walk.unicode c.args.walk.sizes.now (trees (map tree_of c.args.branches.now))) (Some (has c.args.set.now))) c.loop-branch-test.false c.loop-branch.invariant

pub add_start_set_of_row-returns-in_err-add_start_set-clause-refused : goal.add_start_set_of_row-returns-in_err-add_start_set-clause-refused
add_start_set_of_row-returns-in_err-add_start_set-clause-refused t c =
    let u = c.args.walk.unicode in
    let e = c.in_err-add_start_set.field-0.0 in
    gives c.from_residual.result e (AreStartErrors u (trees (map tree_of c.args.parts.now))) c.from_residual.ensures.1
    (part_error u c.args.parts.now c.loop-part.part-index c.part-item.result e c.loop-part-test.true c.part-item.is c.in_err-add_start_set.ensures.refused)

pub add_start_set_of_row-returns-then-not-branch-clause-bytes : goal.add_start_set_of_row-returns-then-not-branch-clause-bytes
add_start_set_of_row-returns-then-not-branch-clause-bytes t c =
    row_unknown (in_class c.args.walk.unicode) (folded c.args.walk.unicode) (is_skippable c.args.walk.sizes.now)
    c.args.parts.now c.loop-part.part-index c.part-item.result (has c.loop-part.set)
    (either_set (row_set_in c.args.walk.unicode c.args.walk.sizes.now (trees (map tree_of c.args.parts.now))) (Some (has c.args.set.now))) c.loop-part-test.true c.part-item.is c.loop-part.invariant
    (sym (ap (λ b. if_known b (has c.add_start_set.new.set)) c.if-not-branch.true) ∙ c.in_ok-add_start_set.ensures.bytes)

pub add_start_set_of_row-loop-part-preserved : goal.add_start_set_of_row-loop-part-preserved
add_start_set_of_row-loop-part-preserved t c =
    row_goes_on (in_class c.args.walk.unicode) (folded c.args.walk.unicode) (is_skippable c.args.walk.sizes.now)
    c.args.parts.now c.loop-part.part-index c.part-item.result (has c.loop-part.set) (has c.add_start_set.new.set)
    (either_set (row_set_in c.args.walk.unicode c.args.walk.sizes.now (trees (map tree_of c.args.parts.now))) (Some (has c.args.set.now))) c.loop-part-test.true c.part-item.is c.loop-part.invariant
    (sym (ap (λ b. if_known b (has c.add_start_set.new.set)) c.if-not-branch.false) ∙ c.in_ok-add_start_set.ensures.bytes)
    (sym c.is_skippable.ensures ∙ c.if-not-is_skippable.false)

pub add_start_set_of_row-returns-then-not-is_skippable-clause-bytes : goal.add_start_set_of_row-returns-then-not-is_skippable-clause-bytes
add_start_set_of_row-returns-then-not-is_skippable-clause-bytes t c =
    row_stops (in_class c.args.walk.unicode) (folded c.args.walk.unicode) (is_skippable c.args.walk.sizes.now)
    c.args.parts.now c.loop-part.part-index c.part-item.result (has c.loop-part.set) (has c.add_start_set.new.set)
    (either_set (row_set_in c.args.walk.unicode c.args.walk.sizes.now (trees (map tree_of c.args.parts.now))) (Some (has c.args.set.now))) c.loop-part-test.true c.part-item.is c.loop-part.invariant
    (sym (ap (λ b. if_known b (has c.add_start_set.new.set)) c.if-not-branch.false) ∙ c.in_ok-add_start_set.ensures.bytes)
    (sym c.is_skippable.ensures ∙ c.if-not-is_skippable.true)

pub add_start_set_of_row-returns-clause-bytes : goal.add_start_set_of_row-returns-clause-bytes
add_start_set_of_row-returns-clause-bytes t c =
    row_ends (in_class c.args.walk.unicode) (folded c.args.walk.unicode) (is_skippable c.args.walk.sizes.now)
    c.args.parts.now c.loop-part.part-index (has c.loop-part.set)
    (either_set (row_set_in c.args.walk.unicode c.args.walk.sizes.now (trees (map tree_of c.args.parts.now))) (Some (has c.args.set.now))) c.loop-part-test.false c.loop-part.invariant
