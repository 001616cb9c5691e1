use Rattle.std.proofs.Common.{◌≡◌, ◌<◌, ◌||◌, ◌&&◌, length, map, [], ap, ap₂, sym, ◌∙◌, rules, arith, eqb-true}
use Rattle.std.proofs.lemmas.List.{nil_from_length}
use Rattle.fancy_regex_tree.specs.Tree.{tree_of, trees}
use Rattle.fancy_regex_bytes.specs.ByteSets.{has}
use Rattle.fancy_regex_bytes.specs.RequiredBytes.{required_bytes, required_in_row}
use Rattle.fancy_regex_bytes.proofs.RequiredLemmas.{row_goes_on, row_ends, after_nothing, branches, branches_of_none, branches_last, branches_step}
use Rattle.fancy_regex_bytes.proofs.required.+required.Goals as goal

pub add_required_in_row-loop-part-preserved : goal.add_required_in_row-loop-part-preserved
add_required_in_row-loop-part-preserved t c b =
    row_goes_on c.args.parts.now c.loop-part.part-index c.part-item.result (has c.loop-part.set) (has c.add_required.new.set)
    (λ k. required_in_row (trees (map tree_of c.args.parts.now)) k || has c.args.set.now k) b
    c.loop-part-test.true c.part-item.is (c.loop-part.invariant b) (c.add_required.ensures b)

pub add_required_in_row-returns : goal.add_required_in_row-returns
add_required_in_row-returns t c b =
    row_ends c.args.parts.now c.loop-part.part-index (has c.loop-part.set)
    (λ k. required_in_row (trees (map tree_of c.args.parts.now)) k || has c.args.set.now k) b c.loop-part-test.false (c.loop-part.invariant b)

pub required_in_branches-returns-then-is_empty : goal.required_in_branches-returns-then-is_empty
required_in_branches-returns-then-is_empty t c b =
    let none : c.args.branches.now ≡ [] = nil_from_length c.args.branches.now (eqb-true _ _ (sym c.is_empty.ensures ∙ c.if-is_empty.true)) in
    ap (λ f. f b) c.empty-common.ensures ∙ sym (ap (λ xs. branches xs b) none ∙ ap (λ f. f b) branches_of_none)

pub required_in_branches-loop-i-init : goal.required_in_branches-loop-i-init
required_in_branches-loop-i-init t c b =
    let some : 0 < length c.args.branches.now = search rules in
    after_nothing (required_bytes (tree_of c.index-branches-last.result)) (has c.empty-common.result) (has c.add_required.new.set) b (c.add_required.ensures b) c.empty-common.ensures
    ∙ sym (branches_last c.args.branches.now c.index-branches-last.result b some c.index-branches-last.is)

pub required_in_branches-loop-i-preserved : goal.required_in_branches-loop-i-preserved
required_in_branches-loop-i-preserved t c b =
    let some : 0 < length c.args.branches.now = search rules in
    ap (λ f. f b) c.intersection-common.ensures
    ∙ ap₂ (λ x y. x && y)
    (after_nothing (required_bytes (tree_of c.index-branches-i.result)) (has c.empty-branch.result) (has c.add_required-in-loop-i.new.set) b
    (c.add_required-in-loop-i.ensures b) c.empty-branch.ensures)
    (c.loop-i.invariant b)
    ∙ sym (branches_step c.args.branches.now c.loop-i.i c.index-branches-i.result b (omega arith) (omega arith) c.index-branches-i.is)
