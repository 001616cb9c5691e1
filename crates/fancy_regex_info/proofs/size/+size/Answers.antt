use Rattle.std.proofs.Common.{◌≡◌, ◌<◌, length, [], ap, ap₂, sym, ◌∙◌, rules, arith, map, eqb-true}
use Rattle.std.proofs.lemmas.List.{nil_from_length}
use Rattle.fancy_regex_tree.specs.Tree.{tree_of, trees}
use Rattle.fancy_regex_meaning.specs.Sizes.{both_sizes, either_size, alternation_size}
use Rattle.fancy_regex_info.specs.Views.{size_at}
use Rattle.fancy_regex_info.proofs.SizeLemmas.{row_end, row_step, branches_of_none, branches_end, branches_step}
use Rattle.fancy_regex_info.proofs.size.+size.Goals as goal

pub size_in_row-loop-i-init : goal.size_in_row-loop-i-init
size_in_row-loop-i-init t c = c.always-size.ensures ∙ sym (row_end (size_at c.args.calls.now) c.args.parts.now)

pub size_in_row-loop-i-preserved : goal.size_in_row-loop-i-preserved
size_in_row-loop-i-preserved t c =
    c.both-size.ensures ∙ ap₂ both_sizes c.size_in.ensures c.loop-i.invariant
    ∙ sym (row_step (size_at c.args.calls.now) c.args.parts.now c.loop-i.i c.index-parts-i.result (omega arith) (omega arith) c.index-parts-i.is)

pub size_in_branches-returns-then-is_empty : goal.size_in_branches-returns-then-is_empty
size_in_branches-returns-then-is_empty t c =
    let none : c.args.branches.now ≡ [] = nil_from_length c.args.branches.now (eqb-true _ _ (sym c.is_empty.ensures ∙ c.if-is_empty.true)) in
    c.always.ensures ∙ sym (ap (λ xs. alternation_size (size_at c.args.calls.now) (trees (map tree_of xs))) none ∙ branches_of_none (size_at c.args.calls.now))

pub size_in_branches-loop-i-init : goal.size_in_branches-loop-i-init
size_in_branches-loop-i-init t c =
    let some : 0 < length c.args.branches.now = search rules in
    c.size_in-size.ensures ∙ sym (branches_end (size_at c.args.calls.now) c.args.branches.now c.index-branches-last.result some c.index-branches-last.is)

pub size_in_branches-loop-i-preserved : goal.size_in_branches-loop-i-preserved
size_in_branches-loop-i-preserved t c =
    let some : 0 < length c.args.branches.now = search rules in
    c.either-size.ensures ∙ ap₂ either_size c.size_in.ensures c.loop-i.invariant
    ∙ sym (branches_step (size_at c.args.calls.now) c.args.branches.now c.loop-i.i c.index-branches-i.result (omega arith) (omega arith) c.index-branches-i.is)
