use Rattle.std.proofs.Common.{◌≡◌, ◌<◌, length, [], ap, ap₂, sym, ◌∙◌, rules, arith, map, eqb-true}
use Rattle.std.proofs.lemmas.List.{nil_from_length}
use Rattle.fancy_regex_tree.specs.Tree.{tree_of, trees, group}
use Rattle.fancy_regex_meaning.specs.Sizes.{both_sizes, either_size, alternation_size}
use Rattle.fancy_regex_info.specs.BodySizes.{body_sizes, row_body_sizes, from_last}
use Rattle.fancy_regex_info.specs.Views.{size_at}
use Rattle.fancy_regex_info.proofs.SizeLemmas.{row_end, row_step, branches_of_none, branches_end, branches_step}
use Rattle.fancy_regex_info.proofs.BodySizeLemmas.{group_found, none_found, one_more_found, last_found}
use Rattle.fancy_regex_info.proofs.TreeLemmas.{tree_group}
use Rattle.fancy_regex_info.proofs.body_sizes.+add.Goals as goal

pub add_body_sizes-returns-in_ok-push-in-Group-clause-adds : goal.add_body_sizes-returns-in_ok-push-in-Group-clause-adds
add_body_sizes-returns-in_ok-push-in-Group-clause-adds t c =
    let call = size_at c.args.calls.now in
    let rest = from_last c.args.sizes.now.items in
    let body = tree_of c.deref-in-Group.result.now in
    let is : tree_of c.args.expr.now ≡ group body =
    ap tree_of c.in-Group.is ∙ tree_group c.in-Group.body ∙ ap (λ e. group (tree_of e)) (sym c.deref-in-Group.ensures) in
    group_found call body rest c.add_body_sizes.new.sizes.items c.push.new.self.items c.in_ok-size-in-Group.size c.in_ok-size-in-Group.ensures.adds
    c.in_ok-size-in-Group.ensures.size c.in_ok-push-in-Group.ensures.items
    ∙ sym (ap (λ u. body_sizes call u rest) is)

pub add_sizes_in_row-loop-i-init : goal.add_sizes_in_row-loop-i-init
add_sizes_in_row-loop-i-init t c = record {
  size = c.always-size.ensures ∙ sym (row_end (size_at c.args.calls.now) c.args.parts.now);
  found = none_found (size_at c.args.calls.now) (from_last c.args.sizes.now.items) c.args.parts.now;
}

pub add_sizes_in_row-loop-i-preserved : goal.add_sizes_in_row-loop-i-preserved
add_sizes_in_row-loop-i-preserved t c = record {
  size =
      c.both-size.ensures ∙ ap₂ both_sizes c.in_ok-part.ensures.size c.loop-i.invariant.size
      ∙ sym (row_step (size_at c.args.calls.now) c.args.parts.now c.loop-i.i c.index-parts-i.result (omega arith) (omega arith) c.index-parts-i.is);
  found =
      one_more_found (size_at c.args.calls.now) (from_last c.args.sizes.now.items) c.args.parts.now c.loop-i.i c.index-parts-i.result
      (from_last c.loop-i.sizes.items) (from_last c.add_body_sizes.new.sizes.items) (omega arith) (omega arith) c.index-parts-i.is
      c.loop-i.invariant.found c.in_ok-part.ensures.adds;
}

pub add_sizes_in_branches-returns-then-is_empty-clause-size : goal.add_sizes_in_branches-returns-then-is_empty-clause-size
add_sizes_in_branches-returns-then-is_empty-clause-size t c =
    let none : c.args.branches.now ≡ [] = nil_from_length c.args.branches.now (eqb-true _ _ (sym c.is_empty.ensures ∙ c.if-is_empty.true)) in
    c.always.ensures ∙ sym (ap (λ xs. alternation_size (size_at c.args.calls.now) (trees (map tree_of xs))) none ∙ branches_of_none (size_at c.args.calls.now))

pub add_sizes_in_branches-returns-then-is_empty-clause-adds : goal.add_sizes_in_branches-returns-then-is_empty-clause-adds
add_sizes_in_branches-returns-then-is_empty-clause-adds t c =
    let call = size_at c.args.calls.now in
    let rest = from_last c.args.sizes.now.items in
    let none : c.args.branches.now ≡ [] = nil_from_length c.args.branches.now (eqb-true _ _ (sym c.is_empty.ensures ∙ c.if-is_empty.true)) in
    none_found call rest [] ∙ ap (λ xs. row_body_sizes call (trees (map tree_of xs)) rest) (sym none)

pub add_sizes_in_branches-loop-i-init : goal.add_sizes_in_branches-loop-i-init
add_sizes_in_branches-loop-i-init t c =
    let some : 0 < length c.args.branches.now = search rules in
    record {
      size =
          c.in_ok-size.ensures.size ∙ sym (branches_end (size_at c.args.calls.now) c.args.branches.now c.index-branches-last.result some c.index-branches-last.is);
      found =
          last_found (size_at c.args.calls.now) (from_last c.args.sizes.now.items) c.args.branches.now c.index-branches-last.result
          (from_last c.add_body_sizes.new.sizes.items) some c.index-branches-last.is c.in_ok-size.ensures.adds;
    }

pub add_sizes_in_branches-loop-i-preserved : goal.add_sizes_in_branches-loop-i-preserved
add_sizes_in_branches-loop-i-preserved t c =
    let some : 0 < length c.args.branches.now = search rules in
    record {
      size =
          c.either-size.ensures ∙ ap₂ either_size c.in_ok-branch.ensures.size c.loop-i.invariant.size
          ∙ sym (branches_step (size_at c.args.calls.now) c.args.branches.now c.loop-i.i c.index-branches-i.result (omega arith) (omega arith) c.index-branches-i.is);
      found =
          one_more_found (size_at c.args.calls.now) (from_last c.args.sizes.now.items) c.args.branches.now c.loop-i.i c.index-branches-i.result
          (from_last c.loop-i.sizes.items) (from_last c.add_body_sizes-in-loop-i.new.sizes.items) (omega arith) (omega arith) c.index-branches-i.is
          c.loop-i.invariant.found c.in_ok-branch.ensures.adds;
    }
