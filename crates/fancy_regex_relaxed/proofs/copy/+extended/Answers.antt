use Rattle.std.proofs.Common.{◌≡◌, ◌∙◌, ap, subst, map, get_or, IfOk}
use Rattle.fancy_regex_tree.specs.Tree.{tree_of}
use Rattle.fancy_regex_relaxed.proofs.CopyLemmas.{branches_step, branches_whole, extended_list, copy_before, copy_last, extended_step, extended_whole}
use Rattle.fancy_regex_relaxed.proofs.OtherLemmas.{NoEnd, same_copies}
use Rattle.fancy_regex_relaxed.proofs.copy.+extended.Goals as goal
use Rattle.fancy_regex_relaxed.proofs.copy.+extended.Goals.{extended_row-then-i-children+in_ok-copy, extended_row-else-i-children+in_ok-copy-2}

pub extended-returns-in_default : goal.extended-returns-in_default
extended-returns-in_default t c =
    let other : NoEnd c.args.expr.now = record {
      concat = c.in_default.not-Concat;
      alt = c.in_default.not-Alt;
      group = c.in_default.not-Group;
      look_around = c.in_default.not-LookAround;
      atomic = c.in_default.not-AtomicGroup;
    } in
    subst (λ u. IfOk c.relaxed-in_default.result (λ copy. tree_of copy ≡ u)) (same_copies c.args.expr.now other) c.relaxed-in_default.ensures

pub extended_row-loop-i-preserved : goal.extended_row-loop-i-preserved
extended_row-loop-i-preserved t c =
    let es = c.args.children.now in
    let e = c.index-children-i.result in
    let copy = c.if-i-children.copy in
    let here : tree_of copy ≡ get_or (extended_list (map tree_of es)) c.loop-i.i (tree_of e) =
    elim c.if-i-children.branch [
      | extended_row-then-i-children+in_ok-copy w ↦
          copy_before es c.loop-i.i e copy w.if-i-children.true c.index-children-i.is (ap tree_of w.copy-is ∙ w.in_ok-copy.ensures)
      | extended_row-else-i-children+in_ok-copy-2 w ↦
          copy_last es c.loop-i.i e copy c.loop-i-test.true w.if-i-children.false c.index-children-i.is (ap tree_of w.copy-is ∙ w.in_ok-copy-2.ensures)
    ] in
    ap (map tree_of) c.in_ok-push.ensures.items ∙ extended_step es c.loop-i.row.items c.loop-i.i e copy c.loop-i-test.true c.loop-i.invariant here

pub extended_branches-loop-child-preserved : goal.extended_branches-loop-child-preserved
extended_branches-loop-child-preserved t c =
    ap (map tree_of) c.in_ok-push.ensures.items
    ∙ branches_step c.args.children.now c.loop-child.row.items c.loop-child.child-index c.child-item.result c.in_ok-extended.field-0 c.loop-child-test.true c.child-item.is
    c.loop-child.invariant c.in_ok-extended.ensures

pub extended_branches-returns : goal.extended_branches-returns
extended_branches-returns t c = branches_whole c.args.children.now c.loop-child.row.items c.loop-child.child-index c.loop-child-test.false c.loop-child.invariant

pub extended_row-returns : goal.extended_row-returns
extended_row-returns t c = extended_whole c.args.children.now c.loop-i.row.items c.loop-i.i c.loop-i-test.false c.loop-i.invariant
