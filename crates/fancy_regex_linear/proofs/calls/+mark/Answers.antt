use Rattle.std.proofs.Common.{◌≡◌, ◌∙◌, ap, sym, subst, inl, rules}
use Rattle.fancy_regex_tree.specs.Tree.{tree_of, concat, alt, look_around, conditional}
use Rattle.fancy_regex_linear.specs.CallMarks.{AllMarked}
use Rattle.fancy_regex_linear.specs.Translation.{all_trees}
use Rattle.fancy_regex_linear.proofs.ShapeLemmas.{tree_concat, tree_alt, tree_look, tree_conditional}
use Rattle.fancy_regex_linear.proofs.CallWeightLemmas.{CallsNone}
use Rattle.fancy_regex_linear.proofs.MarkLemmas.{kept_none, kept_both, still_marked, look_marked, row_begins, row_more, row_ends, row_only, row_only_ends, three_only, other_into}
use Rattle.fancy_regex_linear.proofs.calls.+mark.Goals as goal

pub mark_calls_of-loop-i-init : goal.mark_calls_of-loop-i-init
mark_calls_of-loop-i-init t c = record {
  kept = kept_none c.args.marks.now;
  all = row_begins c.args.children.now c.args.marks.now;
  only = λ j h. inl h;
}

pub mark_calls_of-loop-i-preserved : goal.mark_calls_of-loop-i-preserved
mark_calls_of-loop-i-preserved t c = record {
  kept = kept_both c.args.marks.now c.loop-i.marks c.mark_calls.new.marks c.loop-i.invariant.kept c.mark_calls.ensures.kept;
  all =
      row_more c.args.children.now c.loop-i.i c.index-children-i.result c.loop-i.marks c.mark_calls.new.marks c.loop-i-test.true c.index-children-i.is
      c.loop-i.invariant.all c.mark_calls.ensures.kept c.mark_calls.ensures.all;
  only = λ j h.
      row_only c.args.children.now c.loop-i.i c.index-children-i.result c.args.marks.now c.loop-i.marks c.mark_calls.new.marks j c.loop-i-test.true
      c.index-children-i.is (c.loop-i.invariant.only j) (c.mark_calls.ensures.only j) h;
}

pub mark_calls_of-returns-clause-all : goal.mark_calls_of-returns-clause-all
mark_calls_of-returns-clause-all t c = row_ends c.args.children.now c.loop-i.i c.loop-i.marks c.loop-i-test.false c.loop-i.invariant.all

pub mark_calls_of-returns-clause-only : goal.mark_calls_of-returns-clause-only
mark_calls_of-returns-clause-only t c = λ j h.
    row_only_ends c.args.children.now c.loop-i.i c.args.marks.now c.loop-i.marks j c.loop-i-test.false (c.loop-i.invariant.only j) h

pub mark_calls-returns-in-Concat-clause-all : goal.mark_calls-returns-in-Concat-clause-all
mark_calls-returns-in-Concat-clause-all t c =
    let e : tree_of c.args.expr.now ≡ concat (all_trees c.deref.result.now) =
    ap tree_of c.in-Concat.is ∙ tree_concat c.in-Concat.children ∙ ap (λ es. concat (all_trees es)) (sym c.deref.ensures.value) in
    subst (AllMarked c.mark_calls_of.new.marks) (sym e) c.mark_calls_of.ensures.all

pub mark_calls-returns-in-Concat-clause-only : goal.mark_calls-returns-in-Concat-clause-only
mark_calls-returns-in-Concat-clause-only t c = λ j.
    let e : tree_of c.args.expr.now ≡ concat (all_trees c.deref.result.now) =
    ap tree_of c.in-Concat.is ∙ tree_concat c.in-Concat.children ∙ ap (λ es. concat (all_trees es)) (sym c.deref.ensures.value) in
    rw e (c.mark_calls_of.ensures.only j)

pub mark_calls-returns-in-Alt-clause-all : goal.mark_calls-returns-in-Alt-clause-all
mark_calls-returns-in-Alt-clause-all t c =
    let e : tree_of c.args.expr.now ≡ alt (all_trees c.deref-in-Alt.result.now) =
    ap tree_of c.in-Alt.is ∙ tree_alt c.in-Alt.children ∙ ap (λ es. alt (all_trees es)) (sym c.deref-in-Alt.ensures.value) in
    subst (AllMarked c.mark_calls_of-in-Alt.new.marks) (sym e) (λ p. (p.0, c.mark_calls_of-in-Alt.ensures.all p.1))

pub mark_calls-returns-in-Alt-clause-only : goal.mark_calls-returns-in-Alt-clause-only
mark_calls-returns-in-Alt-clause-only t c = λ j.
    let e : tree_of c.args.expr.now ≡ alt (all_trees c.deref-in-Alt.result.now) =
    ap tree_of c.in-Alt.is ∙ tree_alt c.in-Alt.children ∙ ap (λ es. alt (all_trees es)) (sym c.deref-in-Alt.ensures.value) in
    rw e (c.mark_calls_of-in-Alt.ensures.only j)

pub mark_calls-returns-in-LookAround-clause-all : goal.mark_calls-returns-in-LookAround-clause-all
mark_calls-returns-in-LookAround-clause-all t c =
    let box : c.deref-in-LookAround.result.now ≡ c.in-LookAround.child.value = search rules in
    let e : tree_of c.args.expr.now ≡ look_around (tree_of c.deref-in-LookAround.result.now) c.in-LookAround.field-1 =
    ap tree_of c.in-LookAround.is ∙ tree_look c.in-LookAround.child c.in-LookAround.field-1 ∙ ap (λ x. look_around (tree_of x) c.in-LookAround.field-1) (sym box) in
    subst (AllMarked c.mark_calls-in-LookAround.new.marks) (sym e)
    (look_marked c.mark_calls-in-LookAround.new.marks (tree_of c.deref-in-LookAround.result.now) c.in-LookAround.field-1 c.mark_calls-in-LookAround.ensures.all)

pub mark_calls-returns-in_default-clause-all : goal.mark_calls-returns-in_default-clause-all
mark_calls-returns-in_default-clause-all t c =
    let other : CallsNone c.args.expr.now = record {
      concat = c.in_default.not-Concat;
      alt = c.in_default.not-Alt;
      group = c.in_default.not-Group;
      look_around = c.in_default.not-LookAround;
      repeat = c.in_default.not-Repeat;
      atomic = c.in_default.not-AtomicGroup;
      conditional = c.in_default.not-Conditional;
      call = c.in_default.not-SubroutineCall;
    } in
    other_into _ _ c.args.expr.now other

pub mark_calls-returns-in-Conditional-clause-kept : goal.mark_calls-returns-in-Conditional-clause-kept
mark_calls-returns-in-Conditional-clause-kept t c =
    kept_both _ _ _ c.mark_calls-in-Conditional.ensures.kept (kept_both _ _ _ c.mark_calls-in-Conditional-2.ensures.kept c.mark_calls-in-Conditional-3.ensures.kept)

pub mark_calls-returns-in-Conditional-clause-all : goal.mark_calls-returns-in-Conditional-clause-all
mark_calls-returns-in-Conditional-clause-all t c =
    let box_1 : c.deref-in-Conditional.result.now ≡ c.in-Conditional.condition.value = search rules in
    let box_2 : c.deref-in-Conditional-2.result.now ≡ c.in-Conditional.true_branch.value = search rules in
    let box_3 : c.deref-in-Conditional-3.result.now ≡ c.in-Conditional.false_branch.value = search rules in
    let e : tree_of c.args.expr.now ≡ conditional (tree_of c.deref-in-Conditional.result.now) (tree_of c.deref-in-Conditional-2.result.now) (tree_of c.deref-in-Conditional-3.result.now) =
    ap tree_of c.in-Conditional.is ∙ tree_conditional c.in-Conditional.condition c.in-Conditional.true_branch c.in-Conditional.false_branch
    ∙ ap (λ x. conditional (tree_of x) (tree_of c.in-Conditional.true_branch.value) (tree_of c.in-Conditional.false_branch.value)) (sym box_1)
    ∙ ap (λ x. conditional (tree_of c.deref-in-Conditional.result.now) (tree_of x) (tree_of c.in-Conditional.false_branch.value)) (sym box_2)
    ∙ ap (λ x. conditional (tree_of c.deref-in-Conditional.result.now) (tree_of c.deref-in-Conditional-2.result.now) (tree_of x)) (sym box_3) in
    let last = c.mark_calls-in-Conditional-3.ensures.kept in
    let first = kept_both _ _ _ c.mark_calls-in-Conditional-2.ensures.kept last in
    subst (AllMarked c.mark_calls-in-Conditional-3.new.marks) (sym e) (λ p. (
      still_marked _ _ (tree_of c.deref-in-Conditional.result.now) first c.mark_calls-in-Conditional.ensures.all p.0,
      (still_marked _ _ (tree_of c.deref-in-Conditional-2.result.now) last c.mark_calls-in-Conditional-2.ensures.all p.1.0, c.mark_calls-in-Conditional-3.ensures.all p.1.1),
    ))

pub mark_calls-returns-in-Conditional-clause-only : goal.mark_calls-returns-in-Conditional-clause-only
mark_calls-returns-in-Conditional-clause-only t c = λ j.
    let box_1 : c.deref-in-Conditional.result.now ≡ c.in-Conditional.condition.value = search rules in
    let box_2 : c.deref-in-Conditional-2.result.now ≡ c.in-Conditional.true_branch.value = search rules in
    let box_3 : c.deref-in-Conditional-3.result.now ≡ c.in-Conditional.false_branch.value = search rules in
    let e : tree_of c.args.expr.now ≡ conditional (tree_of c.deref-in-Conditional.result.now) (tree_of c.deref-in-Conditional-2.result.now) (tree_of c.deref-in-Conditional-3.result.now) =
    ap tree_of c.in-Conditional.is ∙ tree_conditional c.in-Conditional.condition c.in-Conditional.true_branch c.in-Conditional.false_branch
    ∙ ap (λ x. conditional (tree_of x) (tree_of c.in-Conditional.true_branch.value) (tree_of c.in-Conditional.false_branch.value)) (sym box_1)
    ∙ ap (λ x. conditional (tree_of c.deref-in-Conditional.result.now) (tree_of x) (tree_of c.in-Conditional.false_branch.value)) (sym box_2)
    ∙ ap (λ x. conditional (tree_of c.deref-in-Conditional.result.now) (tree_of c.deref-in-Conditional-2.result.now) (tree_of x)) (sym box_3) in
    rw e
    (three_only (c.mark_calls-in-Conditional.ensures.only j) (c.mark_calls-in-Conditional-2.ensures.only j) (c.mark_calls-in-Conditional-3.ensures.only j))
