use Rattle.std.proofs.Common.{◌≡◌, ◌==◌, ◌∙◌, true, ℕ, vec_len, length, ap, sym, subst, rules}
use Rattle.fancy_regex_tree.specs.Tree.{tree_of, alt, conditional}
use Rattle.fancy_regex_info.specs.AnalysisRelations.{mark_at}
use Rattle.fancy_regex_linear.specs.Plain.{IsRegular}
use Rattle.fancy_regex_linear.specs.Translation.{all_trees}
use Rattle.fancy_regex_linear.proofs.BuildLemmas.{regular_step, regular_whole, some_trees, three_hold, three_fail}
use Rattle.fancy_regex_linear.proofs.ExactLemmas.{regular_at}
use Rattle.fancy_regex_linear.proofs.ShapeLemmas.{tree_alt, tree_conditional}
use Rattle.fancy_regex_linear.proofs.build.+regular.Goals as goal

pub is_regular-returns-then-not-is_empty-clause-regular : goal.is_regular-returns-then-not-is_empty-clause-regular
is_regular-returns-then-not-is_empty-clause-regular t c = λ yes.
    let e : tree_of c.args.expr.now ≡ alt (all_trees c.deref-then-not-is_empty.result.now) =
    ap tree_of c.in-Alt.is ∙ tree_alt c.in-Alt.children ∙ ap (λ es. alt (all_trees es)) (sym c.deref-then-not-is_empty.ensures.value) in
    let long : length c.deref-then-not-is_empty.result.now ≡ vec_len c.in-Alt.children = ap length c.deref-then-not-is_empty.ensures.value ∙ (search rules) in
    rw e (
      some_trees c.deref-then-not-is_empty.result.now
          (ap (λ (n : ℕ). n == 0) long ∙ sym c.is_empty.ensures ∙ c.if-not-is_empty.true),
      c.are_regular-then-not-is_empty.ensures.regular yes,
    )

pub is_regular-returns-then-not-is_empty-clause-other : goal.is_regular-returns-then-not-is_empty-clause-other
is_regular-returns-then-not-is_empty-clause-other t c = λ fails all.
    let e : tree_of c.args.expr.now ≡ alt (all_trees c.deref-then-not-is_empty.result.now) =
    ap tree_of c.in-Alt.is ∙ tree_alt c.in-Alt.children ∙ ap (λ es. alt (all_trees es)) (sym c.deref-then-not-is_empty.ensures.value) in
    c.are_regular-then-not-is_empty.ensures.other fails (subst (IsRegular c.args.resets (λ j. mark_at c.args.calls.now j ≡ true)) e all).1

pub is_regular-returns-in-Conditional-clause-regular : goal.is_regular-returns-in-Conditional-clause-regular
is_regular-returns-in-Conditional-clause-regular t c = λ yes.
    let box_1 : c.deref-in-Conditional.result.now ≡ c.in-Conditional.condition.value = search rules in
    let box_2 : c.deref-in-Conditional-2.result.now ≡ c.in-Conditional.true_branch.value = search rules in
    let box_3 : c.deref-in-Conditional-3.result.now ≡ c.in-Conditional.false_branch.value = search rules in
    let e : tree_of c.args.expr.now ≡ conditional (tree_of c.deref-in-Conditional.result.now) (tree_of c.deref-in-Conditional-2.result.now) (tree_of c.deref-in-Conditional-3.result.now) =
    ap tree_of c.in-Conditional.is ∙ tree_conditional c.in-Conditional.condition c.in-Conditional.true_branch c.in-Conditional.false_branch
    ∙ ap (λ x. conditional (tree_of x) (tree_of c.in-Conditional.true_branch.value) (tree_of c.in-Conditional.false_branch.value)) (sym box_1)
    ∙ ap (λ x. conditional (tree_of c.deref-in-Conditional.result.now) (tree_of x) (tree_of c.in-Conditional.false_branch.value)) (sym box_2)
    ∙ ap (λ x. conditional (tree_of c.deref-in-Conditional.result.now) (tree_of c.deref-in-Conditional-2.result.now) (tree_of x)) (sym box_3) in
    let all = three_hold c.is_regular-first.result c.is_regular-yes.result c.is_regular-no.result (sym c.are_all.ensures ∙ yes) in
    rw e (c.is_regular-first.ensures.regular all.0, (c.is_regular-yes.ensures.regular all.1.0, c.is_regular-no.ensures.regular all.1.1))

pub is_regular-returns-in-Conditional-clause-other : goal.is_regular-returns-in-Conditional-clause-other
is_regular-returns-in-Conditional-clause-other t c = λ fails all.
    let box_1 : c.deref-in-Conditional.result.now ≡ c.in-Conditional.condition.value = search rules in
    let box_2 : c.deref-in-Conditional-2.result.now ≡ c.in-Conditional.true_branch.value = search rules in
    let box_3 : c.deref-in-Conditional-3.result.now ≡ c.in-Conditional.false_branch.value = search rules in
    let e : tree_of c.args.expr.now ≡ conditional (tree_of c.deref-in-Conditional.result.now) (tree_of c.deref-in-Conditional-2.result.now) (tree_of c.deref-in-Conditional-3.result.now) =
    ap tree_of c.in-Conditional.is ∙ tree_conditional c.in-Conditional.condition c.in-Conditional.true_branch c.in-Conditional.false_branch
    ∙ ap (λ x. conditional (tree_of x) (tree_of c.in-Conditional.true_branch.value) (tree_of c.in-Conditional.false_branch.value)) (sym box_1)
    ∙ ap (λ x. conditional (tree_of c.deref-in-Conditional.result.now) (tree_of x) (tree_of c.in-Conditional.false_branch.value)) (sym box_2)
    ∙ ap (λ x. conditional (tree_of c.deref-in-Conditional.result.now) (tree_of c.deref-in-Conditional-2.result.now) (tree_of x)) (sym box_3) in
    let parts = subst (IsRegular c.args.resets (λ j. mark_at c.args.calls.now j ≡ true)) e all in
    three_fail c.is_regular-first.result c.is_regular-yes.result c.is_regular-no.result (sym c.are_all.ensures ∙ fails)
    (λ no. c.is_regular-first.ensures.other no parts.0) (λ no. c.is_regular-yes.ensures.other no parts.1.0) (λ no. c.is_regular-no.ensures.other no parts.1.1)

pub are_regular-loop-i-preserved : goal.are_regular-loop-i-preserved
are_regular-loop-i-preserved t c =
    regular_step c.args.resets (λ j. mark_at c.args.calls.now j ≡ true) c.args.children.now c.loop-i.i c.index-children-i.result c.loop-i-test.true c.index-children-i.is c.loop-i.invariant
    (c.is_regular.ensures.regular c.if-not-is_regular.false)

pub are_regular-returns-clause-regular : goal.are_regular-returns-clause-regular
are_regular-returns-clause-regular t c = λ yes. regular_whole c.args.resets (λ j. mark_at c.args.calls.now j ≡ true) c.args.children.now c.loop-i.i c.loop-i-test.false c.loop-i.invariant

pub are_regular-returns-then-not-is_regular-clause-other : goal.are_regular-returns-then-not-is_regular-clause-other
are_regular-returns-then-not-is_regular-clause-other t c = λ fails all.
    c.is_regular.ensures.other c.if-not-is_regular.true
    (regular_at c.args.resets (λ j. mark_at c.args.calls.now j ≡ true) c.args.children.now c.loop-i.i c.index-children-i.result c.loop-i-test.true c.index-children-i.is all)
