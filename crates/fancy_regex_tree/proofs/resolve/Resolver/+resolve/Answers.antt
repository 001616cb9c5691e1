use Rattle.std.proofs.Common.{ℕ, rules, arith, ap, ◌∙◌, refl, sym, Ok}
use Rattle.std.proofs.lemmas.List.{get_or-set_other}
use Rattle.fancy_regex_tree.proofs.Children.{ast_group_is, tree_of_group, tree_of_look_around, tree_of_repeat, tree_of_atomic_group, tree_of_define_group, tree_of_conditional}
use Rattle.fancy_regex_tree.proofs.Children.{tree_of_repeater, tree_of_stopper, tree_of_expression}
use Rattle.fancy_regex_tree.proofs.Agreeing.{resolved_counting, same_error}
use Rattle.fancy_regex_tree.proofs.Prefixes.{prefixed_none, row_next, row_end, row_fails}
use Rattle.fancy_regex_tree.specs.Tree.{Tree, tree_of, no_trees}
use Rattle.fancy_regex_tree.specs.Numbering.{lookup_in}
use Rattle.fancy_regex_tree.proofs.resolve.Resolver.+resolve.Goals as goal

pub resolve_all-returns-in_err-reached : goal.resolve_all-returns-in_err-reached
resolve_all-returns-in_err-reached t c =
    same_error _ _ c.in_err-reached.field-0.0 _ c.from_residual.ensures.1
    (row_fails c.args.self.now.ignored (lookup_in c.args.self.now.named.now) (λ (n : ℕ). (no_trees, n)) (λ n. (tree_of c.resolve.new.expr, n)) c.args.children.now c.loop-i.children _ c.loop-i.i c.loop-i.reached c.index-children-i.result _ c.in_err-reached.field-0.0
    (search rules) (sym (c.loop-i.invariant.unvisited.1 c.loop-i.i c.index-children-i.result (omega arith))) c.in_err-reached.ensures c.loop-i.invariant.made)

pub resolve_all-loop-i-init : goal.resolve_all-loop-i-init
resolve_all-loop-i-init t c = record {
  unvisited = (refl, λ k d h. refl);
  made = prefixed_none _;
}

pub resolve_all-loop-i-preserved : goal.resolve_all-loop-i-preserved
resolve_all-loop-i-preserved t c = record {
  unvisited = (search rules, λ k d h. get_or-set_other _ c.loop-i.i k _ d (omega (arith, h)) ∙ c.loop-i.invariant.unvisited.1 k d (omega (arith, h)));
  made =
      row_next _ _ c.args.children.now c.loop-i.children _ c.loop-i.i c.loop-i.reached c.in_ok-reached.reached c.index-children-i.result _ c.resolve.new.expr
      (search rules) (search rules) (sym (c.loop-i.invariant.unvisited.1 c.loop-i.i c.index-children-i.result (omega arith))) c.in_ok-reached.ensures c.loop-i.invariant.made;
}

pub resolve_all-returns : goal.resolve_all-returns
resolve_all-returns t c =
    row_end _ _ c.args.children.now c.loop-i.children _ c.loop-i.i c.loop-i.reached c.loop-i-test.false (omega (arith, c.loop-i-test.false, c.loop-i.auto.children)) c.loop-i.invariant.made

pub resolved-returns-in_ok-openings-in-LookAround : goal.resolved-returns-in_ok-openings-in-LookAround
resolved-returns-in_ok-openings-in-LookAround t c =
    let found = rw c.deref_mut-in-LookAround.ensures.value at c.in_ok-openings-in-LookAround.ensures in
    rw (c.in-LookAround.is, tree_of_look_around c.in-LookAround.child c.in-LookAround.look, found) (sym (ap (λ (e : Tree). Ok (e, c.in_ok-openings-in-LookAround.openings)) (tree_of_look_around _ c.in-LookAround.look)))

pub resolved-returns-in_ok-openings-in-Repeat : goal.resolved-returns-in_ok-openings-in-Repeat
resolved-returns-in_ok-openings-in-Repeat t c =
    let found = rw c.deref_mut-in-Repeat.ensures.value at c.in_ok-openings-in-Repeat.ensures in
    rw (c.in-Repeat.is, tree_of_repeat c.in-Repeat.child c.in-Repeat.lo c.in-Repeat.hi c.in-Repeat.greedy, found) (sym (ap (λ (e : Tree). Ok (e, c.in_ok-openings-in-Repeat.openings)) c.repeat_of.ensures))

pub resolved-returns-in_ok-openings-in-AtomicGroup : goal.resolved-returns-in_ok-openings-in-AtomicGroup
resolved-returns-in_ok-openings-in-AtomicGroup t c =
    let found = rw c.deref_mut-in-AtomicGroup.ensures.value at c.in_ok-openings-in-AtomicGroup.ensures in
    rw (c.in-AtomicGroup.is, tree_of_atomic_group c.in-AtomicGroup.child, found) (sym (ap (λ (e : Tree). Ok (e, c.in_ok-openings-in-AtomicGroup.openings)) (tree_of_atomic_group _)))

pub resolved-returns-in_ok-openings-in-DefineGroup : goal.resolved-returns-in_ok-openings-in-DefineGroup
resolved-returns-in_ok-openings-in-DefineGroup t c =
    let found = rw c.deref_mut-in-DefineGroup.ensures.value at c.in_ok-openings-in-DefineGroup.ensures in
    rw (c.in-DefineGroup.is, tree_of_define_group c.in-DefineGroup.definitions, found) (sym (ap (λ (e : Tree). Ok (e, c.in_ok-openings-in-DefineGroup.openings)) (tree_of_define_group _)))

pub resolved_absent-returns-in_ok-openings-in-Repeater : goal.resolved_absent-returns-in_ok-openings-in-Repeater
resolved_absent-returns-in_ok-openings-in-Repeater t c =
    let found = rw c.deref_mut.ensures.value at c.in_ok-openings-in-Repeater.ensures in
    rw (c.in-Repeater.is, tree_of_repeater c.in-Repeater.child, found) (sym (ap (λ (e : Tree). Ok (e, c.in_ok-openings-in-Repeater.openings)) (tree_of_repeater _)))

pub resolved_absent-returns-in_ok-openings-in-Stopper : goal.resolved_absent-returns-in_ok-openings-in-Stopper
resolved_absent-returns-in_ok-openings-in-Stopper t c =
    let found = rw c.deref_mut-in-Stopper.ensures.value at c.in_ok-openings-in-Stopper.ensures in
    rw (c.in-Stopper.is, tree_of_stopper c.in-Stopper.child, found) (sym (ap (λ (e : Tree). Ok (e, c.in_ok-openings-in-Stopper.openings)) (tree_of_stopper _)))

pub resolved-returns-in_ok-openings-in-Group : goal.resolved-returns-in_ok-openings-in-Group
resolved-returns-in_ok-openings-in-Group t c =
    let found = rw (c.deref_mut-in-Group.ensures.value, c.in_ok-next-in-Group.ensures.ok) at c.in_ok-openings-in-Group.ensures in
    rw (c.in-Group.is, tree_of_group c.in-Group.child, found) (sym (ap (λ (e : Tree). Ok (e, c.in_ok-openings-in-Group.openings)) (tree_of_group _)))

pub resolved-returns-in_ok-openings-in-Conditional-3 : goal.resolved-returns-in_ok-openings-in-Conditional-3
resolved-returns-in_ok-openings-in-Conditional-3 t c =
    let first = rw c.deref_mut-in-Conditional.ensures.value at c.in_ok-openings-in-Conditional.ensures in
    let second = rw c.deref_mut-in-Conditional-2.ensures.value at c.in_ok-openings-in-Conditional-2.ensures in
    let third = rw c.deref_mut-in-Conditional-3.ensures.value at c.in_ok-openings-in-Conditional-3.ensures in
    rw (c.in-Conditional.is, tree_of_conditional c.in-Conditional.condition c.in-Conditional.true_branch c.in-Conditional.false_branch, first, second, third)
    (sym (ap (λ (e : Tree). Ok (e, c.in_ok-openings-in-Conditional-3.openings)) (tree_of_conditional _ _ _)))

pub resolved_absent-returns-in_ok-openings-in-Expression-2 : goal.resolved_absent-returns-in_ok-openings-in-Expression-2
resolved_absent-returns-in_ok-openings-in-Expression-2 t c =
    let first = rw c.deref_mut-in-Expression.ensures.value at c.in_ok-openings-in-Expression.ensures in
    let second = rw c.deref_mut-in-Expression-2.ensures.value at c.in_ok-openings-in-Expression-2.ensures in
    rw (c.in-Expression.is, tree_of_expression c.in-Expression.absent c.in-Expression.exp, first, second)
    (sym (ap (λ (e : Tree). Ok (e, c.in_ok-openings-in-Expression-2.openings)) (tree_of_expression _ _)))

pub resolved_node-returns-in_ok-openings-in-AstGroup-2 : goal.resolved_node-returns-in_ok-openings-in-AstGroup-2
resolved_node-returns-in_ok-openings-in-AstGroup-2 t c =
    let found = rw (c.deref_mut-in-AstGroup.ensures.value, c.in_ok-next-in-AstGroup.ensures.ok) at c.in_ok-openings-in-AstGroup-2.ensures in
    rw c.in-AstGroup.is (rw (ast_group_is c.in-AstGroup.name c.in-AstGroup.inner c.args.position) (resolved_counting c.args.self.now.ignored (lookup_in c.args.self.now.named.now) c.args.openings _ (tree_of c.in-AstGroup.inner.value) (tree_of c.resolve-in-AstGroup.new.expr)
    c.in_ok-openings-in-AstGroup-2.openings c.args.position (sym c.counts.ensures ∙ c.if-not-counts.false) found ∙ sym (ap (λ (e : Tree). Ok (e, c.in_ok-openings-in-AstGroup-2.openings)) (tree_of_group _))))
