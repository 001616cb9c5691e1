use Rattle.std.proofs.Common.{IfOk, option_map, chars, string_bytes, map, refl, ap, ap₂, sym, ◌∙◌, subst}
use Rattle.std.proofs.lemmas.List.{take_all}
use Rattle.fancy_regex_tree.specs.Tree.{tree_of, trees, no_trees, absent_tree_of, ast_tree_of, target_of, concat, alt, group, look_around, repeat}
use Rattle.fancy_regex_tree.specs.Tree.{atomic_group, conditional, define_group, absent_repeater, absent_expression, absent_stopper, ast_group}
use Rattle.fancy_regex_info.specs.PropertyRules.{concat_properties, sum_properties, alternation_properties, group_properties, wrapper_properties}
use Rattle.fancy_regex_info.specs.PropertyRules.{repeat_properties, conditional_properties, absent_expression_properties}
use Rattle.fancy_regex_info.specs.Infos.{known, no_infos, more_infos, infos, info_of, properties_of, properties_in}
use Rattle.fancy_regex_info.specs.Views.{size_of}
use Rattle.fancy_regex_info.specs.AnalysisRelations.{IsAnalysisOf, AreAnalysesOf, node_of}
use Rattle.fancy_regex_info.proofs.AnalyzeNodeLemmas.{lift, over, row_begins, row_walk, listed_infos, arm_clear, arm_ast_backref, arm_ast_call, arm_ast_condition, arm_group, arm_look, arm_repeat}
use Rattle.fancy_regex_info.proofs.AnalyzeNodeLemmas.{arm_atomic, arm_define, arm_ast_group, arm_repeater, arm_stopper, arm_expression, arm_conditional, arm_concat, arm_alt}
use Rattle.fancy_regex_info.proofs.TreeLemmas.{tree_concat, tree_alt, tree_look_around, tree_repeat, tree_atomic, tree_conditional, tree_define, tree_repeater}
use Rattle.fancy_regex_info.proofs.TreeLemmas.{tree_stopper, tree_expression, tree_clear, tree_ast_group, tree_ast_backref, tree_ast_call, tree_ast_condition}
use Rattle.fancy_regex_info.proofs.analyze_node.+analyze_node.Goals as goal

pub parts_of_group-returns : goal.parts_of_group-returns
parts_of_group-returns t c =
    let x = info_of c.in_ok-child.child in
    lift c.args.calls.now c.args.read.now c.one_part.result (λ u. known (properties_of c.group_properties-properties.result) u (more_infos x no_infos))
    (group (tree_of c.args.body.now)) c.args.start c.one_part.ensures
    (arm_group c.args.calls.now c.args.read.now c.args.start c.saturating_add.result (tree_of c.args.body.now) (group (tree_of c.args.body.now)) x
    (properties_of c.group_properties-properties.result) refl c.saturating_add.ensures c.in_ok-child.ensures
    (c.group_properties-properties.ensures ∙ ap₂ (group_properties c.args.start) c.is_marked.ensures c.properties.ensures))

pub parts_of-returns-in_ok-child-in-LookAround : goal.parts_of-returns-in_ok-child-in-LookAround
parts_of-returns-in_ok-child-in-LookAround t c =
    let is =
    ap tree_of c.in-LookAround.is ∙ tree_look_around c.in-LookAround.child c.in-LookAround.field-1
    ∙ ap (λ e. look_around (tree_of e) c.in-LookAround.field-1) (sym c.deref-in-LookAround.ensures) in
    let x = info_of c.in_ok-child-in-LookAround.child in
    let f = wrapper_properties (size_of c.always.result) (properties_in x) in
    lift c.args.calls.now c.args.read.now c.wrapper_parts.result (λ u. known f u (more_infos x no_infos)) (tree_of c.args.expr.now) c.args.start
    c.wrapper_parts.ensures
    (arm_look c.args.calls.now c.args.read.now c.args.start (tree_of c.deref-in-LookAround.result.now) c.in-LookAround.field-1 (tree_of c.args.expr.now)
    x f is c.in_ok-child-in-LookAround.ensures (ap (λ s. wrapper_properties s (properties_in x)) c.always.ensures))

pub parts_of-returns-in_ok-child-in-Repeat : goal.parts_of-returns-in_ok-child-in-Repeat
parts_of-returns-in_ok-child-in-Repeat t c =
    let lo = c.in-Repeat.lo in
    let hi = c.in-Repeat.hi in
    let greedy = c.in-Repeat.greedy in
    let is =
    ap tree_of c.in-Repeat.is ∙ tree_repeat c.in-Repeat.child lo hi greedy
    ∙ ap (λ e. repeat (tree_of e) lo hi greedy) (sym c.deref-in-Repeat.ensures) in
    let x = info_of c.in_ok-child-in-Repeat.child in
    let f = repeat_properties lo hi (properties_in x) in
    lift c.args.calls.now c.args.read.now c.repeat_parts.result (λ u. known f u (more_infos x no_infos)) (tree_of c.args.expr.now) c.args.start
    c.repeat_parts.ensures
    (arm_repeat c.args.calls.now c.args.read.now c.args.start (tree_of c.deref-in-Repeat.result.now) lo hi greedy (tree_of c.args.expr.now) x f is
    c.in_ok-child-in-Repeat.ensures refl)

pub parts_of-returns-in_ok-child-in-AtomicGroup : goal.parts_of-returns-in_ok-child-in-AtomicGroup
parts_of-returns-in_ok-child-in-AtomicGroup t c =
    let is =
    ap tree_of c.in-AtomicGroup.is ∙ tree_atomic c.in-AtomicGroup.child
    ∙ ap (λ e. atomic_group (tree_of e)) (sym c.deref-in-AtomicGroup.ensures) in
    let x = info_of c.in_ok-child-in-AtomicGroup.child in
    let f = wrapper_properties (size_of c.properties.result.size) (properties_in x) in
    lift c.args.calls.now c.args.read.now c.wrapper_parts-in-AtomicGroup.result (λ u. known f u (more_infos x no_infos)) (tree_of c.args.expr.now) c.args.start
    c.wrapper_parts-in-AtomicGroup.ensures
    (arm_atomic c.args.calls.now c.args.read.now c.args.start (tree_of c.deref-in-AtomicGroup.result.now) (tree_of c.args.expr.now) x f is
    c.in_ok-child-in-AtomicGroup.ensures (ap (λ g. wrapper_properties g.size (properties_in x)) c.properties.ensures))

pub parts_of-returns-in_ok-child-in-DefineGroup : goal.parts_of-returns-in_ok-child-in-DefineGroup
parts_of-returns-in_ok-child-in-DefineGroup t c =
    let is =
    ap tree_of c.in-DefineGroup.is ∙ tree_define c.in-DefineGroup.definitions
    ∙ ap (λ e. define_group (tree_of e)) (sym c.deref-in-DefineGroup.ensures) in
    let x = info_of c.in_ok-child-in-DefineGroup.child in
    let f = wrapper_properties (size_of c.always-in-DefineGroup.result) (properties_in x) in
    lift c.args.calls.now c.args.read.now c.wrapper_parts-in-DefineGroup.result (λ u. known f u (more_infos x no_infos)) (tree_of c.args.expr.now) c.args.start
    c.wrapper_parts-in-DefineGroup.ensures
    (arm_define c.args.calls.now c.args.read.now c.args.start (tree_of c.deref-in-DefineGroup.result.now) (tree_of c.args.expr.now) x f is
    c.in_ok-child-in-DefineGroup.ensures (ap (λ s. wrapper_properties s (properties_in x)) c.always-in-DefineGroup.ensures))

pub parts_of-returns-in_ok-no-in-Conditional : goal.parts_of-returns-in_ok-no-in-Conditional
parts_of-returns-in_ok-no-in-Conditional t c =
    let is =
    ap tree_of c.in-Conditional.is ∙ tree_conditional c.in-Conditional.condition c.in-Conditional.true_branch c.in-Conditional.false_branch
    ∙ ap₂ (λ x y. conditional (tree_of x) (tree_of y) (tree_of c.in-Conditional.false_branch.value)) (sym c.deref-in-Conditional.ensures)
    (sym c.deref-in-Conditional-2.ensures)
    ∙ ap (λ z. conditional (tree_of c.deref-in-Conditional.result.now) (tree_of c.deref-in-Conditional-2.result.now) (tree_of z))
    (sym c.deref-in-Conditional-3.ensures) in
    let x = info_of c.in_ok-condition-in-Conditional.condition in
    let y = info_of c.in_ok-yes-in-Conditional.yes in
    let z = info_of c.in_ok-no-in-Conditional.no in
    let f = conditional_properties (properties_in x) (properties_in y) (properties_in z) in
    lift c.args.calls.now c.args.read.now c.conditional_parts.result (λ u. known f u (more_infos x (more_infos y (more_infos z no_infos))))
    (tree_of c.args.expr.now) c.args.start c.conditional_parts.ensures
    (arm_conditional c.args.calls.now c.args.read.now c.args.start c.end_group.result c.end_group-in-Conditional.result
    (tree_of c.deref-in-Conditional.result.now) (tree_of c.deref-in-Conditional-2.result.now) (tree_of c.deref-in-Conditional-3.result.now)
    (tree_of c.args.expr.now) x y z f is c.in_ok-condition-in-Conditional.ensures c.end_group.ensures c.in_ok-yes-in-Conditional.ensures
    c.end_group-in-Conditional.ensures c.in_ok-no-in-Conditional.ensures refl)

pub parts_of-returns-in-Concat : goal.parts_of-returns-in-Concat
parts_of-returns-in-Concat t c =
    let is = ap tree_of c.in-Concat.is ∙ tree_concat c.in-Concat.parts ∙ ap (λ es. concat (trees (map tree_of es))) (sym c.deref.ensures.value) in
    subst (λ u. IfOk c.parts_of_concat.result (λ parts. IsAnalysisOf c.args.calls.now c.args.read.now c.args.start u (node_of parts u))) (sym is)
    c.parts_of_concat.ensures

pub parts_of-returns-in-Alt : goal.parts_of-returns-in-Alt
parts_of-returns-in-Alt t c =
    let is = ap tree_of c.in-Alt.is ∙ tree_alt c.in-Alt.branches ∙ ap (λ es. alt (trees (map tree_of es))) (sym c.deref-in-Alt.ensures.value) in
    subst (λ u. IfOk c.parts_of_alternation.result (λ parts. IsAnalysisOf c.args.calls.now c.args.read.now c.args.start u (node_of parts u))) (sym is)
    c.parts_of_alternation.ensures

pub parts_of_concat-returns : goal.parts_of_concat-returns
parts_of_concat-returns t c =
    let ts = trees (map tree_of c.args.items.now) in
    let row = c.in_ok-row.row in
    arm_concat c.args.calls.now c.args.read.now c.args.start row.end ts (concat ts) (infos (map info_of row.infos.items))
    (properties_of c.concat_properties.result) refl c.in_ok-row.ensures
    (c.concat_properties.ensures
    ∙ ap (λ es. concat_properties (sum_properties c.args.start row.end (map (λ i. properties_in (info_of i)) es))) c.deref.ensures.value
    ∙ ap (λ fs. concat_properties (sum_properties c.args.start row.end fs)) (listed_infos row.infos.items))

pub parts_of_alternation-returns : goal.parts_of_alternation-returns
parts_of_alternation-returns t c =
    let ts = trees (map tree_of c.args.branches.now) in
    let row = c.in_ok-row.row in
    arm_alt c.args.calls.now c.args.read.now c.args.start row.end ts (alt ts) (infos (map info_of row.infos.items))
    (properties_of c.alternation_properties.result) refl c.in_ok-row.ensures
    (c.alternation_properties.ensures
    ∙ ap (λ es. alternation_properties c.args.start row.end (map (λ i. properties_in (info_of i)) es)) c.deref.ensures.value
    ∙ ap (alternation_properties c.args.start row.end) (listed_infos row.infos.items))

pub parts_of_absent-returns-in_ok-child-in-Repeater : goal.parts_of_absent-returns-in_ok-child-in-Repeater
parts_of_absent-returns-in_ok-child-in-Repeater t c =
    let is = ap absent_tree_of c.in-Repeater.is ∙ tree_repeater c.in-Repeater.child ∙ ap (λ e. absent_repeater (tree_of e)) (sym c.deref.ensures) in
    let x = info_of c.in_ok-child-in-Repeater.child in
    let f = wrapper_properties (size_of c.any_size.result) (properties_in x) in
    lift c.args.calls.now c.args.read.now c.wrapper_parts.result (λ u. known f u (more_infos x no_infos)) (absent_tree_of c.args.absent.now)
    c.args.start c.wrapper_parts.ensures
    (arm_repeater c.args.calls.now c.args.read.now c.args.start (tree_of c.deref.result.now) (absent_tree_of c.args.absent.now) x f is
    c.in_ok-child-in-Repeater.ensures (ap (λ s. wrapper_properties s (properties_in x)) c.any_size.ensures))

pub parts_of_absent-returns-in_ok-child-in-Stopper : goal.parts_of_absent-returns-in_ok-child-in-Stopper
parts_of_absent-returns-in_ok-child-in-Stopper t c =
    let is = ap absent_tree_of c.in-Stopper.is ∙ tree_stopper c.in-Stopper.child ∙ ap (λ e. absent_stopper (tree_of e)) (sym c.deref-in-Stopper.ensures) in
    let x = info_of c.in_ok-child-in-Stopper.child in
    let f = wrapper_properties (size_of c.any_size-in-Stopper.result) (properties_in x) in
    lift c.args.calls.now c.args.read.now c.wrapper_parts-in-Stopper.result (λ u. known f u (more_infos x no_infos)) (absent_tree_of c.args.absent.now)
    c.args.start c.wrapper_parts-in-Stopper.ensures
    (arm_stopper c.args.calls.now c.args.read.now c.args.start (tree_of c.deref-in-Stopper.result.now) (absent_tree_of c.args.absent.now) x f is
    c.in_ok-child-in-Stopper.ensures (ap (λ s. wrapper_properties s (properties_in x)) c.any_size-in-Stopper.ensures))

pub parts_of_absent-returns-in-Clear : goal.parts_of_absent-returns-in-Clear
parts_of_absent-returns-in-Clear t c =
    λ groups knows fits.
    c.no_parts.ensures (absent_tree_of c.args.absent.now)
    ∙ arm_clear c.args.calls.now c.args.read.now c.args.start (absent_tree_of c.args.absent.now) (size_of c.any_size-in-Clear.result) (ap absent_tree_of c.in-Clear.is ∙ tree_clear)
    c.any_size-in-Clear.ensures groups knows fits

pub parts_of_absent-returns-in_ok-exp-in-Expression : goal.parts_of_absent-returns-in_ok-exp-in-Expression
parts_of_absent-returns-in_ok-exp-in-Expression t c =
    let is =
    ap absent_tree_of c.in-Expression.is ∙ tree_expression c.in-Expression.absent c.in-Expression.exp
    ∙ ap₂ (λ x y. absent_expression (tree_of x) (tree_of y)) (sym c.deref-in-Expression.ensures) (sym c.deref-in-Expression-2.ensures) in
    let x = info_of c.in_ok-absent-in-Expression.absent in
    let y = info_of c.in_ok-exp-in-Expression.exp in
    let f = absent_expression_properties (size_of c.any_size-in-Expression.result) (properties_in x) (properties_in y) in
    lift c.args.calls.now c.args.read.now c.absent_expression_parts.result (λ u. known f u (more_infos x (more_infos y no_infos)))
    (absent_tree_of c.args.absent.now) c.args.start c.absent_expression_parts.ensures
    (arm_expression c.args.calls.now c.args.read.now c.args.start c.end_group.result (tree_of c.deref-in-Expression.result.now)
    (tree_of c.deref-in-Expression-2.result.now) (absent_tree_of c.args.absent.now) x y f is c.in_ok-absent-in-Expression.ensures c.end_group.ensures
    c.in_ok-exp-in-Expression.ensures (ap (λ s. absent_expression_properties s (properties_in x) (properties_in y)) c.any_size-in-Expression.ensures))

pub parts_of_unresolved-returns-in-Backref : goal.parts_of_unresolved-returns-in-Backref
parts_of_unresolved-returns-in-Backref t c =
    λ position groups knows fits.
    c.no_parts.ensures (ast_tree_of c.args.node.now position)
    ∙ arm_ast_backref c.args.calls.now c.args.read.now c.args.start (target_of c.in-Backref.target) c.in-Backref.casei
    c.in-Backref.relative_recursion_level position (ast_tree_of c.args.node.now position) (size_of c.any_size.result)
    (ap (λ n. ast_tree_of n position) c.in-Backref.is ∙ tree_ast_backref c.in-Backref.target c.in-Backref.casei c.in-Backref.relative_recursion_level position)
    c.any_size.ensures groups knows fits

pub parts_of_unresolved-returns-in-SubroutineCall : goal.parts_of_unresolved-returns-in-SubroutineCall
parts_of_unresolved-returns-in-SubroutineCall t c =
    λ position groups knows fits.
    c.no_parts-in-SubroutineCall.ensures (ast_tree_of c.args.node.now position)
    ∙ arm_ast_call c.args.calls.now c.args.read.now c.args.start (target_of c.in-SubroutineCall.field-0) position
    (ast_tree_of c.args.node.now position) (size_of c.any_size-in-SubroutineCall.result)
    (ap (λ n. ast_tree_of n position) c.in-SubroutineCall.is ∙ tree_ast_call c.in-SubroutineCall.field-0 position) c.any_size-in-SubroutineCall.ensures groups knows fits

pub parts_of_unresolved-returns-in-BackrefExistsCondition : goal.parts_of_unresolved-returns-in-BackrefExistsCondition
parts_of_unresolved-returns-in-BackrefExistsCondition t c =
    λ position groups knows fits.
    c.no_parts-in-BackrefExistsCondition.ensures (ast_tree_of c.args.node.now position)
    ∙ arm_ast_condition c.args.calls.now c.args.read.now c.args.start (target_of c.in-BackrefExistsCondition.target)
    c.in-BackrefExistsCondition.relative_recursion_level position (ast_tree_of c.args.node.now position) (size_of c.always-in-BackrefExistsCondition.result)
    (ap (λ n. ast_tree_of n position) c.in-BackrefExistsCondition.is
    ∙ tree_ast_condition c.in-BackrefExistsCondition.target c.in-BackrefExistsCondition.relative_recursion_level position)
    c.always-in-BackrefExistsCondition.ensures groups knows fits

pub parts_of_unresolved-returns-in_ok-child-in-AstGroup : goal.parts_of_unresolved-returns-in_ok-child-in-AstGroup
parts_of_unresolved-returns-in_ok-child-in-AstGroup t c =
    let name = option_map (λ s. chars (string_bytes s)) c.in-AstGroup.name in
    let x = info_of c.in_ok-child-in-AstGroup.child in
    let f = wrapper_properties (size_of c.always.result) (properties_in x) in
    over c.wrapper_parts.result
    (λ p position. IsAnalysisOf c.args.calls.now c.args.read.now c.args.start (ast_tree_of c.args.node.now position) (node_of p (ast_tree_of c.args.node.now position)))
    (λ position.
    let is =
    ap (λ n. ast_tree_of n position) c.in-AstGroup.is ∙ tree_ast_group c.in-AstGroup.name c.in-AstGroup.inner position
    ∙ ap (λ e. ast_group name (tree_of e) position) (sym c.deref.ensures) in
    lift c.args.calls.now c.args.read.now c.wrapper_parts.result (λ u. known f u (more_infos x no_infos))
    (ast_tree_of c.args.node.now position) c.args.start c.wrapper_parts.ensures
    (arm_ast_group c.args.calls.now c.args.read.now c.args.start name (tree_of c.deref.result.now) position (ast_tree_of c.args.node.now position) x f is
    c.in_ok-child-in-AstGroup.ensures (ap (λ s. wrapper_properties s (properties_in x)) c.always.ensures)))

pub analyze_row-loop-part-init : goal.analyze_row-loop-part-init
analyze_row-loop-part-init t c =
    subst (λ xs. AreAnalysesOf c.args.calls.now c.args.read.now c.args.start no_trees (infos (map info_of xs)) c.args.start)
    (sym c.new-infos.ensures.items) (row_begins c.args.calls.now c.args.read.now c.args.start)

pub analyze_row-loop-part-preserved : goal.analyze_row-loop-part-preserved
analyze_row-loop-part-preserved t c =
    row_walk c.args.calls.now c.args.read.now c.args.start c.loop-part.end c.end_group-end.result c.args.parts.now c.loop-part.part-index
    c.part-item.result c.loop-part.infos.items c.push.new.self.items c.in_ok-info.info c.loop-part-test.true c.part-item.is
    c.loop-part.invariant c.in_ok-info.ensures c.end_group-end.ensures c.in_ok-push.ensures.items

pub analyze_row-returns : goal.analyze_row-returns
analyze_row-returns t c =
    subst
    (λ es. AreAnalysesOf c.args.calls.now c.args.read.now c.args.start (trees (map tree_of es)) (infos (map info_of c.loop-part.infos.items)) c.loop-part.end)
    (take_all c.loop-part.part-index c.args.parts.now c.loop-part-test.false) c.loop-part.invariant
