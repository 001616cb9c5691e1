use Rattle.std.proofs.Common.{◌≡◌, false, length, map, ap, sym, subst, ◌∙◌, arith}
use Rattle.fancy_regex_tree.specs.Tree.{Tree, tree_of}
use Rattle.fancy_regex_meaning.specs.Sizes.{size_with}
use Rattle.fancy_regex_analysis.specs.TerminationFixpoint.{never_ends}
use Rattle.fancy_regex_info.specs.Infos.{info_of}
use Rattle.fancy_regex_info.specs.AnalysisRelations.{AreCallSizes}
use Rattle.fancy_regex_info.specs.Views.{size_at, body_tree}
use Rattle.fancy_regex_analysis.specs.NodeErrors.{some_node, is_invalid_node}
use Rattle.fancy_regex_analysis.specs.UnsupportedParts.{is_unsupported}
use Rattle.fancy_regex_analysis.specs.EmittedParts.{some_emitted, IsWhole}
use Rattle.fancy_regex_analysis.specs.declared.emitted.Inside.{Inside}
use Rattle.fancy_regex_analysis.proofs.AnalysisErrorLemmas.{IsMemoryOrHolds, no_invalid_node, reversed_error_holds, node_error_holds, root_error_holds, start_error_holds, part_error_holds, none_passed, no_stopped_part}
use Rattle.fancy_regex_analysis.proofs.PartErrorLemmas.{gives}
use Rattle.fancy_regex_info.proofs.AnalyzeTreeLemmas.{length_trees}
use Rattle.fancy_regex_analysis.proofs.analysis.analyze.Goals as goal

pub returns-then-has_reversed_bounds-clause-refused : goal.returns-then-has_reversed_bounds-clause-refused
returns-then-has_reversed_bounds-clause-refused c =
    reversed_error_holds c.args.context c.args.tree.now.named_backref_only (tree_of c.args.tree.now.expr) (sym c.has_reversed_bounds.ensures ∙ c.if-has_reversed_bounds.true)

pub returns-in_err-check_references-clause-refused : goal.returns-in_err-check_references-clause-refused
returns-in_err-check_references-clause-refused c =
    let e = c.in_err-check_references.field-0.0 in
    let t = tree_of c.args.tree.now.expr in
    let mark = c.args.tree.now.named_backref_only in
    let gs = c.in_ok-groups.groups in
    gives c.from_residual-in_err-check_references.result e (IsMemoryOrHolds c.args.context mark t) c.from_residual-in_err-check_references.ensures.1
    (node_error_holds c.args.context mark t c.len.result e
    (omega (arith, c.len.ensures, gs.ok.0, length_trees gs.items, ap length c.in_ok-groups.ensures)) c.in_err-check_references.ensures.refused)

pub analyze_tree-requires-clause-known : goal.analyze_tree-requires-clause-known
analyze_tree-requires-clause-known c =
    subst (λ s. AreCallSizes (map body_tree c.deref-2.result.now) s) (sym c.deref-3.ensures.value)
    (subst (λ ts. AreCallSizes ts c.in_ok-sizes.sizes.items) (sym (ap (map body_tree) c.deref-2.ensures.value ∙ c.in_ok-groups.ensures)) c.in_ok-sizes.ensures)

pub returns-in_err-check_root-clause-refused : goal.returns-in_err-check_root-clause-refused
returns-in_err-check_root-clause-refused c =
    let e = c.in_err-check_root.field-0.0 in
    let t = tree_of c.args.tree.now.expr in
    let mark = c.args.tree.now.named_backref_only in
    gives c.from_residual-in_err-check_root.result e (IsMemoryOrHolds c.args.context mark t) c.from_residual-in_err-check_root.ensures.1
    (root_error_holds c.args.context mark t (info_of c.in_ok-info.info) e c.in_ok-info.ensures c.in_err-check_root.ensures.refused)

pub returns-in_err-check_left_recursion-clause-refused : goal.returns-in_err-check_left_recursion-clause-refused
returns-in_err-check_left_recursion-clause-refused c =
    let e = c.in_err-check_left_recursion.field-0.0 in
    let t = tree_of c.args.tree.now.expr in
    let mark = c.args.tree.now.named_backref_only in
    let gs = c.deref-4.result.now in
    let sizes = c.deref-5.result.now in
    let known : AreCallSizes (map body_tree gs) sizes =
    subst (λ s. AreCallSizes (map body_tree gs) s) (sym c.deref-5.ensures.value)
    (subst (λ ts. AreCallSizes ts c.in_ok-sizes.sizes.items) (sym (ap (map body_tree) c.deref-4.ensures.value ∙ c.in_ok-groups.ensures)) c.in_ok-sizes.ensures) in
    gives c.from_residual-in_err-check_left_recursion.result e (IsMemoryOrHolds c.args.context mark t) c.from_residual-in_err-check_left_recursion.ensures.1
    (start_error_holds c.args.context mark t (map body_tree gs) sizes e (ap (map body_tree) c.deref-4.ensures.value ∙ c.in_ok-groups.ensures) known
    c.in_err-check_left_recursion.ensures.refused)

pub returns-in_err-check_emitted_parts-clause-refused : goal.returns-in_err-check_emitted_parts-clause-refused
returns-in_err-check_emitted_parts-clause-refused c =
    let e = c.in_err-check_emitted_parts.field-0.0 in
    let t = tree_of c.args.tree.now.expr in
    let mark = c.args.tree.now.named_backref_only in
    let gs = c.deref-6.result.now in
    let sizes = c.deref-7.result.now in
    let known : AreCallSizes (map body_tree gs) sizes =
    subst (λ s. AreCallSizes (map body_tree gs) s) (sym c.deref-7.ensures.value)
    (subst (λ ts. AreCallSizes ts c.in_ok-sizes.sizes.items) (sym (ap (map body_tree) c.deref-6.ensures.value ∙ c.in_ok-groups.ensures)) c.in_ok-sizes.ensures) in
    gives c.from_residual-in_err-check_emitted_parts.result e (IsMemoryOrHolds c.args.context mark t) c.from_residual-in_err-check_emitted_parts.ensures.1
    (part_error_holds c.args.context mark t (map body_tree gs) sizes e (ap (map body_tree) c.deref-6.ensures.value ∙ c.in_ok-groups.ensures) known
    c.in_err-check_emitted_parts.ensures.refused)

pub returns-clause-complete : goal.returns-clause-complete
returns-clause-complete c =
    let t = tree_of c.args.tree.now.expr in
    let mark = c.args.tree.now.named_backref_only in
    let own = c.in_ok-groups.groups in
    let gs = c.deref-4.result.now in
    let sizes = c.deref-5.result.now in
    let known : AreCallSizes (map body_tree gs) sizes =
    subst (λ s. AreCallSizes (map body_tree gs) s) (sym c.deref-5.ensures.value)
    (subst (λ ts. AreCallSizes ts c.in_ok-sizes.sizes.items) (sym (ap (map body_tree) c.deref-4.ensures.value ∙ c.in_ok-groups.ensures)) c.in_ok-sizes.ensures) in
    none_passed c.args.context mark t (map body_tree gs) sizes (info_of c.in_ok-info.info) c.len.result
    (ap (map body_tree) c.deref-4.ensures.value ∙ c.in_ok-groups.ensures) known c.in_ok-info.ensures
    (omega (arith, c.len.ensures, own.ok.0, length_trees own.items, ap length c.in_ok-groups.ensures))
    c.if-tree.false
    (no_invalid_node c.len.result t (sym c.has_reversed_bounds.ensures ∙ c.if-has_reversed_bounds.false) c.in_ok-check_references.ensures.complete)
    (ap (λ g. never_ends (map body_tree g) t) (c.deref-4.ensures.value ∙ sym c.deref.ensures.value) ∙ c.in_ok-check_termination.ensures.complete)
    c.in_ok-check_root.ensures.complete
    (λ k lt. c.in_ok-check_left_recursion.ensures.complete k (omega (arith, lt, length_trees gs)))
    (subst (λ g. (i : Inside) (u : Tree) → IsWhole (map body_tree g) t i u → some_emitted (is_unsupported (size_with (size_at sizes))) i u ≡ false)
    (c.deref-6.ensures.value ∙ sym c.deref-4.ensures.value)
    (subst (λ s. (i : Inside) (u : Tree) → IsWhole (map body_tree c.deref-6.result.now) t i u → some_emitted (is_unsupported (size_with (size_at s))) i u ≡ false)
    (c.deref-7.ensures.value ∙ sym c.deref-5.ensures.value) c.in_ok-check_emitted_parts.ensures.complete))

pub returns-clause-nodes : goal.returns-clause-nodes
returns-clause-nodes c =
    let t = tree_of c.args.tree.now.expr in
    let own = c.in_ok-groups.groups in
    subst (λ n. some_node (is_invalid_node n) t ≡ false)
    (omega (arith, c.len.ensures, own.ok.0, length_trees own.items, ap length c.in_ok-groups.ensures))
    (no_invalid_node c.len.result t (sym c.has_reversed_bounds.ensures ∙ c.if-has_reversed_bounds.false) c.in_ok-check_references.ensures.complete)

pub returns-clause-parts : goal.returns-clause-parts
returns-clause-parts c =
    let t = tree_of c.args.tree.now.expr in
    let gs = c.deref-4.result.now in
    let sizes = c.deref-5.result.now in
    let known : AreCallSizes (map body_tree gs) sizes =
    subst (λ s. AreCallSizes (map body_tree gs) s) (sym c.deref-5.ensures.value)
    (subst (λ ts. AreCallSizes ts c.in_ok-sizes.sizes.items) (sym (ap (map body_tree) c.deref-4.ensures.value ∙ c.in_ok-groups.ensures)) c.in_ok-sizes.ensures) in
    no_stopped_part c.args.context c.args.tree.now.named_backref_only t (map body_tree gs) sizes
    (ap (map body_tree) c.deref-4.ensures.value ∙ c.in_ok-groups.ensures) known
    (subst (λ g. (i : Inside) (u : Tree) → IsWhole (map body_tree g) t i u → some_emitted (is_unsupported (size_with (size_at sizes))) i u ≡ false)
    (c.deref-6.ensures.value ∙ sym c.deref-4.ensures.value)
    (subst (λ s. (i : Inside) (u : Tree) → IsWhole (map body_tree c.deref-6.result.now) t i u → some_emitted (is_unsupported (size_with (size_at s))) i u ≡ false)
    (c.deref-7.ensures.value ∙ sym c.deref-5.ensures.value) c.in_ok-check_emitted_parts.ensures.complete))
