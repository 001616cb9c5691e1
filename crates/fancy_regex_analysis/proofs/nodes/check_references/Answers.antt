use Rattle.std.proofs.Common.{map, ap, sym, ◌∙◌}
use Rattle.std.specs.List.{list_any}
use Rattle.fancy_regex_tree.specs.Tree.{tree_of}
use Rattle.fancy_regex_tree.specs.Traversal.{tree_at}
use Rattle.fancy_regex_analysis.specs.NodeErrors.{some_node, is_invalid_reference, shows}
use Rattle.fancy_regex_analysis.proofs.NodeListLemmas.{some_node_is, node_passes, node_fails, nodes_fail}
use Rattle.fancy_regex_analysis.proofs.PartErrorLemmas.{hands_on}
use Rattle.fancy_regex_analysis.proofs.nodes.check_references.Goals as goal

pub returns-in_err-check_node-clause-refused : goal.returns-in_err-check_node-clause-refused
returns-in_err-check_node-clause-refused c =
    let g = c.args.groups in
    let e = c.in_err-check_node.field-0.0 in
    let t = tree_of c.args.expr.now in
    let x = c.node-item.result in
    hands_on c.from_residual-in_err-check_node.result e (λ f. shows g f (tree_at x)) (λ f. some_node (shows g f) t) c.from_residual-in_err-check_node.ensures.1
    (λ h. some_node_is (shows g e) t
    ∙ sym (ap (list_any (shows g e)) (ap (map tree_at) c.deref-node-items.ensures.value ∙ c.in_ok-nodes.ensures))
    ∙ node_passes tree_at (shows g e) c.deref-node-items.result.now c.loop-node.node-index x c.loop-node-test.true c.node-item.is h)
    c.in_err-check_node.ensures.refused

pub loop-node-preserved : goal.loop-node-preserved
loop-node-preserved c =
    node_fails tree_at (is_invalid_reference c.args.groups) c.deref-node-items.result.now c.loop-node.node-index c.node-item.result c.loop-node-test.true
    c.node-item.is c.loop-node.invariant c.in_ok-check_node.ensures.complete

pub returns-clause-complete : goal.returns-clause-complete
returns-clause-complete c =
    let g = c.args.groups in
    some_node_is (is_invalid_reference g) (tree_of c.args.expr.now)
    ∙ sym (ap (list_any (is_invalid_reference g)) (ap (map tree_at) c.deref-node-items.ensures.value ∙ c.in_ok-nodes.ensures))
    ∙ nodes_fail tree_at (is_invalid_reference g) c.deref-node-items.result.now c.loop-node.node-index c.loop-node-test.false c.loop-node.invariant
