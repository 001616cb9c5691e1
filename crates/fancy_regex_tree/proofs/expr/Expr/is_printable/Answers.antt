use Rattle.std.proofs.Common.{map, ap, ◌∙◌, arith}
use Rattle.fancy_regex_tree.specs.Traversal.{tree_at}
use Rattle.fancy_regex_tree.proofs.PrintableNodes.{printable_next, printable_stop, printable_end}
use Rattle.fancy_regex_tree.proofs.expr.Expr.is_printable.Goals as goal

pub returns-then-not-branch : goal.returns-then-not-branch
returns-then-not-branch c =
    printable_stop c.args.self.now c.deref-node-items.result.now c.loop-node.node-index c.node-item.result c.in_ok-is_printable_node.field-0
    (ap (map tree_at) c.deref-node-items.ensures.value ∙ c.in_ok-nodes.ensures) (omega arith) c.node-item.is c.in_ok-is_printable_node.ensures c.if-not-branch.true

pub loop-node-preserved : goal.loop-node-preserved
loop-node-preserved c =
    printable_next c.deref-node-items.result.now c.loop-node.node-index c.node-item.result c.in_ok-is_printable_node.field-0
    (omega arith) c.node-item.is c.in_ok-is_printable_node.ensures c.if-not-branch.false c.loop-node.invariant

pub returns : goal.returns
returns c =
    printable_end c.args.self.now c.deref-node-items.result.now c.loop-node.node-index (ap (map tree_at) c.deref-node-items.ensures.value ∙ c.in_ok-nodes.ensures) (omega arith) c.loop-node.invariant
