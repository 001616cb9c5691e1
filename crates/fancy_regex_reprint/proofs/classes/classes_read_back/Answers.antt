use Rattle.std.proofs.Common.{map, ap, ◌∙◌, arith}
use Rattle.fancy_regex_tree.specs.Traversal.{tree_at}
use Rattle.fancy_regex_reprint.proofs.ClassNodes.{class_next, class_stop, class_end}
use Rattle.fancy_regex_reprint.proofs.classes.classes_read_back.Goals as goal

pub returns-then-not-branch : goal.returns-then-not-branch
returns-then-not-branch c =
    class_stop c.args.expr.now c.deref-node-items.result.now c.loop-node.node-index c.node-item.result c.in_ok-class_reads_back.field-0
    c.requires (ap (map tree_at) c.deref-node-items.ensures.value ∙ c.in_ok-nodes.ensures) (omega arith) c.node-item.is c.in_ok-class_reads_back.ensures
    c.if-not-branch.true

pub loop-node-preserved : goal.loop-node-preserved
loop-node-preserved c =
    class_next c.deref-node-items.result.now c.loop-node.node-index c.node-item.result c.in_ok-class_reads_back.field-0
    (omega arith) c.node-item.is c.in_ok-class_reads_back.ensures c.if-not-branch.false c.loop-node.invariant

pub returns : goal.returns
returns c =
    class_end c.args.expr.now c.deref-node-items.result.now c.loop-node.node-index c.requires
    (ap (map tree_at) c.deref-node-items.ensures.value ∙ c.in_ok-nodes.ensures) (omega arith) c.loop-node.invariant
