use Rattle.std.proofs.Common.{map, ap, sym, ◌∙◌, ◌++◌}
use Rattle.fancy_regex_tree.specs.Tree.{tree_of}
use Rattle.fancy_regex_tree.specs.Traversal.{tree_at, nodes}
use Rattle.fancy_regex_tree.specs.ReferenceSummary.{back_group}
use Rattle.fancy_regex_info.proofs.NodeListLemmas.{node_adds, node_adds_none, nodes_end, references_of_nodes}
use Rattle.fancy_regex_info.proofs.references.add_references.Goals.{in-Some+in_ok-push, in_default}
use Rattle.fancy_regex_info.proofs.references.add_references.Goals as goal

pub loop-node-preserved : goal.loop-node-preserved
loop-node-preserved c =
    let nodes = c.deref-node-items.result.now in
    let i = c.loop-node.node-index in
    let x = c.node-item.result in
    let start = c.args.references.now.items in
    let now = c.loop-node.references.items in
    let next = c.match-back_group.references.items in
    elim c.match-back_group.branch [
      | in-Some+in_ok-push w ↦
          node_adds tree_at back_group start now next nodes i x w.in-Some.group c.loop-node-test.true c.node-item.is c.loop-node.invariant (sym w.in-Some.ensures)
          (ap (λ v. v.items) w.references-is ∙ w.in_ok-push.ensures.items)
      | in_default w ↦
          node_adds_none tree_at back_group start now next nodes i x c.loop-node-test.true c.node-item.is c.loop-node.invariant (sym w.in_default.ensures)
          (ap (λ v. v.items) w.references-is)
    ]

pub returns : goal.returns
returns c =
    let start = c.args.references.now.items in
    nodes_end tree_at back_group start c.loop-node.references.items c.deref-node-items.result.now c.loop-node.node-index (nodes (tree_of c.args.expr.now))
    (ap (map tree_at) c.deref-node-items.ensures.value ∙ c.in_ok-nodes.ensures) c.loop-node-test.false c.loop-node.invariant
    ∙ ap (λ xs. start ++ xs) (sym (references_of_nodes (tree_of c.args.expr.now)))
