use Rattle.std.proofs.Common.{map, [], ◌∷◌, ap, sym, ◌∙◌, ◌++◌}
use Rattle.std.proofs.lemmas.List.{map-append}
use Rattle.fancy_regex_info.specs.Views.{body_tree}
use Rattle.fancy_regex_tree.specs.Tree.{tree_of}
use Rattle.fancy_regex_tree.specs.Traversal.{tree_at, nodes}
use Rattle.fancy_regex_info.specs.GroupNodes.{group_body}
use Rattle.fancy_regex_info.proofs.NodeListLemmas.{node_adds, node_adds_none, nodes_end, bodies_of_nodes}
use Rattle.fancy_regex_info.proofs.bodies.add_bodies.Goals.{in-Some+in_ok-push, in_default}
use Rattle.fancy_regex_info.proofs.bodies.add_bodies.Goals as goal

pub loop-node-preserved : goal.loop-node-preserved
loop-node-preserved c =
    let nodes = c.deref-node-items.result.now in
    let i = c.loop-node.node-index in
    let x = c.node-item.result in
    let start = map body_tree c.args.groups.now.items in
    let now = map body_tree c.loop-node.groups.items in
    let next = map body_tree c.match-group_body.groups.items in
    elim c.match-group_body.branch [
      | in-Some+in_ok-push w ↦
          node_adds tree_at group_body start now next nodes i x (body_tree w.in-Some.body) c.loop-node-test.true c.node-item.is c.loop-node.invariant (sym w.in-Some.ensures)
          (ap (map body_tree) (ap (λ v. v.items) w.groups-is ∙ w.in_ok-push.ensures.items) ∙ map-append body_tree c.loop-node.groups.items (w.in-Some.body ∷ []))
      | in_default w ↦
          node_adds_none tree_at group_body start now next nodes i x c.loop-node-test.true c.node-item.is c.loop-node.invariant (sym w.in_default.ensures)
          (ap (λ v. map body_tree v.items) w.groups-is)
    ]

pub returns : goal.returns
returns c =
    let start = map body_tree c.args.groups.now.items in
    nodes_end tree_at group_body start (map body_tree c.loop-node.groups.items) c.deref-node-items.result.now c.loop-node.node-index (nodes (tree_of c.args.expr.now))
    (ap (map tree_at) c.deref-node-items.ensures.value ∙ c.in_ok-nodes.ensures) c.loop-node-test.false c.loop-node.invariant
    ∙ ap (λ xs. start ++ xs) (sym (bodies_of_nodes (tree_of c.args.expr.now)))
