use Rattle.std.proofs.Common.{map, ap, sym, ◌∙◌}
use Rattle.std.specs.List.{list_any}
use Rattle.fancy_regex_tree.specs.Traversal.{tree_at}
use Rattle.fancy_regex_bytes.proofs.StartLemmas.{node_passes}
use Rattle.fancy_regex_program.specs.BodyStarts.{is_reversed}
use Rattle.fancy_regex_program.proofs.body_starts.has_reversed_repeat.Goals as goal

pub returns-then-is_reversed : goal.returns-then-is_reversed
returns-then-is_reversed c =
    sym (sym (ap (list_any is_reversed) (ap (map tree_at) c.deref-node-items.ensures.value ∙ c.in_ok-nodes.ensures))
    ∙ node_passes tree_at is_reversed c.deref-node-items.result.now c.loop-node.node-index c.node-item.result c.loop-node-test.true c.node-item.is
    (sym c.is_reversed.ensures ∙ c.if-is_reversed.true))
