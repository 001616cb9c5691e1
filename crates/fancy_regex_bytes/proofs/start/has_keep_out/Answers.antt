use Rattle.std.proofs.Common.{map, ap, sym, ◌∙◌}
use Rattle.std.specs.List.{list_any}
use Rattle.fancy_regex_tree.specs.Traversal.{tree_at}
use Rattle.fancy_regex_bytes.specs.StartBytes.{is_keep_out}
use Rattle.fancy_regex_bytes.proofs.StartLemmas.{node_passes}
use Rattle.fancy_regex_bytes.proofs.start.has_keep_out.Goals as goal

pub returns-then-is_keep_out : goal.returns-then-is_keep_out
returns-then-is_keep_out c =
    sym (sym (ap (list_any is_keep_out) (ap (map tree_at) c.deref-node-items.ensures.value ∙ c.in_ok-nodes.ensures))
    ∙ node_passes tree_at is_keep_out c.deref-node-items.result.now c.loop-node.node-index c.node-item.result c.loop-node-test.true c.node-item.is
    (sym c.is_keep_out.ensures ∙ c.if-is_keep_out.true))
