use Rattle.std.proofs.Common.{map, ap, sym, ◌∙◌}
use Rattle.std.specs.List.{list_any}
use Rattle.fancy_regex_tree.specs.Traversal.{tree_at}
use Rattle.fancy_regex_bytes.proofs.StartLemmas.{node_passes}
use Rattle.fancy_regex_desugar.specs.Delegates.{repeats_choices, may_explode}
use Rattle.fancy_regex_compiler.proofs.tail.may_explode.Goals as goal

pub returns-then-branch : goal.returns-then-branch
unfolding may_explode
returns-then-branch c =
    sym (sym (ap (list_any repeats_choices) (ap (map tree_at) c.deref-node-items.ensures.value ∙ c.in_ok-nodes.ensures))
    ∙ node_passes tree_at repeats_choices c.deref-node-items.result.now c.loop-node.node-index c.node-item.result c.loop-node-test.true c.node-item.is
    (sym c.in_ok-repeats_choices.ensures ∙ c.if-branch.true))
