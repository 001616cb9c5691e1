use Rattle.std.proofs.Common.{◌==◌, ap, sym, ◌∙◌}
use Rattle.fancy_regex_tree.specs.Tree.{tree_of}
use Rattle.fancy_regex_info.specs.declared.info.Info.{out-Info}
use Rattle.fancy_regex_linear.specs.Facts.{facts_by}
use Rattle.fancy_regex_linear.proofs.FactCodeLemmas.{parts_of, facts_is, no_children, parts_more}
use Rattle.fancy_regex_linear.proofs.facts.+facts.Goals as goal

pub facts_of-returns : goal.facts_of-returns
facts_of-returns t c =
    let calls = c.args.calls.now in
    let i = c.args.info.now in
    let by = facts_by calls (tree_of (out-Info i).expr.now) ((out-Info i).min_size == 0) in
    c.facts_of_node.ensures ∙ ap by (c.facts_of_row-parts.ensures ∙ ap (parts_of calls) c.deref.ensures.value) ∙ sym (facts_is calls i)

pub facts_of_row-loop-child-init : goal.facts_of_row-loop-child-init
facts_of_row-loop-child-init t c = c.no_parts-parts.ensures ∙ no_children c.args.calls.now

pub facts_of_row-loop-child-preserved : goal.facts_of_row-loop-child-preserved
facts_of_row-loop-child-preserved t c =
    parts_more c.args.calls.now c.args.children.now c.loop-child.child-index c.child-item.result c.loop-child.parts c.with_part-parts.result c.facts_of-part.result
    c.loop-child-test.true c.child-item.is c.loop-child.invariant c.facts_of-part.ensures c.with_part-parts.ensures
