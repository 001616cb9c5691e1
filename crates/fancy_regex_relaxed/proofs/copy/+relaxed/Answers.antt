use Rattle.std.proofs.Common.{◌∙◌, ap, map}
use Rattle.fancy_regex_tree.specs.Tree.{tree_of}
use Rattle.fancy_regex_relaxed.proofs.CopyLemmas.{row_step, row_whole}
use Rattle.fancy_regex_relaxed.proofs.copy.+relaxed.Goals as goal

pub relaxed_row-loop-child-preserved : goal.relaxed_row-loop-child-preserved
relaxed_row-loop-child-preserved t c =
    ap (map tree_of) c.in_ok-push.ensures.items
    ∙ row_step c.args.children.now c.loop-child.row.items c.loop-child.child-index c.child-item.result c.in_ok-relaxed.field-0 c.loop-child-test.true c.child-item.is
    c.loop-child.invariant c.in_ok-relaxed.ensures

pub relaxed_row-returns : goal.relaxed_row-returns
relaxed_row-returns t c = row_whole c.args.children.now c.loop-child.row.items c.loop-child.child-index c.loop-child-test.false c.loop-child.invariant
