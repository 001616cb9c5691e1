use Rattle.std.proofs.Common.{not, sym, ap, ◌∙◌}
use Rattle.fancy_regex_analysis.specs.Anchored.{begins_anchored, all_begin_anchored}
use Rattle.fancy_regex_analysis.proofs.AllLemmas.{all_fails, all_goes_on, all_holds}
use Rattle.fancy_regex_analysis.proofs.AnchorLemmas.{none_begin, more_begin, some_branches, no_branches}
use Rattle.fancy_regex_analysis.proofs.anchored.+anchored.Goals as goal

pub are_anchored-returns-then-not-is_anchored : goal.are_anchored-returns-then-not-is_anchored
are_anchored-returns-then-not-is_anchored t c =
    all_fails begins_anchored all_begin_anchored none_begin more_begin c.args.branches.now c.loop-branch.branch-index c.branch-item.result
    c.loop-branch-test.true c.branch-item.is c.loop-branch.invariant (sym c.is_anchored.ensures ∙ c.if-not-is_anchored.true)

pub are_anchored-loop-branch-preserved : goal.are_anchored-loop-branch-preserved
are_anchored-loop-branch-preserved t c =
    all_goes_on begins_anchored all_begin_anchored none_begin more_begin c.args.branches.now c.loop-branch.branch-index c.branch-item.result
    c.loop-branch-test.true c.branch-item.is c.loop-branch.invariant (sym c.is_anchored.ensures ∙ c.if-not-is_anchored.false)

pub are_anchored-returns : goal.are_anchored-returns
are_anchored-returns t c =
    all_holds begins_anchored all_begin_anchored none_begin more_begin c.args.branches.now c.loop-branch.branch-index c.loop-branch-test.false
    c.loop-branch.invariant

pub branches_are_anchored-returns-then-not-is_empty : goal.branches_are_anchored-returns-then-not-is_empty
branches_are_anchored-returns-then-not-is_empty t c =
    c.are_anchored.ensures ∙ sym (some_branches c.args.branches.now (sym c.is_empty.ensures ∙ c.if-not-is_empty.true))

pub branches_are_anchored-returns-else-not-is_empty : goal.branches_are_anchored-returns-else-not-is_empty
branches_are_anchored-returns-else-not-is_empty t c =
    ap not c.if-not-is_empty.false ∙ sym (no_branches c.args.branches.now (sym c.is_empty.ensures ∙ c.if-not-is_empty.false))
