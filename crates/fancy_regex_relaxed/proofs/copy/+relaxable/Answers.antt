use Rattle.fancy_regex_relaxed.proofs.CopyLemmas.{relaxable_step, relaxable_whole}
use Rattle.fancy_regex_relaxed.proofs.copy.+relaxable.Goals as goal

pub are_relaxable-loop-child-preserved : goal.are_relaxable-loop-child-preserved
are_relaxable-loop-child-preserved t c =
    relaxable_step c.args.children.now c.loop-child.child-index c.child-item.result c.loop-child-test.true c.child-item.is c.loop-child.invariant
    (c.is_relaxable.ensures c.if-not-is_relaxable.false)

pub are_relaxable-returns : goal.are_relaxable-returns
are_relaxable-returns t c = λ yes. relaxable_whole c.args.children.now c.loop-child.child-index c.loop-child-test.false c.loop-child.invariant
