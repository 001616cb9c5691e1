use Rattle.std.proofs.Common.{arith}
use Rattle.fancy_regex_linear.proofs.MarkLemmas.{written_back, follows_none, follows_step, follows_all}
use Rattle.fancy_regex_linear.proofs.calls.called_from.Goals as goal

pub loop-group-init : goal.loop-group-init
loop-group-init c = follows_none c.args.bodies.now c.args.marks.now c.in_ok-next.next.items (c.in_ok-next.ensures.items_if_clones_equal (λ y e. e))

pub loop-group-preserved : goal.loop-group-preserved
loop-group-preserved c =
    let back = written_back c.mark_if.new.marks c.loop-group.next.items c.loop-group.next.len (omega (arith, c.mark_if.ensures.kept.same, c.deref_mut.ensures.len, c.loop-group.next.ok.0)) (omega (arith, c.loop-group.next.ok.0)) in
    follows_step c.args.bodies.now c.args.marks.now c.loop-group.next.items c.deref_mut.result.now c.mark_if.new.marks _ c.loop-group.group
    c.index-bodies-group.result c.is_set-is_called.result c.loop-group-test.true c.index-bodies-group.is c.is_set-is_called.ensures c.deref_mut.ensures.value
    back c.mark_if.ensures.kept c.mark_if.ensures.all c.mark_if.ensures.only c.loop-group.invariant

pub returns-clause-follows : goal.returns-clause-follows
returns-clause-follows c =
    follows_all c.args.bodies.now c.args.marks.now c.loop-group.next.items c.loop-group.group c.loop-group.invariant.long c.loop-group-test.false
    c.loop-group.invariant.all
