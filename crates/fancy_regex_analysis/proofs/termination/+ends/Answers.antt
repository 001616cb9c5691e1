use Rattle.std.proofs.Common.{length, map, ap, sym, ◌∙◌, arith}
use Rattle.std.specs.List.{list_all}
use Rattle.std.proofs.lemmas.Iterator.Consumers.{YieldsList-turn, YieldsList-end}
use Rattle.std.proofs.lemmas.List.Folds.{list_all_at}
use Rattle.fancy_regex_tree.specs.Tree.{tree_of}
use Rattle.fancy_regex_tree.specs.Traversal.{subtrees, rest, tree_at}
use Rattle.fancy_regex_meaning.specs.Termination.{can_end_with}
use Rattle.fancy_regex_analysis.specs.TerminationFixpoint.{ends_in}
use Rattle.fancy_regex_analysis.proofs.ChildLemmas.{yields_children, child_is_smaller, item_is_smaller}
use Rattle.fancy_regex_analysis.proofs.FlowLemmas.{each_ends}
use Rattle.fancy_regex_analysis.proofs.TerminationLemmas.{some_holds, some_goes_on, some_fails}
use Rattle.fancy_regex_analysis.proofs.termination.+ends.Goals as goal

pub some_can_end_in-returns-then-can_end_in : goal.some_can_end_in-returns-then-can_end_in
some_can_end_in-returns-then-can_end_in t c =
    some_holds (ends_in c.args.ends.now) c.args.branches.now c.loop-branch.branch-index c.branch-item.result c.loop-branch-test.true
    c.branch-item.is c.loop-branch.invariant (sym c.can_end_in.ensures ∙ c.if-can_end_in.true)

pub some_can_end_in-loop-branch-preserved : goal.some_can_end_in-loop-branch-preserved
some_can_end_in-loop-branch-preserved t c =
    some_goes_on (ends_in c.args.ends.now) c.args.branches.now c.loop-branch.branch-index c.branch-item.result c.loop-branch-test.true
    c.branch-item.is c.loop-branch.invariant (sym c.can_end_in.ensures ∙ c.if-can_end_in.false)

pub some_can_end_in-returns : goal.some_can_end_in-returns
some_can_end_in-returns t c =
    some_fails (ends_in c.args.ends.now) c.args.branches.now c.loop-branch.branch-index c.loop-branch-test.false c.loop-branch.invariant

pub can_end_in-returns-in-Row : goal.can_end_in-returns-in-Row
can_end_in-returns-in-Row t c =
    c.all_children_can_end.ensures ∙ sym (each_ends (ends_in c.args.ends.now) c.flow_of.result (tree_of c.args.expr.now) c.flow_of.ensures c.in-Row.is)

pub all_children_can_end-can_end_in-requires : goal.all_children_can_end-can_end_in-requires
all_children_can_end-can_end_in-requires t c =
    let root = tree_of c.args.node.now in
    let e = yields_children c.into_iter-child-iterator.result root
    (ap (λ s. map tree_of (rest s)) c.into_iter-child-iterator.ensures.into_iter_gives ∙ c.subtrees_iter-child-items.ensures) in
    let turn = YieldsList-turn e c.loop-child.yielded _ c.loop-child.yielded_by _ c.next.new.self c.in-Some.child c.in-Some.is c.next.ensures.steps in
    let less = child_is_smaller root (tree_at c.in-Some.child) (length c.loop-child.yielded) turn.0 turn.1 in
    (omega (arith, less), tt)

pub all_children_can_end-returns-then-not-can_end_in : goal.all_children_can_end-returns-then-not-can_end_in
all_children_can_end-returns-then-not-can_end_in t c =
    let root = tree_of c.args.node.now in
    let can = can_end_with (ends_in c.args.ends.now) in
    let e = yields_children c.into_iter-child-iterator.result root
    (ap (λ s. map tree_of (rest s)) c.into_iter-child-iterator.ensures.into_iter_gives ∙ c.subtrees_iter-child-items.ensures) in
    let turn = YieldsList-turn e c.loop-child.yielded _ c.loop-child.yielded_by _ c.next.new.self c.in-Some.child c.in-Some.is c.next.ensures.steps in
    sym (list_all_at can (subtrees root) (length c.loop-child.yielded) (tree_at c.in-Some.child) turn.0
    (ap can (sym turn.1) ∙ sym c.can_end_in.ensures ∙ c.if-not-can_end_in.true))

pub all_children_can_end-returns : goal.all_children_can_end-returns
all_children_can_end-returns t c =
    let root = tree_of c.args.node.now in
    let e = yields_children c.into_iter-child-iterator.result root
    (ap (λ s. map tree_of (rest s)) c.into_iter-child-iterator.ensures.into_iter_gives ∙ c.subtrees_iter-child-items.ensures) in
    let end = YieldsList-end e c.loop-child.yielded _ c.loop-child.yielded_by _ c.next.new.self c.in-None.is c.next.ensures.steps in
    sym c.loop-child.invariant ∙ ap (list_all (can_end_with (ends_in c.args.ends.now))) end.0

pub some_can_end_in-can_end_in-requires : goal.some_can_end_in-can_end_in-requires
some_can_end_in-can_end_in-requires t c =
    let less = item_is_smaller tree_of c.args.branches.now c.branch-item.result c.loop-branch.branch-index c.loop-branch-test.true c.branch-item.is in
    (omega (arith, less), tt)
