use Rattle.std.proofs.Common.{◌≡◌, ◌++◌, ◌==◌, IfOk, length, map, ap, sym, subst, ◌∙◌, arith}
use Rattle.std.proofs.lemmas.Iterator.Consumers.{YieldsList-turn}
use Rattle.fancy_regex_tree.specs.Tree.{tree_of, trees}
use Rattle.fancy_regex_tree.specs.Traversal.{rest, tree_at}
use Rattle.fancy_regex_meaning.specs.Sizes.{size_with}
use Rattle.fancy_regex_analysis.specs.LeftRecursion.{first_calls_in_row}
use Rattle.fancy_regex_info.specs.Views.{size_at}
use Rattle.fancy_regex_analysis.proofs.ChildLemmas.{yields_children, child_is_smaller, item_is_smaller}
use Rattle.fancy_regex_analysis.proofs.FlowLemmas.{each_starts}
use Rattle.fancy_regex_analysis.proofs.LeftRecursionLemmas.{row_goes_past, row_stops, row_is_over, is_zero, not_zero}
use Rattle.fancy_regex_analysis.proofs.left_recursion.+starts.Goals as goal

pub add_row_starts-returns-then-size_in-gt0 : goal.add_row_starts-returns-then-size_in-gt0
add_row_starts-returns-then-size_in-gt0 t c =
    let S = size_with (size_at c.args.sizes.now) in
    row_stops S (c.args.calls.now.items ++ first_calls_in_row S (trees (map tree_of c.args.parts.now))) c.loop-part.calls.items
    c.add_first_calls.new.calls.items c.args.parts.now c.loop-part.part-index c.part-item.result c.loop-part-test.true c.part-item.is
    c.loop-part.invariant c.in_ok-add_first_calls.ensures
    (ap (λ s. s.least == 0) (sym c.size_in.ensures) ∙ not_zero c.size_in.result.least (omega arith))

pub add_row_starts-loop-part-preserved : goal.add_row_starts-loop-part-preserved
add_row_starts-loop-part-preserved t c =
    let S = size_with (size_at c.args.sizes.now) in
    row_goes_past S (c.args.calls.now.items ++ first_calls_in_row S (trees (map tree_of c.args.parts.now))) c.loop-part.calls.items
    c.add_first_calls.new.calls.items c.args.parts.now c.loop-part.part-index c.part-item.result c.loop-part-test.true c.part-item.is
    c.loop-part.invariant c.in_ok-add_first_calls.ensures
    (ap (λ s. s.least == 0) (sym c.size_in.ensures) ∙ is_zero c.size_in.result.least (omega arith))

pub add_row_starts-returns : goal.add_row_starts-returns
add_row_starts-returns t c =
    let S = size_with (size_at c.args.sizes.now) in
    row_is_over S (c.args.calls.now.items ++ first_calls_in_row S (trees (map tree_of c.args.parts.now))) c.loop-part.calls.items
    c.args.parts.now c.loop-part.part-index c.loop-part-test.false c.loop-part.invariant

pub add_first_calls-returns-in-Branches : goal.add_first_calls-returns-in-Branches
add_first_calls-returns-in-Branches t c =
    let S = size_with (size_at c.args.sizes.now) in
    subst (λ ks. IfOk c.add_child_starts.result (λ _. c.add_child_starts.new.calls.items ≡ c.args.calls.now.items ++ ks))
    (sym (each_starts S c.flow_of.result (tree_of c.args.expr.now) c.flow_of.ensures c.in-Branches.is)) c.add_child_starts.ensures

pub add_child_starts-add_first_calls-requires : goal.add_child_starts-add_first_calls-requires
add_child_starts-add_first_calls-requires t c =
    let root = tree_of c.args.node.now in
    let e = yields_children c.into_iter-child-iterator.result root
    (ap (λ s. map tree_of (rest s)) c.into_iter-child-iterator.ensures.into_iter_gives ∙ c.subtrees_iter-child-items.ensures) in
    let turn = YieldsList-turn e c.loop-child.yielded _ c.loop-child.yielded_by _ c.next.new.self c.in-Some.child c.in-Some.is c.next.ensures.steps in
    let less = child_is_smaller root (tree_at c.in-Some.child) (length c.loop-child.yielded) turn.0 turn.1 in
    (omega (arith, less), tt)

pub add_row_starts-add_first_calls-requires : goal.add_row_starts-add_first_calls-requires
add_row_starts-add_first_calls-requires t c =
    let less = item_is_smaller tree_of c.args.parts.now c.part-item.result c.loop-part.part-index c.loop-part-test.true c.part-item.is in
    (omega (arith, less), tt)
