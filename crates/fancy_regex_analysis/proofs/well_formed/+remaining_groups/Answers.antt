use Rattle.std.proofs.Common.{◌≡◌, ◌+◌, ◌<◌, MatchOption, length, map, ap, sym, subst, ◌∙◌, arith}
use Rattle.std.specs.List.{sum_by}
use Rattle.std.proofs.lemmas.Iterator.Consumers.{YieldsList-so_far, YieldsList-turn, YieldsList-end}
use Rattle.fancy_regex_tree.specs.Tree.{tree_of}
use Rattle.fancy_regex_tree.specs.Traversal.{rest, tree_at}
use Rattle.fancy_regex_meaning.specs.Groups.{group_count}
use Rattle.fancy_regex_analysis.proofs.ChildLemmas.{yields_children, child_is_smaller, group_count_is, groups_within, own_within}
use Rattle.fancy_regex_analysis.proofs.well_formed.+remaining_groups.Goals as goal

pub remaining_groups-requires : goal.remaining_groups-requires
remaining_groups-requires t c =
    let root = tree_of c.args.expr.now in
    let e = yields_children c.into_iter-child-iterator.result root
    (ap (λ s. map tree_of (rest s)) c.into_iter-child-iterator.ensures.into_iter_gives ∙ c.subtrees_iter-child-items.ensures) in
    let turn = YieldsList-turn e c.loop-child.yielded _ c.loop-child.yielded_by _ c.next.new.self c.in-Some.child c.in-Some.is c.next.ensures.steps in
    let less = child_is_smaller root (tree_at c.in-Some.child) (length c.loop-child.yielded) turn.0 turn.1 in
    (omega (arith, less), tt)

pub returns-in_err-left-2 : goal.returns-in_err-left-2
returns-in_err-left-2 t c =
    let root = tree_of c.args.expr.now in
    let e = yields_children c.into_iter-child-iterator.result root
    (ap (λ s. map tree_of (rest s)) c.into_iter-child-iterator.ensures.into_iter_gives ∙ c.subtrees_iter-child-items.ensures) in
    let turn = YieldsList-turn e c.loop-child.yielded _ c.loop-child.yielded_by _ c.next.new.self c.in-Some.child c.in-Some.is c.next.ensures.steps in
    let before = ap (sum_by group_count) (YieldsList-so_far e c.loop-child.yielded _ c.loop-child.yielded_by) in
    let within = groups_within root (tree_at c.in-Some.child) (length c.loop-child.yielded) turn.0 turn.1 in
    let few : c.args.left < group_count root = omega (arith, within, before, c.in_err-left-2.ensures, c.loop-child.invariant, c.in_ok-left.ensures) in
    subst (λ r. MatchOption r (c.args.left < group_count root) (λ rest. rest + group_count root ≡ c.args.left)) (sym c.from_residual-in_err-left-2.ensures) few

pub returns-in_err-left : goal.returns-in_err-left
returns-in_err-left t c =
    let root = tree_of c.args.expr.now in
    let few : c.args.left < group_count root = omega (arith, own_within root, c.in_err-left.ensures) in
    subst (λ r. MatchOption r (c.args.left < group_count root) (λ rest. rest + group_count root ≡ c.args.left)) (sym c.from_residual.ensures) few

pub returns : goal.returns
returns t c =
    let root = tree_of c.args.expr.now in
    let e = yields_children c.into_iter-child-iterator.result root
    (ap (λ s. map tree_of (rest s)) c.into_iter-child-iterator.ensures.into_iter_gives ∙ c.subtrees_iter-child-items.ensures) in
    let end = YieldsList-end e c.loop-child.yielded _ c.loop-child.yielded_by _ c.next.new.self c.in-None.is c.next.ensures.steps in
    omega (arith, ap (sum_by group_count) end.0, group_count_is root, c.loop-child.invariant, c.in_ok-left.ensures)
