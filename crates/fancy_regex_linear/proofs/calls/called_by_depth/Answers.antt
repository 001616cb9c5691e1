use Rattle.std.proofs.Common.{◌≡◌, ◌∙◌, ℕ, List, Bool, true, map, sym, subst, arith}
use Rattle.fancy_regex_tree.specs.Tree.{tree_of}
use Rattle.fancy_regex_info.specs.Views.{body_tree}
use Rattle.fancy_regex_info.specs.AnalysisRelations.{mark_at}
use Rattle.fancy_regex_linear.specs.CallMarks.{FollowsMarks, IsCalledFrom, marks_at, AreLevels}
use Rattle.fancy_regex_linear.proofs.MarkLemmas.{written_back, table_at, levels_first, levels_more}
use Rattle.fancy_regex_linear.proofs.calls.called_by_depth.Goals as goal

pub loop-depth-init : goal.loop-depth-init
loop-depth-init c =
    let back = written_back c.mark_calls.new.marks c.in_ok-first.first.items c.in_ok-first.first.len (omega (arith, c.mark_calls.ensures.kept.same, c.deref_mut.ensures.len, c.in_ok-first.first.ok.0)) (omega (arith, c.in_ok-first.first.ok.0)) in
    levels_first c.args.bodies.now (tree_of c.args.expr.now) _ c.new-all.result.items c.push.new.self.items c.deref_mut.result.now c.in_ok-first.first.items
    c.mark_calls.new.marks c.new-all.ensures.items c.in_ok-push.ensures.items back (c.in_ok-first.ensures.items_if_clones_equal (λ y e. e))
    c.deref_mut.ensures.value c.mark_calls.ensures.kept c.mark_calls.ensures.all c.mark_calls.ensures.only

pub loop-depth-preserved : goal.loop-depth-preserved
loop-depth-preserved c =
    let groups = map body_tree c.args.bodies.now in
    let table : marks_at c.loop-depth.all.items c.loop-depth.depth ≡ c.deref.result.now =
    table_at c.loop-depth.all.items c.loop-depth.depth c.index.result.now (omega (arith, c.loop-depth.invariant.count)) c.index.ensures ∙ sym c.deref.ensures.value in
    let follows : FollowsMarks groups (marks_at c.loop-depth.all.items c.loop-depth.depth) c.in_ok-next.next.items =
    subst (λ (ms : List Bool). FollowsMarks groups ms c.in_ok-next.next.items) (sym table) c.in_ok-next.ensures.follows in
    let only =
    subst (λ (ms : List Bool). (j : ℕ) → mark_at c.in_ok-next.next.items j ≡ true → IsCalledFrom groups ms j) (sym table) c.in_ok-next.ensures.only in
    levels_more groups (tree_of c.args.expr.now) c.loop-depth.depth c.loop-depth.all.items c.push-in-loop-depth.new.self.items c.in_ok-next.next
    c.in_ok-push-2.ensures.items c.loop-depth.invariant follows only

pub returns : goal.returns
returns c =
    let groups = map body_tree c.args.bodies.now in
    let same : c.loop-depth.depth ≡ c.greatest_nesting-depth-end.result = omega (arith, c.loop-depth-test.false, c.loop-depth.auto.depth-end) in
    subst (λ (d : ℕ). AreLevels groups d (tree_of c.args.expr.now) c.loop-depth.all.items) (same ∙ c.greatest_nesting-depth-end.ensures) c.loop-depth.invariant
