use Rattle.std.proofs.Common.{◌≡◌, ◌∷◌, [], ◌∙◌, append_assoc, ap, length, map, arith}
use Rattle.std.specs.Vec.Iter.{into_iter_items}
use Rattle.fancy_regex_tree.specs.Tree.{tree_of}
use Rattle.fancy_regex_tree.proofs.PieceLists.{push_branch}
use Rattle.fancy_regex_tree.proofs.tree_builders.all_branches.Goals as goal

pub loop-branch-preserved : goal.loop-branch-preserved
loop-branch-preserved c =
    let at = c.loop-branch in
    let x = c.in-Some.branch in
    let steps : into_iter_items at.branch-iterator ≡ x ∷ into_iter_items c.next.new.self = c.in-Some.ensures.steps.0 in (
      append_assoc at.yielded (x ∷ []) _ ∙ rw (← steps) at.invariant.0,
      push_branch (λ b. map tree_of b.items) at.yielded x at.all.items _ c.branch_of.result c.in_ok-push.ensures.items c.branch_of.ensures at.invariant.1,
      let was = at.invariant.2 in
          let gone = c.in-Some.ensures.steps.1 in
          let short = ap length steps in
          omega arith,
    )
