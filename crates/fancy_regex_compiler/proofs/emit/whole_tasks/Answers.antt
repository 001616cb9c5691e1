use Rattle.std.proofs.Common.{◌≡◌, false, [], ◌∷◌, map, take, drop, refl, sym, ap, ◌∙◌, subst, arith}
use Rattle.fancy_regex_tree.specs.Tree.{tree_of, trees}
use Rattle.fancy_regex_info.specs.Infos.{info_of}
use Rattle.fancy_regex_info.specs.declared.info.Info.TheViews.{out-Info}
use Rattle.fancy_regex_compiler.specs.Known.{info_call}
use Rattle.fancy_regex_compiler.specs.Refusals.{TreeContext, IsExpandedPart}
use Rattle.fancy_regex_compiler.specs.Tails.{SplitsRow}
use Rattle.fancy_regex_compiler.specs.Tasks.{room_of, IsLetThrough, node_pattern, whole_pattern, past_pattern, progress, infos_work, task_work, Leads}
use Rattle.fancy_regex_compiler.specs.Writing.{infos_of}
use Rattle.fancy_regex_compiler.specs.declared.task.Task.TheVariants as task
use Rattle.fancy_regex_compiler.proofs.RefusalLemmas.{kids_concat}
use Rattle.fancy_regex_compiler.proofs.StepLemmas.{leads_one}
use Rattle.fancy_regex_compiler.proofs.TailSteps.{whole_row, whole_single, no_concat, leads_whole, expanded_take, expanded_drop}
use Rattle.fancy_regex_compiler.proofs.TreeLemmas.{tree_concat}
use Rattle.fancy_regex_compiler.proofs.WorkLemmas.{split_work, row_less}
use Rattle.fancy_regex_compiler.proofs.emit.whole_tasks.Goals as goal

pub returns-in_ok-begin-in-Concat-clause-leads : goal.returns-in_ok-begin-in-Concat-clause-leads
returns-in_ok-begin-in-Concat-clause-leads c context e slot =
    let i = c.args.info.now in
    let xs = (out-Info i).children.items in
    let scope = c.args.scope in
    let k = c.in_ok-begin-in-Concat.begin in
    let call = info_call (infos_of context) scope.calls_left e.opened.items in
    let front = c.split_at.ensures.front ∙ ap (take k) c.deref-in-Concat.ensures.value in
    let back = c.split_at.ensures.back ∙ ap (drop k) c.deref-in-Concat.ensures.value in
    leads_whole context e slot i scope c.split_at.result.0 c.split_at.result.1
    (λ tree_context. IsExpandedPart tree_context scope.may_keep scope.may_be_absent false (info_of i))
    (whole_row call i (trees (map tree_of c.in-Concat.field-0.items)) k c.split_at.result.0.now c.split_at.result.1.now (ap tree_of c.in-Concat.is ∙ tree_concat c.in-Concat.field-0)
    (subst (λ ys. SplitsRow ys k) c.deref.ensures.value c.in_ok-begin-in-Concat.ensures) front back)
    (λ tree_context h. expanded_take tree_context scope.may_keep scope.may_be_absent k xs c.split_at.result.0.now front
    (kids_concat tree_context scope.may_keep scope.may_be_absent i c.in-Concat.field-0 c.in-Concat.is h))
    (λ tree_context h. expanded_drop tree_context scope.may_keep scope.may_be_absent k xs c.split_at.result.1.now back
    (kids_concat tree_context scope.may_keep scope.may_be_absent i c.in-Concat.field-0 c.in-Concat.is h))

pub returns-in_ok-begin-in-Concat-clause-work : goal.returns-in_ok-begin-in-Concat-clause-work
returns-in_ok-begin-in-Concat-clause-work c groups =
    let i = c.args.info.now in
    let xs = (out-Info i).children.items in
    let k = c.in_ok-begin-in-Concat.begin in
    let front = ap (infos_work groups c.args.scope) (c.split_at.ensures.front ∙ ap (take k) c.deref-in-Concat.ensures.value) in
    let back = ap (infos_work groups c.args.scope) (c.split_at.ensures.back ∙ ap (drop k) c.deref-in-Concat.ensures.value) in
    omega (arith, front, back, split_work groups c.args.scope k xs, row_less groups c.args.scope i xs refl)

pub returns-in_default : goal.returns-in_default
returns-in_default c = record {
  leads = λ context e slot.
      let i = c.args.info.now in
      let scope = c.args.scope in
      let p = node_pattern context i false scope e.opened.items in
      let q = whole_pattern context i scope e.opened.items in
      let S = λ (tree_context : TreeContext). IsExpandedPart tree_context scope.may_keep scope.may_be_absent false (info_of i) in
      let is : q ≡ p = whole_single (info_call (infos_of context) scope.calls_left e.opened.items) i (no_concat (out-Info i).expr.now c.in_default.not-Concat) in
      subst (λ t. Leads context e e slot slot (t ∷ []) (past_pattern context q (progress e slot)) (IsLetThrough context scope.may_keep q) (room_of context q) S) (sym c.node_task.ensures)
      (leads_one context e slot scope.may_keep p q (task.Node c.args.info false scope) S is refl (λ all h. h) refl (omega arith) (λ tree_context s stand. stand));
  work = λ groups. let this = ap (task_work groups) c.node_task.ensures in omega (arith, this);
}
