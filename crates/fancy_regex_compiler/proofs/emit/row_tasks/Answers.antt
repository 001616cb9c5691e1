use Rattle.std.proofs.Common.{[], ◌∷◌, false, sym, ap, subst, arith}
use Rattle.std.proofs.lemmas.List.{nil_from_length}
use Rattle.fancy_regex_compiler.specs.Refusals.{TreeContext, AreExpandedParts}
use Rattle.fancy_regex_compiler.specs.Tasks.{room_of, IsLetThrough, row_pattern, past_pattern, progress, task_work, Leads}
use Rattle.fancy_regex_compiler.specs.declared.task.Task.TheVariants as task
use Rattle.fancy_regex_compiler.proofs.BranchSteps.{leads_row, leads_no_row}
use Rattle.fancy_regex_compiler.proofs.WorkLemmas.{some_work, first_work}
use Rattle.fancy_regex_compiler.proofs.emit.row_tasks.Goals as goal

pub returns-in-Some-clause-leads : goal.returns-in-Some-clause-leads
returns-in-Some-clause-leads c context e slot =
    let parts = c.args.parts.now in
    subst (λ t. Leads context e e slot slot (task.Row c.in-Some.parts c.args.scope ∷ t ∷ []) (past_pattern context (row_pattern context parts c.args.scope e.opened.items) (progress e slot))
    (IsLetThrough context c.args.scope.may_keep (row_pattern context parts c.args.scope e.opened.items)) (room_of context (row_pattern context parts c.args.scope e.opened.items))
    (λ (tree_context : TreeContext). AreExpandedParts tree_context c.args.scope.may_keep c.args.scope.may_be_absent false parts)) (sym c.node_task.ensures)
    (leads_row context e slot parts c.args.scope c.in-Some.info c.in-Some.parts c.in-Some.ensures.cases.0)

pub returns-in-Some-clause-work : goal.returns-in-Some-clause-work
returns-in-Some-clause-work c groups =
    let this = ap (task_work groups) c.node_task.ensures in
    omega (arith, this, first_work groups c.args.scope c.args.parts.now c.in-Some.parts.now c.in-Some.info.now c.in-Some.ensures.cases.0)

pub returns-in-None-clause-leads : goal.returns-in-None-clause-leads
returns-in-None-clause-leads c context e slot = leads_no_row context e slot c.args.parts.now c.args.scope (nil_from_length c.args.parts.now c.in-None.ensures.cases)

pub returns-in-None-clause-work : goal.returns-in-None-clause-work
returns-in-None-clause-work c groups = some_work groups c.args.scope c.args.parts.now
