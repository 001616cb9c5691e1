use Rattle.std.proofs.Common.{rules, ◌≡◌, ◌+◌, List, [], ◌∷◌, ◌++◌, refl, sym, ap, ◌∙◌, subst, arith}
use Rattle.fancy_regex_compiler.specs.Refusals.{TreeContext, IsReasonWhere}
use Rattle.fancy_regex_compiler.specs.Tasks.{Leads, IsAllowedTask, AreAllowedTasks, IsExpandedTask, AreExpandedTasks, past, progress, task_room, listed, tasks_work}
use Rattle.fancy_regex_compiler.specs.Writing.{infos_of}
use Rattle.fancy_regex_compiler.specs.declared.task.Task.{Task}
use Rattle.fancy_regex_compiler.proofs.RefusalLemmas.{passed_on}
use Rattle.fancy_regex_compiler.proofs.RoomLemmas.{late}
use Rattle.fancy_regex_compiler.proofs.StepLemmas.{leads_begin, leads_on, last_room, expanded_second, work_both}
use Rattle.fancy_regex_compiler.proofs.emit.emit_all.Goals as goal

pub loop-task-init : goal.loop-task-init
loop-task-init c = record {
  cap = refl;
  leads = leads_begin c.args.context.now c.args.emitter.now c.args.slot c.args.begin c.push.new.self.items
      (c.in_ok-push.ensures.items ∙ ap (λ (xs : List Task). xs ++ c.args.begin ∷ []) c.new-tasks.ensures.items);
}

pub loop-task-preserved : goal.loop-task-preserved
loop-task-preserved c =
    let context = c.args.context.now in
    let old = c.args.emitter.now in
    let t = c.args.begin in
    let end = past context t (progress old c.args.slot) in
    let A = IsAllowedTask context t old.opened.items in
    let most = task_room context t old.opened.items in
    let S = λ (tree_context : TreeContext). IsExpandedTask tree_context t in
    record {
      cap = c.in_ok-step.ensures.cap ∙ c.loop-task.invariant.cap;
      leads = subst (λ xs. Leads context old c.emit_task.new.emitter c.args.slot c.in_ok-step.step.slot xs end A most S) (sym c.in_ok-add_tasks.ensures)
          (leads_on context old c.loop-task.emitter c.emit_task.new.emitter c.args.slot c.loop-task.next c.pop.new.self.items c.loop-task.tasks.items c.in-Some.task c.in_ok-step.step
          end A most S c.in-Some.ensures.items c.loop-task.invariant.leads c.in_ok-step.ensures.leads);
    }

pub loop-task-smaller : goal.loop-task-smaller
loop-task-smaller c =
    let groups = infos_of c.args.context.now in
    let rest = c.pop.new.self.items in
    let t = c.in-Some.task in
    let before = ap (tasks_work groups) c.in-Some.ensures.items in
    let after = ap (tasks_work groups) c.in_ok-add_tasks.ensures in
    omega (arith, before, after, work_both groups rest (t ∷ []), work_both groups rest (listed c.in_ok-step.step.tasks), c.in_ok-step.ensures.work)

pub returns-clause-ends : goal.returns-clause-ends
returns-clause-ends c =
    let context = c.args.context.now in
    let old = c.args.emitter.now in
    let t = c.args.begin in
    let S = λ (tree_context : TreeContext). IsExpandedTask tree_context t in
    let nothing : c.loop-task.tasks.items ≡ [] = search rules in
    (subst (λ xs. Leads context old c.loop-task.emitter c.args.slot c.loop-task.next xs (past context t (progress old c.args.slot)) (IsAllowedTask context t old.opened.items)
    (task_room context t old.opened.items) S) nothing c.loop-task.invariant.leads).ends

pub returns-clause-allowed : goal.returns-clause-allowed
returns-clause-allowed c all among =
    let nothing : c.loop-task.tasks.items ≡ [] = search rules in
    c.loop-task.invariant.leads.allowed all among (subst (λ xs. AreAllowedTasks c.args.context.now xs c.loop-task.emitter.opened.items all) (sym nothing) tt)

pub returns-clause-notes : goal.returns-clause-notes
returns-clause-notes c = c.loop-task.invariant.leads.notes

pub returns-clause-cap : goal.returns-clause-cap
returns-clause-cap c = c.loop-task.invariant.cap

pub returns-in_err-step-clause-full : goal.returns-in_err-step-clause-full
returns-in_err-step-clause-full c =
    let r = c.from_residual-in_err-step in
    let fits = last_room c.args.context.now c.pop.new.self.items c.loop-task.tasks.items c.in-Some.task c.loop-task.emitter.opened.items c.in-Some.ensures.items in
    late r.result c.in_err-step.field-0.0 _ _ r.ensures.1 c.in_err-step.ensures.full
    (λ lt. omega (arith, lt, c.loop-task.invariant.cap, c.loop-task.invariant.leads.fits, fits))

pub returns-in_err-step-clause-refused : goal.returns-in_err-step-clause-refused
returns-in_err-step-clause-refused c =
    let gs = infos_of c.args.context.now in
    let r = c.from_residual-in_err-step in
    let e = c.in_err-step.field-0.0 in
    passed_on r.result e (IsReasonWhere c.args.context.now.unicode gs (λ tree_context. IsExpandedTask tree_context c.args.begin)) r.ensures.1
    (λ tree_context s h.
    let all : AreExpandedTasks tree_context (c.pop.new.self.items ++ c.in-Some.task ∷ []) =
    subst (AreExpandedTasks tree_context) c.in-Some.ensures.items (c.loop-task.invariant.leads.stands tree_context s h) in
    c.in_err-step.ensures.refused tree_context s (expanded_second tree_context c.pop.new.self.items (c.in-Some.task ∷ []) all).0)

pub returns-in_err-step-clause-cap : goal.returns-in_err-step-clause-cap
returns-in_err-step-clause-cap c = c.in_err-step.ensures.cap ∙ c.loop-task.invariant.cap

pub returns-in_err-add_tasks-clause-cap : goal.returns-in_err-add_tasks-clause-cap
returns-in_err-add_tasks-clause-cap c = c.in_ok-step.ensures.cap ∙ c.loop-task.invariant.cap
