use Rattle.std.proofs.Common.{◌+◌, ◌<◌, refl, sym, ap, subst, arith}
use Rattle.fancy_regex_compiler.specs.Tasks.{LeadsOn, EmitsTask, task_room, task_work, tasks_work, infos_work, info_work, listed}
use Rattle.fancy_regex_compiler.specs.Writing.{infos_of}
use Rattle.fancy_regex_compiler.specs.declared.emitter.Emitter.{Emitter}
use Rattle.fancy_regex_compiler.specs.declared.task.Step.{Step}
use Rattle.fancy_regex_compiler.specs.declared.task.Task.TheVariants as task
use Rattle.fancy_regex_compiler.proofs.BranchSteps.{leads_close, leads_end_call}
use Rattle.fancy_regex_compiler.proofs.OutcomeLemmas.{emits_want}
use Rattle.fancy_regex_compiler.proofs.emit.emit_task.Goals as goal

pub returns-in-Node : goal.returns-in-Node
returns-in-Node c =
    subst (λ t. EmitsTask c.args.context.now t c.args.emitter.now c.emit_node_task.new.emitter c.args.slot c.emit_node_task.result) (sym c.in-Node.is) c.emit_node_task.ensures

pub returns-in-Body : goal.returns-in-Body
returns-in-Body c =
    subst (λ t. EmitsTask c.args.context.now t c.args.emitter.now c.emit_body.new.emitter c.args.slot c.emit_body.result) (sym c.in-Body.is) c.emit_body.ensures

pub returns-in-Tail : goal.returns-in-Tail
returns-in-Tail c =
    subst (λ t. EmitsTask c.args.context.now t c.args.emitter.now c.emit_tail.new.emitter c.args.slot c.emit_tail.result) (sym c.in-Tail.is) c.emit_tail.ensures

pub returns-in-Branches : goal.returns-in-Branches
returns-in-Branches c =
    subst (λ t. EmitsTask c.args.context.now t c.args.emitter.now c.emit_branches.new.emitter c.args.slot c.emit_branches.result) (sym c.in-Branches.is)
    (c.emit_branches.ensures c.args.context.now)

pub returns-in-Otherwise : goal.returns-in-Otherwise
returns-in-Otherwise c =
    subst (λ t. EmitsTask c.args.context.now t c.args.emitter.now c.emit_otherwise.new.emitter c.args.slot c.emit_otherwise.result) (sym c.in-Otherwise.is)
    (c.emit_otherwise.ensures c.args.context.now)

pub returns-in-Tested : goal.returns-in-Tested
returns-in-Tested c =
    subst (λ t. EmitsTask c.args.context.now t c.args.emitter.now c.emit_tested.new.emitter c.args.slot c.emit_tested.result) (sym c.in-Tested.is)
    (c.emit_tested.ensures c.args.context.now)

pub returns-in-Row : goal.returns-in-Row
returns-in-Row c =
    let context = c.args.context.now in
    let e = c.args.emitter.now in
    let t = task.Row c.in-Row.parts c.in-Row.scope in
    record {
      cap = refl;
      leads = subst (λ v. LeadsOn context v e e c.args.slot c.leads_to-in-Row.result) (sym c.in-Row.is)
          (subst (λ r. LeadsOn context t e e c.args.slot r) (sym c.leads_to-in-Row.ensures) (c.row_tasks.ensures.leads context e c.args.slot));
      work = subst (λ v. tasks_work (infos_of context) (listed c.leads_to-in-Row.result.tasks) < task_work (infos_of context) v) (sym c.in-Row.is)
          (subst (λ (r : Step). tasks_work (infos_of context) (listed r.tasks) < infos_work (infos_of context) c.in-Row.scope c.in-Row.parts.now) (sym c.leads_to-in-Row.ensures)
          (c.row_tasks.ensures.work (infos_of context)));
      full = tt;
      refused = tt;
    }

pub returns-in_ok-tasks-in-Whole : goal.returns-in_ok-tasks-in-Whole
returns-in_ok-tasks-in-Whole c =
    let context = c.args.context.now in
    let e = c.args.emitter.now in
    let t = task.Whole c.in-Whole.info c.in-Whole.scope in
    record {
      cap = refl;
      leads = subst (λ v. LeadsOn context v e e c.args.slot c.leads_to.result) (sym c.in-Whole.is)
          (subst (λ r. LeadsOn context t e e c.args.slot r) (sym c.leads_to.ensures) (c.in_ok-tasks-in-Whole.ensures.leads context e c.args.slot));
      work = subst (λ v. tasks_work (infos_of context) (listed c.leads_to.result.tasks) < task_work (infos_of context) v) (sym c.in-Whole.is)
          (subst (λ (r : Step). tasks_work (infos_of context) (listed r.tasks) < 10 + info_work (infos_of context) c.in-Whole.scope c.in-Whole.info.now) (sym c.leads_to.ensures)
          (c.in_ok-tasks-in-Whole.ensures.work (infos_of context)));
      full = tt;
      refused = tt;
    }

pub returns-in_ok-close-in-Close : goal.returns-in_ok-close-in-Close
returns-in_ok-close-in-Close c =
    let context = c.args.context.now in
    let old = c.args.emitter.now in
    let this = ap (λ (s : Step). tasks_work (infos_of context) (listed s.tasks)) c.leads_to-in-Close.ensures in
    let task_is = ap (task_work (infos_of context)) c.in-Close.is in
    record {
      cap = c.in_ok-close-in-Close.ensures.cap;
      leads = subst (λ t. LeadsOn context t old (record { body = c.close.new.body; classes = old.classes; opened = old.opened; parts = old.parts; needs = old.needs }) c.args.slot c.leads_to-in-Close.result) (sym c.in-Close.is)
          (leads_close context old c.close.new.body c.args.slot c.in-Close.closing (λ tree_context. Unit {0}) c.leads_to-in-Close.result c.leads_to-in-Close.ensures c.in_ok-close-in-Close.ensures.draft);
      work = omega (arith, this, task_is);
      full = tt;
      refused = tt;
    }

pub returns-in_err-close-in-Close : goal.returns-in_err-close-in-Close
returns-in_err-close-in-Close c =
    let e = c.in_err-close-in-Close in
    let r = c.from_residual-in_err-close-in-Close in
    let room_is = ap (λ t. task_room c.args.context.now t c.args.emitter.now.opened.items) c.in-Close.is in
    emits_want r.result e.field-0.0 r.ensures.1 e.ensures.cap (λ too. let lt = e.ensures.full too in omega (arith, lt, room_is)) e.ensures.refused

pub returns-in-EndCall : goal.returns-in-EndCall
returns-in-EndCall c =
    let context = c.args.context.now in
    let old = c.args.emitter.now in
    let new : Emitter = record { body = old.body; classes = old.classes; opened = c.pop.new.self; parts = old.parts; needs = old.needs } in
    let this = ap (λ (s : Step). tasks_work (infos_of context) (listed s.tasks)) c.leads_to-in-EndCall.ensures in
    let task_is = ap (task_work (infos_of context)) c.in-EndCall.is in
    record {
      cap = refl;
      leads = subst (λ t. LeadsOn context t old new c.args.slot c.leads_to-in-EndCall.result) (sym c.in-EndCall.is)
          (leads_end_call context old new c.args.slot (λ tree_context. Unit {0}) c.leads_to-in-EndCall.result c.leads_to-in-EndCall.ensures refl
          c.pop.ensures refl);
      work = omega (arith, this, task_is);
      full = tt;
      refused = tt;
    }
