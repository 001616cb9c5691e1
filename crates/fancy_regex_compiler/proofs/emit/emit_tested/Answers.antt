use Rattle.std.proofs.Common.{[], ap, arith}
use Rattle.fancy_regex_compiler.specs.Tasks.{tasks_work, listed}
use Rattle.fancy_regex_compiler.specs.Writing.{infos_of}
use Rattle.fancy_regex_compiler.specs.declared.task.Step.{Step}
use Rattle.fancy_regex_compiler.proofs.BranchSteps.{leads_tested}
use Rattle.fancy_regex_compiler.proofs.OutcomeLemmas.{emits_want}
use Rattle.fancy_regex_compiler.proofs.StepLemmas.{with_node}
use Rattle.fancy_regex_compiler.proofs.WorkLemmas.{first_work, none_work}
use Rattle.fancy_regex_compiler.proofs.emit.emit_tested.Goals as goal

pub returns : goal.returns
returns c context =
    record {
      cap = c.in_ok-flush_and_push.ensures.cap;
      leads =
          leads_tested context c.args.emitter.now c.flush_and_push.new.self c.args.slot c.args.height_slot c.args.scope c.leads_to.result c.args.begins.0 c.args.begins.1
          c.args.branches.0 c.args.branches.1 c.from_ref.result c.from_ref.ensures.value (with_node _ _ _ _ _ c.leads_to.ensures c.node_task.ensures)
          c.in_ok-flush_and_push.ensures.draft (omega (arith, c.in_ok-flush_and_push.ensures.long));
      work =
          let groups = infos_of context in
          let this = ap (λ (s : Step). tasks_work groups (listed s.tasks)) (with_node _ _ _ _ _ c.leads_to.ensures c.node_task.ensures) in
          omega (arith, this, first_work groups c.args.scope c.from_ref.result.now [] c.args.branches.1.now c.from_ref.ensures.value, none_work groups c.args.scope);
      full = tt;
      refused = tt;
    }

pub returns-in_err-flush_and_push : goal.returns-in_err-flush_and_push
returns-in_err-flush_and_push c context =
    let e = c.in_err-flush_and_push in
    emits_want c.from_residual.result e.field-0.0 c.from_residual.ensures.1 e.ensures.cap (λ too. let lt = e.ensures.full too in omega (arith, lt)) e.ensures.refused
