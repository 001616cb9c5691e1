use Rattle.std.proofs.Common.{refl, ap, arith}
use Rattle.fancy_regex_compiler.specs.Tasks.{tasks_work, listed}
use Rattle.fancy_regex_compiler.specs.declared.task.Step.{Step}
use Rattle.fancy_regex_compiler.proofs.BranchSteps.{leads_condition}
use Rattle.fancy_regex_compiler.proofs.OutcomeLemmas.{begins_error}
use Rattle.fancy_regex_compiler.proofs.emit.emit_conditional.Goals as goal

pub returns : goal.returns
returns c = record {
  cap = c.in_ok-begins.ensures.appends.cap;
  leads = λ context.
      leads_condition context c.args.emitter.now c.begin_atomic_choice.new.body c.args.slot c.in_ok-inside.inside c.args.scope c.leads_to.result c.in_ok-begins.begins.0 c.in_ok-begins.begins.1 c.args.body _ _ _
      _ c.leads_to.ensures c.in_ok-inside.ensures.value refl c.in_ok-begins.ensures.split
      c.in_ok-begins.ensures.appends.draft c.in_ok-begins.ensures.first (omega (arith, c.in_ok-begins.ensures.appends.long));
  work = λ groups. let this = ap (λ (s : Step). tasks_work groups (listed s.tasks)) c.leads_to.ensures in omega (arith, this);
  full = tt;
  refused = tt;
}

pub returns-in_err-begins : goal.returns-in_err-begins
returns-in_err-begins c =
    let e = c.in_err-begins in
    begins_error c.from_residual-in_err-begins.result e.field-0.0 c.from_residual-in_err-begins.ensures.1 e.ensures.appends.cap
    e.ensures.appends.full e.ensures.appends.refused
