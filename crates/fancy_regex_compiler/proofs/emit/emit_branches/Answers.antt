use Rattle.std.proofs.Common.{◌≡◌, ◌≤◌, ◌∷◌, length, true, refl, sym, ap, ◌∙◌, arith}
use Rattle.std.specs.Prelude.{◌==◌}
use Rattle.std.proofs.lemmas.Bool.Decides.{nat_tests}
use Rattle.std.proofs.lemmas.List.{nil_from_length}
use Rattle.fancy_regex_compiler.specs.Tasks.{tasks_work, listed}
use Rattle.fancy_regex_compiler.specs.Writing.{infos_of}
use Rattle.fancy_regex_compiler.specs.declared.task.Step.{Step}
use Rattle.fancy_regex_compiler.proofs.BranchSteps.{leads_no_branch, leads_branch, leads_alternatives, branches_need, none_need}
use Rattle.fancy_regex_compiler.proofs.OutcomeLemmas.{emits_want}
use Rattle.fancy_regex_compiler.proofs.WorkLemmas.{some_work, first_work}
use Rattle.fancy_regex_compiler.proofs.emit.emit_branches.Goals as goal

pub returns-in_err-flush_and_push : goal.returns-in_err-flush_and_push
returns-in_err-flush_and_push c context =
    let b = c.args.branches.now in
    let e = c.in_err-flush_and_push in
    emits_want c.from_residual.result e.field-0.0 c.from_residual.ensures.1 e.ensures.cap
    (λ too. let lt = e.ensures.full too in
    omega (arith, lt, none_need context b c.args.steps_back c.args.scope c.args.emitter.now.opened.items (nil_from_length b c.in_default.ensures.cases)))
    e.ensures.refused

pub returns-in_default : goal.returns-in_default
returns-in_default c context = record {
  cap = c.in_ok-flush_and_push.ensures.cap;
  leads =
      leads_no_branch context c.args.emitter.now c.flush_and_push.new.self c.args.slot c.args.branches.now c.args.steps_back c.args.scope c.leads_to.result
      (nil_from_length c.args.branches.now c.in_default.ensures.cases) c.leads_to.ensures c.in_ok-flush_and_push.ensures.draft c.in_ok-flush_and_push.ensures.long;
  work =
      let this = ap (λ (s : Step). tasks_work (infos_of context) (listed s.tasks)) c.leads_to.ensures in
      omega (arith, this, some_work (infos_of context) c.args.scope c.args.branches.now);
  full = tt;
  refused = tt;
}

pub returns-then-is_empty : goal.returns-then-is_empty
returns-then-is_empty c context =
    let none : length c.in-Some.others.now ≡ 0 = (let empty : (length c.in-Some.others.now == 0) ≡ true = sym c.is_empty.ensures ∙ c.if-is_empty.true in grind (arith, nat_tests)) in
    record {
      cap = refl;
      leads =
          leads_branch context c.args.emitter.now c.args.slot c.args.branches.now c.args.steps_back c.args.scope c.leads_to-then-is_empty.result c.in-Some.info
          (c.in-Some.ensures.cases.0 ∙ ap (λ xs. c.in-Some.info.now ∷ xs) (nil_from_length c.in-Some.others.now none)) c.leads_to-then-is_empty.ensures;
      work =
          let this = ap (λ (s : Step). tasks_work (infos_of context) (listed s.tasks)) c.leads_to-then-is_empty.ensures in
          omega (arith, this, first_work (infos_of context) c.args.scope c.args.branches.now c.in-Some.others.now c.in-Some.info.now c.in-Some.ensures.cases.0);
      full = tt;
      refused = tt;
    }

pub returns-in_err-begins : goal.returns-in_err-begins
returns-in_err-begins c context =
    let b = c.args.branches.now in
    let some : 1 ≤ length c.in-Some.others.now = (let full = sym c.is_empty.ensures ∙ c.if-is_empty.false in grind (arith, nat_tests)) in
    let e = c.in_err-begins in
    emits_want c.from_residual-in_err-begins.result e.field-0.0 c.from_residual-in_err-begins.ensures.1 e.ensures.appends.cap
    (λ too. let lt = e.ensures.appends.full too in
    omega (
      arith,
      lt,
      branches_need context b c.args.steps_back c.args.scope c.args.emitter.now.opened.items c.in-Some.info.now c.in-Some.others.now c.in-Some.ensures.cases.0 some,
    ))
    e.ensures.appends.refused

pub returns : goal.returns
returns c context =
    let some : 1 ≤ length c.in-Some.others.now = (let full = sym c.is_empty.ensures ∙ c.if-is_empty.false in grind (arith, nat_tests)) in
    record {
      cap = c.in_ok-begins.ensures.appends.cap;
      leads =
          leads_alternatives context c.args.emitter.now c.begin_choice.new.body c.args.slot c.args.branches.now c.args.steps_back c.args.scope c.leads_to-2.result c.in_ok-begins.begins.0 c.in_ok-begins.begins.1
          c.in-Some.info c.in-Some.others _ c.in-Some.ensures.cases.0 some c.leads_to-2.ensures refl c.in_ok-begins.ensures.split
          c.in_ok-begins.ensures.appends.draft c.in_ok-begins.ensures.first (omega (arith, c.in_ok-begins.ensures.appends.long));
      work =
          let this = ap (λ (s : Step). tasks_work (infos_of context) (listed s.tasks)) c.leads_to-2.ensures in
          omega (arith, this, first_work (infos_of context) c.args.scope c.args.branches.now c.in-Some.others.now c.in-Some.info.now c.in-Some.ensures.cases.0);
      full = tt;
      refused = tt;
    }
