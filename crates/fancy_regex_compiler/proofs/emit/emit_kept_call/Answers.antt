use Rattle.std.proofs.Common.{ap, ◌∙◌, arith}
use Rattle.fancy_regex_program.specs.Ops as op
use Rattle.fancy_regex_program.specs.Ops.{place_of}
use Rattle.fancy_regex_compiler.specs.Tasks.{tasks_work, listed}
use Rattle.fancy_regex_compiler.specs.Inlined.{draft_place}
use Rattle.fancy_regex_compiler.specs.Writing.{added, draft_of, infos_of, layout_of}
use Rattle.fancy_regex_compiler.specs.declared.task.Step.{Step}
use Rattle.fancy_regex_compiler.proofs.BranchSteps.{leads_kept_call}
use Rattle.fancy_regex_compiler.proofs.OutcomeLemmas.{emits_want}
use Rattle.fancy_regex_compiler.proofs.RoomLemmas.{room_stays}
use Rattle.fancy_regex_compiler.proofs.emit.emit_kept_call.Goals as goal

pub returns : goal.returns
returns c p =
    let context = c.args.context.now in
    record {
      cap = c.in_ok-flush_and_push.ensures.cap;
      leads = leads_kept_call context c.args.emitter.now c.flush_and_push.new.self c.note.new.self c.args.slot c.args.need (draft_place c.args.draft.now) p c.leads_to.result
          c.requires.stays c.requires.there c.in_ok-note.ensures c.leads_to.ensures
          (c.in_ok-flush_and_push.ensures.draft ∙ ap (λ v. added (op.call (place_of v)) (draft_of c.args.emitter.now.body)) c.in_ok-clone.ensures.cases) c.in_ok-flush_and_push.ensures.long;
      work = let this = ap (λ (s : Step). tasks_work (infos_of context) (listed s.tasks)) c.leads_to.ensures in omega (arith, this);
      full = tt;
      refused = tt;
    }

pub returns-in_err-flush_and_push : goal.returns-in_err-flush_and_push
returns-in_err-flush_and_push c p =
    let context = c.args.context.now in
    let e = c.in_err-flush_and_push in
    let r = c.from_residual-in_err-flush_and_push in
    emits_want r.result e.field-0.0 r.ensures.1 e.ensures.cap
    (λ too. let lt = e.ensures.full too in omega (arith, lt, room_stays (layout_of context) c.args.need.group (draft_place c.args.draft.now) p c.requires.stays)) e.ensures.refused
