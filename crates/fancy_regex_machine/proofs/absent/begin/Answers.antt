use Rattle.std.proofs.Common.{◌+◌, ◌∷◌, ◌∙◌, sym, ap}
use Rattle.std.specs.Prelude.{slice_set}
use Rattle.fancy_regex_slots.specs.Memory.{Memory}
use Rattle.fancy_regex_program.specs.Machine.{unset, RunState}
use Rattle.fancy_regex_prefilter.specs.Runs.{thread_of}
use Rattle.fancy_regex_machine.proofs.absent.begin.Goals as goal

pub returns-clause-told : goal.returns-clause-told
returns-clause-told c code longest go best =
    let t = thread_of c.args.thread.now.cursor c.args.thread.now.slots in
    let stack = c.args.thread.now.slots.stack in
    let state : RunState = record { best_match = best; limit = unset } in
    let body = λ (m : Memory). thread_of (record { pc = t.pc + 2; position = t.position }) m in
    let further = λ (m : Memory). thread_of (record { pc = t.pc + 1; position = t.position }) m in
    let on = λ (m : Memory). go state (body m ∷ further m ∷ m.stack) in
    ap (λ (m : Memory). on (record { slots = slice_set m.slots c.args.limit c.args.bound.now; stack = m.stack })) (sym c.in_ok-save.ensures.ok)
    ∙ ap on (sym c.in_ok-save-2.ensures.ok)
    ∙ ap (λ (m : Memory). go state (body m ∷ m.stack)) (sym c.in_ok-push.ensures.ok)
