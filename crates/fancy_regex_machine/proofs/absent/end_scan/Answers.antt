use Rattle.std.proofs.Common.{◌∷◌, ◌∙◌, ℕ, sym, ap}
use Rattle.std.specs.Prelude.{slice_set}
use Rattle.fancy_regex_slots.specs.Memory.{Memory}
use Rattle.fancy_regex_prefilter.specs.Runs.{thread_of}
use Rattle.fancy_regex_machine.proofs.absent.end_scan.Goals as goal

pub returns-clause-told : goal.returns-clause-told
returns-clause-told c code longest go best =
    let t = thread_of c.args.thread.now.cursor c.args.thread.now.slots in
    let stack = c.args.thread.now.slots.stack in
    let out = λ (m : Memory). thread_of (record { pc = c.args.end; position = t.position }) m in
    ap (λ (o : ℕ). go (record { best_match = best; limit = o }) (out (record { slots = slice_set t.slots c.args.limit c.args.bound.now; stack = stack }) ∷ stack)) (sym c.get-outer.ensures)
    ∙ ap (λ (m : Memory). go (record { best_match = best; limit = c.get-outer.result }) (out m ∷ m.stack)) (sym c.in_ok-save.ensures.ok)
