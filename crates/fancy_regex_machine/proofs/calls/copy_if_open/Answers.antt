use Rattle.std.proofs.Common.{◌∙◌, ap, length}
use Rattle.fancy_regex_slots.specs.Memory.{Memory}
use Rattle.fancy_regex_machine.proofs.CallLemmas.{length-copied, keeps_slots}
use Rattle.fancy_regex_machine.proofs.calls.copy_if_open.Goals as goal

pub returns-clause-length : goal.returns-clause-length
returns-clause-length c =
    ap (λ (m : Memory). length m.slots) c.in_ok-copy_slots.ensures ∙ length-copied c.args.from c.args.to c.args.count c.args.slots.now.slots

pub returns-clause-slots : goal.returns-clause-slots
returns-clause-slots c =
    let same = c.in_ok-copy_slots.ensures in
    keeps_slots c.args.slots.now c.copy_slots.new.slots
    (ap (λ (m : Memory). length m.slots) same ∙ length-copied c.args.from c.args.to c.args.count c.args.slots.now.slots) (ap (λ (m : Memory). m.stack) same)
