use Rattle.std.proofs.Common.{◌≡◌, ◌∙◌, ap, arith, length}
use Rattle.fancy_regex_slots.specs.Memory.{Memory}
use Rattle.fancy_regex_machine.proofs.CallLemmas.{length-copied}
use Rattle.fancy_regex_machine.proofs.calls.copy_slots.Goals as goal

pub get-value-requires : goal.get-value-requires
get-value-requires c =
    let old = c.args.slots.now.slots in
    let same : length c.loop-index.slots.slots ≡ length old =
    ap (λ (m : Memory). length m.slots) c.loop-index.invariant ∙ length-copied c.args.from c.args.to c.loop-index.index old in
    omega (arith, c.requires.from, c.loop-index-test.true, same)

pub save-requires : goal.save-requires
save-requires c =
    let old = c.args.slots.now.slots in
    let same : length c.loop-index.slots.slots ≡ length old =
    ap (λ (m : Memory). length m.slots) c.loop-index.invariant ∙ length-copied c.args.from c.args.to c.loop-index.index old in
    omega (arith, c.requires.to, c.loop-index-test.true, same)
