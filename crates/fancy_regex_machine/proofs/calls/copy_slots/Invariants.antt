use Rattle.std.proofs.Common.{◌≡◌}
use Rattle.fancy_regex_program.specs.Machine.{copied}
use Rattle.fancy_regex_machine.proofs.calls.copy_slots.Given as goal

abbrev pub invariant-loop-index : goal.invariant-loop-index
invariant-loop-index l = l.slots ≡ record { slots = copied l.from l.to l.index l.initial.slots.slots; stack = l.initial.slots.stack }
