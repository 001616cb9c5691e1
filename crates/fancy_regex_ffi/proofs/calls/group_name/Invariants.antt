-- The names before the number were passed over.
use Rattle.std.specs.Prelude.{◌≡◌, ◌≤◌, ◌-◌}
use Rattle.fancy_regex_ffi.proofs.calls.group_name.Given as goal

abbrev pub invariant-loop-name : goal.invariant-loop-name
invariant-loop-name l = (l.names.regex.now ≡ l.fn.regex) × (l.names.next ≡ l.number) × (l.number ≤ l.group)

abbrev pub decreases-loop-name : goal.decreases-loop-name
decreases-loop-name l = l.group - l.number
