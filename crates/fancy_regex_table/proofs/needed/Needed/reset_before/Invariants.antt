use Rattle.std.proofs.Common.{◌-◌, ◌≤◌}
use Rattle.fancy_regex_table.proofs.needed.Needed.reset_before.Given as goal

abbrev pub invariant-bytes : goal.invariant-bytes
invariant-bytes l = record { range : (l.from ≤ l.place) × (l.place ≤ l.fn.stop) }

abbrev pub decreases-bytes : goal.decreases-bytes
decreases-bytes l = l.place - l.from
