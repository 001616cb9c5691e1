use Rattle.fancy_regex_parts.specs.Writes.{list_of, IsWritten}
use Rattle.fancy_regex_parts.proofs.writes.WriteLists.has_slot.Given as goal

abbrev pub invariant-writes : goal.invariant-writes
invariant-writes l = IsWritten l.slot (list_of l.self.writes.items l.number) → IsWritten l.slot (list_of l.self.writes.items l.list)

abbrev pub decreases-writes : goal.decreases-writes
decreases-writes l = l.number
