use Rattle.std.proofs.Common.{◌≡◌}
use Rattle.fancy_regex_parts.specs.Writes.{apply, list_of}
use Rattle.fancy_regex_parts.proofs.writes.WriteLists.write.Given as goal

abbrev pub invariant-writes : goal.invariant-writes
invariant-writes l = apply (list_of l.self.writes.items l.number) l.slots ≡ apply (list_of l.self.writes.items l.list) l.fn.slots

abbrev pub decreases-writes : goal.decreases-writes
decreases-writes l = l.number
