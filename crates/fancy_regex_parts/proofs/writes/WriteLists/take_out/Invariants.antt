use Rattle.std.proofs.Common.{◌≡◌, ◌++◌}
use Rattle.fancy_regex_parts.specs.Writes.{list_of, pairs_of}
use Rattle.fancy_regex_parts.proofs.writes.WriteLists.take_out.Given as goal

abbrev pub invariant-writes : goal.invariant-writes
invariant-writes l = record {
  moved : pairs_of l.self.moved.items ++ list_of l.self.writes.items l.number ≡ list_of l.fn.self.writes.items l.list;
  writes : l.self.writes.items ≡ l.fn.self.writes.items;
  held : l.self.held ≡ l.fn.self.held;
}

abbrev pub decreases-writes : goal.decreases-writes
decreases-writes l = l.number
