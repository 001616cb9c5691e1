use Rattle.std.proofs.Common.{◌≡◌, ◌≤◌, ◌++◌, length}
use Rattle.fancy_regex_parts.specs.Writes.{list_of, pairs_of, IsExtended, SameWrites}
use Rattle.fancy_regex_parts.proofs.writes.WriteLists.join.Given as goal

abbrev pub invariant-writes : goal.invariant-writes
invariant-writes l = record {
  moved : SameWrites (pairs_of l.self.moved.items ++ list_of l.self.writes.items l.all)
      (list_of l.fn.self.writes.items l.list ++ list_of l.fn.self.writes.items l.rest);
  extended : IsExtended l.fn.self.writes.items l.self.writes.items;
  low : l.all ≤ length l.self.writes.items;
  held : l.self.held ≡ l.fn.self.held;
}

abbrev pub decreases-writes : goal.decreases-writes
decreases-writes l = length l.self.moved.items
