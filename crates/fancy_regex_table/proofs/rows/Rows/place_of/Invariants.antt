use Rattle.std.proofs.Common.{◌<◌, length}
use Rattle.fancy_regex_table.proofs.rows.Rows.place_of.Given as goal

abbrev pub invariant-places : goal.invariant-places
invariant-places l = l.place < length l.self.numbers.items
