use Rattle.std.proofs.Common.{◌≡◌, ◌+◌, ◌*◌, length}
use Rattle.fancy_regex_table.specs.Flat.{AreFlat}
use Rattle.fancy_regex_table.proofs.flat.flat_cells.Given as goal

abbrev pub invariant-loop-number : goal.invariant-loop-number
invariant-loop-number l = record {
  long : length l.cells.items ≡ l.number * l.classes;
  flat : AreFlat l.rows l.classes l.cells.items;
}

abbrev pub invariant-loop-class : goal.invariant-loop-class
invariant-loop-class l = record {
  long : length l.cells.items ≡ l.number * l.classes + l.class;
  flat : AreFlat l.rows l.classes l.cells.items;
}
