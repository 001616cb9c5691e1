use Rattle.std.proofs.Common.{◌≡◌, Some, length}
use Rattle.std.specs.Prelude.{slice_get}
use Rattle.fancy_regex_table.specs.Making.{parts_of, BeginsWith, AreHomes, AreRightCells}
use Rattle.fancy_regex_table.specs.Made.{AreRightRows}
use Rattle.fancy_regex_table.specs.declared.row.Row.{Row}
use Rattle.fancy_regex_table.proofs.maker.cells_of.Given as goal

abbrev pub invariant-loop-k : goal.invariant-loop-k
invariant-loop-k l = record {
  long : length l.made.items ≡ l.k;
  grows : BeginsWith l.rows.list.items l.fn.rows.list.items;
  right : AreHomes (parts_of l.context.pattern.now) l.context.columns.now l.context.homes.now → AreRightRows (parts_of l.context.pattern.now) l.context.columns.now l.fn.rows.list.items l.cells
      → (row : Row) → slice_get l.fn.rows.list.items l.number ≡ Some row → AreRightCells (parts_of l.context.pattern.now) l.context.columns.now l.rows.list.items row l.made.items;
}
