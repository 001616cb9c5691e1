use Rattle.std.proofs.Common.{◌≡◌, length}
use Rattle.fancy_regex_table.specs.Making.{parts_of, AreHomes}
use Rattle.fancy_regex_table.specs.Made.{AreRightRows, AreFresh}
use Rattle.fancy_regex_table.proofs.maker.rows_of.Given as goal

abbrev pub invariant-loop-number : goal.invariant-loop-number
invariant-loop-number l = record {
  long : length l.cells.items ≡ l.number;
  fresh_rows : AreFresh l.rows.list.items l.fresh.items;
  right : AreHomes (parts_of l.fn.pattern) l.fn.columns l.fn.homes → AreRightRows (parts_of l.fn.pattern) l.fn.columns l.rows.list.items l.cells.items;
}
