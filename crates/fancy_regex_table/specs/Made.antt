-- The rows and the cells of a table.
use Rattle.std.specs.Prelude.{◌≡◌, ℕ, List, Option, Some, IfSome, slice_get, Vec}
use Rattle.std.specs.declared.alloc.Global.{Global}
use Rattle.fancy_regex_states.specs.declared.state.State.{State}
use Rattle.fancy_regex_table.specs.Cells.{Parts, Search, Tells, sort_before}
use Rattle.fancy_regex_table.specs.Making.{AreReadings, AreRightCells, TellsTarget}
use Rattle.fancy_regex_table.specs.Readings.{IsHomeAt}
use Rattle.fancy_regex_table.specs.declared.begun.Home.{Home}
use Rattle.fancy_regex_table.specs.declared.begun.Reading.{Reading}
use Rattle.fancy_regex_table.specs.declared.columns.Column.{Column}
use Rattle.fancy_regex_table.specs.declared.maker.Known.{Known}
use Rattle.fancy_regex_table.specs.declared.row.Cell.{Cell}
use Rattle.fancy_regex_table.specs.declared.row.Row.{Row}
use Rattle.fancy_regex_table.specs.declared.row.Row.TheVariants.{Fresh, Open}
use Rattle.fancy_regex_table.specs.declared.rows.FreshRow.{FreshRow}
use Rattle.fancy_regex_table.specs.declared.sort.Sort.{Sort}
use Rattle.fancy_regex_table.specs.declared.target.Target.{Target}

-- what the states of a row lead to
abbrev pub AreReadingsOf : List State → Row → List Reading → Type 0
AreReadingsOf states (Fresh before) readings = Unit {0}
AreReadingsOf states (Open before own later found) readings = AreReadings states before own.items later.items readings

-- what is known of the row
pub record IsKnownOf (states : List State) (homes : List Home) (rows : List Row) (row : Row) (known : Known) : Type 0 where
  pub home : IsHomeAt homes (sort_before row) known.home.now
  pub fresh : IfSome known.fresh (λ number. slice_get rows number ≡ Some (Fresh (sort_before row)))
  pub readings : AreReadingsOf states row known.readings.now

-- each list of cells is that of a row
pub record IsRowOfCells (parts : Parts) (columns : List Column) (rows : List Row) (r : ℕ) (cells : List Cell) : Type 0 where
  pub row : Row
  pub is_there : slice_get rows r ≡ Some row
  pub right : AreRightCells parts columns rows row cells

abbrev pub AreRightRows : Parts → List Column → List Row → List (Vec Cell Global) → Type 0
AreRightRows parts columns rows cells = (r : ℕ) (made : Vec Cell Global) → slice_get cells r ≡ Some made → IsRowOfCells parts columns rows r made.items

-- what the cell says is so if what it is to lead to does
abbrev pub IsCellTo : List Row → List Row → Target → Cell → Type 0
IsCellTo rows more target cell = (s : Search) (after : Sort) (at next start last : ℕ) → TellsTarget s rows after at next start last target
    → Tells s more after at next start last cell

-- each row for searches that begin is fresh
abbrev pub AreFreshBy : (ℕ → Option Row) → List FreshRow → Type 0
AreFreshBy rows fresh = (i : ℕ) (it : FreshRow) → slice_get fresh i ≡ Some it → rows it.row ≡ Some (Fresh it.before)

abbrev pub AreFresh : List Row → List FreshRow → Type 0
AreFresh rows fresh = AreFreshBy (slice_get rows) fresh

-- the rows of a table
pub record IsMadeOf (parts : Parts) (columns : List Column) (cells : List (Vec Cell Global)) (fresh : List FreshRow) : Type 0 where
  pub rows : List Row
  pub right : AreRightRows parts columns rows cells
  pub fresh_rows : AreFresh rows fresh
