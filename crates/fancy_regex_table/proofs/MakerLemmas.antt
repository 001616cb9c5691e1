-- Rows and cells that are added to a table.
use Rattle.std.proofs.Common.{◌≡◌, ℕ, ◌<◌, List, [], ◌∷◌, ◌++◌, length, Option, Some, sym, ap, subst, ◌∙◌, Vec}
use Rattle.std.specs.Prelude.{slice_get}
use Rattle.std.specs.declared.alloc.Global.{Global}
use Rattle.fancy_regex_table.specs.LeafSets.{no_leaves}
use Rattle.fancy_regex_table.specs.Cells.{Parts, IsRight}
use Rattle.fancy_regex_table.specs.Making.{BeginsWith, AreRightCells}
use Rattle.fancy_regex_table.specs.Made.{AreRightRows, IsRowOfCells, AreFresh}
use Rattle.fancy_regex_table.specs.declared.columns.Column.{Column}
use Rattle.fancy_regex_table.specs.declared.row.Cell.{Cell}
use Rattle.fancy_regex_table.specs.declared.row.Row.{Row}
use Rattle.fancy_regex_table.specs.declared.row.Row.TheVariants.{Fresh}
use Rattle.fancy_regex_table.specs.declared.rows.FreshRow.{FreshRow}
use Rattle.fancy_regex_table.specs.declared.sort.Sort.{Sort}
use Rattle.std.proofs.Common.{false, get_or, None}
use Rattle.std.specs.Prelude.{IfSome}
use Rattle.fancy_regex_states.specs.declared.state.State.{State}
use Rattle.std.proofs.lemmas.Option.{slice_get-get_or}
use Rattle.fancy_regex_table.specs.Cells.{sort_before}
use Rattle.fancy_regex_table.specs.Making.{IsBegun, IsReading, AreHomes, IsFreshTarget, IsOpenTarget, IsRightTarget}
use Rattle.fancy_regex_table.specs.Made.{AreReadingsOf, IsKnownOf, IsCellTo}
use Rattle.fancy_regex_table.specs.Readings.{IsReadingAt, IsBegunAt}
use Rattle.fancy_regex_table.specs.Rows.{IsNumberOf}
use Rattle.fancy_regex_table.specs.declared.begun.Begun.{Begun}
use Rattle.fancy_regex_table.specs.declared.begun.Home.{Home}
use Rattle.fancy_regex_table.specs.declared.begun.Reading.{Reading}
use Rattle.fancy_regex_table.specs.declared.maker.Known.{Known}
use Rattle.fancy_regex_table.specs.declared.row.Found.{Found}
use Rattle.fancy_regex_table.specs.declared.row.Row.TheVariants.{Open}
use Rattle.fancy_regex_table.specs.declared.target.Target.{Target}
use Rattle.fancy_regex_table.proofs.Adding.{pushed, right_more, fresh_row_is}

pub cells_more : (parts : Parts) (columns : List Column) (rows more : List Row) (row : Row) (cells : List Cell) → BeginsWith more rows
    → AreRightCells parts columns rows row cells → AreRightCells parts columns more row cells
cells_more parts columns rows more row cells begins right k column cell a b =
    right_more parts rows more row column.sort column.sample cell begins (right k column cell a b)

pub right_rows_more : (parts : Parts) (columns : List Column) (rows more : List Row) (cells : List (Vec Cell Global)) → BeginsWith more rows
    → AreRightRows parts columns rows cells → AreRightRows parts columns more cells
right_rows_more parts columns rows more cells begins right r made there =
    let it = right r made there in
    record { row = it.row; is_there = begins r it.row it.is_there; right = cells_more parts columns rows more it.row made.items begins it.right }

pub right_rows_pushed : (parts : Parts) (columns : List Column) (rows : List Row) (cells : List (Vec Cell Global)) (made : Vec Cell Global) (row : Row)
    → AreRightRows parts columns rows cells → slice_get rows (length cells) ≡ Some row → AreRightCells parts columns rows row made.items
    → AreRightRows parts columns rows (cells ++ made ∷ [])
right_rows_pushed parts columns rows cells made row right there new =
    pushed (λ (r : ℕ) (m : Vec Cell Global). IsRowOfCells parts columns rows r m.items) cells made right (record { row = row; is_there = there; right = new })

-- the cells so far and one more
pub right_cells_pushed : (parts : Parts) (columns : List Column) (rows : List Row) (row : Row) (cells : List Cell) (cell : Cell)
    → AreRightCells parts columns rows row cells
    → ((column : Column) → slice_get columns (length cells) ≡ Some column → IsRight parts rows row column.sort column.sample cell)
    → AreRightCells parts columns rows row (cells ++ cell ∷ [])
right_cells_pushed parts columns rows row cells cell right new k column it there is =
    pushed (λ (n : ℕ) (x : Cell). (c : Column) → slice_get columns n ≡ Some c → IsRight parts rows row c.sort c.sample x) cells cell
    (λ n x e c h. right n c x h e) (λ c h. new c h) k it is column there

pub fresh_is_right : (parts : Parts) (columns : List Column) (rows : List Row) (cells : List (Vec Cell Global)) (i k : ℕ) (made : Vec Cell Global) (before : Sort) (column : Column) (cell : Cell)
    → AreRightRows parts columns rows cells → slice_get cells i ≡ Some made → slice_get rows i ≡ Some (Fresh before) → slice_get columns k ≡ Some column
    → slice_get made.items k ≡ Some cell → IsRight parts rows (Fresh before) column.sort column.sample cell
fresh_is_right parts columns rows cells i k made before column cell right there is_fresh is_column is_cell =
    let it = right i made there in
    let same : Some it.row ≡ Some (Fresh before) = sym it.is_there ∙ is_fresh in
    let row_is : it.row ≡ Fresh before = cc in
    subst (λ (r : Row). IsRight parts rows r column.sort column.sample cell) row_is (it.right k column cell is_column is_cell)

fresh_number_more : (rows more : List Row) (before : Sort) (number : Option ℕ) → BeginsWith more rows
    → IfSome number (λ n. slice_get rows n ≡ Some (Fresh before)) → IfSome number (λ n. slice_get more n ≡ Some (Fresh before))
fresh_number_more rows more before None begins is = is
fresh_number_more rows more before (Some n) begins is = begins n (Fresh before) is

-- what is known of a row is so with more rows
pub known_more : (states : List State) (homes : List Home) (rows more : List Row) (row : Row) (known : Known) → BeginsWith more rows
    → IsKnownOf states homes rows row known → IsKnownOf states homes more row known
known_more states homes rows more row known begins is = record {
  home = is.home;
  fresh = fresh_number_more rows more (sort_before row) known.fresh begins is.fresh;
  readings = is.readings;
}

pub fresh_more : (rows more : List Row) (fresh : List FreshRow) → BeginsWith more rows → AreFresh rows fresh → AreFresh more fresh
fresh_more rows more fresh begins all i it there = begins it.row (Fresh it.before) (all i it there)

pub fresh_pushed : (rows : List Row) (fresh : List FreshRow) (it : FreshRow) → AreFresh rows fresh → slice_get rows it.row ≡ Some (Fresh it.before)
    → AreFresh rows (fresh ++ it ∷ [])
fresh_pushed rows fresh it all new = pushed (λ (i : ℕ) (f : FreshRow). slice_get rows f.row ≡ Some (Fresh f.before)) fresh it all new

pub fresh_rows_more : (rows more : List Row) (fresh : List FreshRow) (before : Sort) (number : ℕ) → AreFresh rows fresh → BeginsWith more rows
    → IsNumberOf more (Fresh before) number → AreFresh more (fresh ++ record { before = before; row = number } ∷ [])
fresh_rows_more rows more fresh before number all begins is =
    fresh_pushed more fresh (record { before = before; row = number }) (fresh_more rows more fresh begins all)
    (is.is_there ∙ ap Some (fresh_row_is is.same before is.says))

-- there is a row of each number
pub row_at : (rows : List Row) (n : ℕ) → n < length rows → (row : Row) × (slice_get rows n ≡ Some row)
row_at rows n lt =
    let d : Row = Fresh (record { edge = false; newline = false; carriage_return = false; word = false; matched = no_leaves }) in
    (get_or rows n d, slice_get-get_or rows n d lt)

-- the cell of a fresh row
pub fresh_right : (parts : Parts) (rows : List Row) (row : Row) (before after : Sort) (c : Option ℕ) (begun : Begun) (target : Target) → row ≡ Fresh before
    → IsFreshTarget begun after target → IsBegun parts (sort_before row) after c begun → IsRightTarget parts rows row after c target
fresh_right parts rows row before after c begun target is fresh =
    subst (λ (r : Row). IsBegun parts (sort_before r) after c begun → IsRightTarget parts rows r after c target) (sym is)
    (λ begins s at next start last place is_in. fresh parts rows s before c at next start last place is_in (begins s at next place))

-- what is right for the states of a row is right for the row
abbrev pub IsOpenAnswer : Parts → Found → Reading → Option ℕ → Begun → Cell → Target → Type 0
IsOpenAnswer parts found reading c begun fresh target =
    (rows : List Row) (before : Sort) (own later : List ℕ) → IsReading parts.states before own later reading
    → IsBegun parts before reading.after c begun → IsRight parts rows (Fresh before) reading.after c fresh
    → IsOpenTarget parts rows before own later found reading.after c target

pub open_right : (parts : Parts) (rows : List Row) (row : Row) (before : Sort) (own later : Vec ℕ Global) (found : Found) (readings : List Reading) (reading : Reading)
    (after : Sort) (c : Option ℕ) (begun : Begun) (fresh : Cell) (target : Target) → row ≡ Open before own later found
    → IsReadingAt readings after reading → IsOpenAnswer parts found reading c begun fresh target
    → AreReadingsOf parts.states row readings → IsBegun parts (sort_before row) after c begun → IsRight parts rows (Fresh (sort_before row)) after c fresh
    → IsRightTarget parts rows row after c target
open_right parts rows row before own later found readings reading after c begun fresh target is at answer =
    subst (λ (r : Row). AreReadingsOf parts.states r readings → IsBegun parts (sort_before r) after c begun → IsRight parts rows (Fresh (sort_before r)) after c fresh
    → IsRightTarget parts rows r after c target) (sym is)
    (subst (λ (a : Sort). AreReadingsOf parts.states (Open before own later found) readings → IsBegun parts before a c begun → IsRight parts rows (Fresh before) a c fresh
    → IsRightTarget parts rows (Open before own later found) a c target) at.0
    (λ all begins right s at_now next start last place is_in.
    answer rows before own.items later.items (all at.1.0 reading at.1.1) begins right s at_now next start last place is_in))

-- what is made of the parts of a table
pub begun_right : (parts : Parts) (columns : List Column) (homes : List Home) (before : Sort) (k : ℕ) (begun : Begun) (column : Column) → AreHomes parts columns homes
    → IsBegunAt homes before k begun → slice_get columns k ≡ Some column → IsBegun parts before column.sort column.sample begun
begun_right parts columns homes before k begun column all at there =
    subst (λ (b : Sort). IsBegun parts b column.sort column.sample begun) at.sort
    (all at.place at.home at.is_there k column begun there at.begun_is)

-- the cell that was made of the parts
pub cell_right : (parts : Parts) (columns : List Column) (homes : List Home) (rows more : List Row) (row : Row) (k : ℕ) (column : Column) (begun : Begun)
    (readings : List Reading) (fresh cell : Cell) (target : Target) → AreHomes parts columns homes → IsBegunAt homes (sort_before row) k begun
    → slice_get columns k ≡ Some column → IsRight parts rows (Fresh (sort_before row)) column.sort column.sample fresh
    → ((all : List Row) → AreReadingsOf parts.states row readings → IsBegun parts (sort_before row) column.sort column.sample begun
    → IsRight parts all (Fresh (sort_before row)) column.sort column.sample fresh → IsRightTarget parts all row column.sort column.sample target)
    → AreReadingsOf parts.states row readings → IsCellTo rows more target cell → IsRight parts more row column.sort column.sample cell
cell_right parts columns homes rows more row k column begun readings fresh cell target all at there fresh_right_here target_is read cell_is s at_now next start last place is_in =
    cell_is s column.sort at_now next start last
    (target_is rows read (begun_right parts columns homes (sort_before row) k begun column all at there) fresh_right_here s at_now next start last place is_in)
