-- The cells of a table in one list, row by row.
use Rattle.std.specs.Prelude.{◌≡◌, ◌⊎◌, ◌+◌, ◌*◌, ◌<◌, ℕ, List, Some, slice_get, Vec}
use Rattle.std.specs.declared.alloc.Global.{Global}
use Rattle.fancy_regex_table.specs.declared.row.Cell.{Cell}
use Rattle.fancy_regex_table.specs.declared.row.Cell.TheVariants.{Next, Unknown, Empty, EndsHere, EndsEarlier, Idle}
use Rattle.fancy_regex_table.specs.declared.rows.FreshRow.{FreshRow}

-- the cell stands at this place, or nothing is known
abbrev pub IsFoundCell : List Cell → ℕ → Cell → Type 0
IsFoundCell cells place cell = (cell ≡ Unknown) ⊎ (slice_get cells place ≡ Some cell)

-- the cell by the place where its row begins, if each row has so many cells
abbrev pub placed_cell : ℕ → Cell → Cell
placed_cell classes (Next begins ends row) = Next begins ends (row * classes)
placed_cell classes Unknown = Unknown
placed_cell classes Empty = Empty
placed_cell classes EndsHere = EndsHere
placed_cell classes EndsEarlier = EndsEarlier
placed_cell classes Idle = Idle

-- that, or unknown
abbrev pub IsPlaced : ℕ → Cell → Cell → Type 0
IsPlaced classes made cell = (cell ≡ Unknown) ⊎ (cell ≡ placed_cell classes made)

-- it is that of a row and a class
pub record IsCellOf (rows : List (Vec Cell Global)) (classes number class : ℕ) (cell : Cell) : Type 0 where
  pub row : Vec Cell Global
  pub made : Cell
  pub is_there : slice_get rows number ≡ Some row
  pub is_made : slice_get row.items class ≡ Some made
  pub is_placed : cell ≡ placed_cell classes made

abbrev pub IsFlatCell : List (Vec Cell Global) → ℕ → ℕ → ℕ → Cell → Type 0
IsFlatCell rows classes number class cell = (cell ≡ Unknown) ⊎ IsCellOf rows classes number class cell

-- the cells, row by row
abbrev pub AreFlat : List (Vec Cell Global) → ℕ → List Cell → Type 0
AreFlat rows classes cells = (place : ℕ) (cell : Cell) → slice_get cells place ≡ Some cell
    → (number class : ℕ) → class < classes → place ≡ number * classes + class → IsFlatCell rows classes number class cell

-- the row for searches that begin, by the place where it begins
pub record IsPlacedRow (classes : ℕ) (fresh : List FreshRow) (it : FreshRow) : Type 0 where
  pub i : ℕ
  pub row : FreshRow
  pub is_there : slice_get fresh i ≡ Some row
  pub before : it.before ≡ row.before
  pub place : it.row ≡ row.row * classes

abbrev pub ArePlaced : ℕ → List FreshRow → List FreshRow → Type 0
ArePlaced classes fresh placed = (i : ℕ) (it : FreshRow) → slice_get placed i ≡ Some it → IsPlacedRow classes fresh it
