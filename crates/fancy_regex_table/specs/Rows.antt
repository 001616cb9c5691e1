-- Rows and their numbers.
use Rattle.std.specs.Prelude.{◌≡◌, ◌<◌, ℕ, List, Option, Some, slice_get, length}
use Rattle.fancy_regex_table.specs.declared.row.Row.{Row}
use Rattle.fancy_regex_table.specs.declared.row.Row.TheVariants.{Fresh, Open}
use Rattle.fancy_regex_table.specs.declared.rows.Place.{Place}
use Rattle.fancy_regex_table.specs.declared.rows.Place.TheVariants.{Number, Free, Full}

-- the rows say the same
abbrev pub SameRow : Row → Row → Type 0
SameRow (Fresh a) (Fresh b) = a ≡ b
SameRow (Open a own later found) (Open b own2 later2 found2) =
    (a ≡ b) × (own.items ≡ own2.items) × (later.items ≡ later2.items) × (found ≡ found2)
SameRow (Fresh a) (Open b own2 later2 found2) = ⊥
SameRow (Open a own later found) (Fresh b) = ⊥

-- the row has this number, or one that says the same
pub record IsNumberOf (rows : List Row) (row : Row) (number : ℕ) : Type 0 where
  pub same : Row
  pub is_there : slice_get rows number ≡ Some same
  pub says : SameRow same row

-- what is said of the place where the row is looked for
abbrev pub IsPlaceOf : List Row → List (Option ℕ) → Row → Place → Type 0
IsPlaceOf rows numbers row (Number number) = IsNumberOf rows row number
IsPlaceOf rows numbers row (Free place) = place < length numbers
IsPlaceOf rows numbers row Full = Unit {0}
