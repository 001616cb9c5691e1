-- What is looked up in a table in the making.
use Rattle.std.specs.Prelude.{◌≡◌, ℕ, List, Some, slice_get}
use Rattle.fancy_regex_table.specs.declared.begun.Begun.{Begun}
use Rattle.fancy_regex_table.specs.declared.begun.Home.{Home}
use Rattle.fancy_regex_table.specs.declared.begun.Reading.{Reading}
use Rattle.fancy_regex_table.specs.declared.sort.Sort.{Sort}

-- the reading is there, before characters of this sort
abbrev pub IsReadingAt : List Reading → Sort → Reading → Type 0
IsReadingAt readings after reading = (reading.after ≡ after) × ((i : ℕ) × (slice_get readings i ≡ Some reading))

-- the attempts that begin after characters of this sort are there
abbrev pub IsHomeAt : List Home → Sort → Home → Type 0
IsHomeAt homes before home = (home.before ≡ before) × ((i : ℕ) × (slice_get homes i ≡ Some home))

-- it is what an attempt comes to that begins after a character of this sort and before one of the column
pub record IsBegunAt (homes : List Home) (before : Sort) (column : ℕ) (begun : Begun) : Type 0 where
  pub place : ℕ
  pub home : Home
  pub is_there : slice_get homes place ≡ Some home
  pub sort : home.before ≡ before
  pub begun_is : slice_get home.begun.items column ≡ Some (Some begun)
