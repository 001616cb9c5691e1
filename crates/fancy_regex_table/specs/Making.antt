-- What the parts of a table in the making say.
use Rattle.std.specs.Prelude.{◌≡◌, ◌⊎◌, ◌<◌, ℕ, Bool, true, List, Option, Some, None, slice_get, length}
use Rattle.regex_hir.specs.Text.{is_some_and}
use Rattle.fancy_regex_class.specs.declared.class.CharClassMatcher.{CharClassMatcher}
use Rattle.fancy_regex_states.specs.Attempts.{Continuation}
use Rattle.fancy_regex_states.specs.CharTests.{leaf_matches_char}
use Rattle.fancy_regex_states.specs.First.{state_at}
use Rattle.fancy_regex_states.specs.declared.state.State.{State}
use Rattle.fancy_regex_states.specs.declared.state.State.TheVariants as S
use Rattle.fancy_regex_table.specs.Ends.{or_else, end_if, end_at, first_end}
use Rattle.fancy_regex_table.specs.Sorts.{sort_at}
use Rattle.fancy_regex_table.specs.Meanings.{IsClosing}
use Rattle.fancy_regex_table.specs.Cells.{Parts, Search, IsIn, IsOpen, IsPlace, IsRight, Tells, GoesTo, NoneBefore, noted, sort_before}
use Rattle.fancy_regex_table.specs.declared.begun.Begun.{Begun}
use Rattle.fancy_regex_table.specs.declared.begun.Home.{Home}
use Rattle.fancy_regex_table.specs.declared.begun.Reading.{Reading}
use Rattle.fancy_regex_table.specs.declared.columns.Column.{Column}
use Rattle.fancy_regex_table.specs.declared.pattern.Pattern.{Pattern}
use Rattle.fancy_regex_table.specs.declared.row.Cell.{Cell}
use Rattle.fancy_regex_table.specs.declared.row.Found.{Found}
use Rattle.fancy_regex_table.specs.declared.row.Found.TheVariants.{Nothing, Own}
use Rattle.fancy_regex_table.specs.declared.row.Row.{Row}
use Rattle.fancy_regex_table.specs.declared.sort.Asked.{Asked}
use Rattle.fancy_regex_table.specs.declared.sort.Sort.{Sort}
use Rattle.fancy_regex_table.specs.declared.target.Target.{Target}
use Rattle.fancy_regex_table.specs.declared.target.Target.TheVariants as T

abbrev pub parts_of : Pattern → Parts
parts_of pattern = record {
  states = pattern.reader.states.now;
  entry = pattern.entry;
  matchers = pattern.reader.matchers.now;
  unicode = pattern.reader.unicode;
}

-- an attempt that begins at this place comes to this
abbrev pub IsBegun : Parts → Sort → Sort → Option ℕ → Begun → Type 0
IsBegun parts before after c begun = (s : Search) (at next : ℕ) → IsPlace parts s before after c at next
    → end_at s.go at s.entry ≡ or_else (first_end s.go next begun.nexts.items) (end_if begun.is_end at)

-- what the states of a row lead to before a character of this sort
pub record IsReading (states : List State) (before : Sort) (own later : List ℕ) (reading : Reading) : Type 0 where
  pub own_closed : IsClosing states before reading.after own reading.own
  pub later_closed : IsClosing states before reading.after later reading.later

abbrev pub AreReadings : List State → Sort → List ℕ → List ℕ → List Reading → Type 0
AreReadings states before own later readings = (i : ℕ) (reading : Reading) → slice_get readings i ≡ Some reading → IsReading states before own later reading

-- the attempts that begin after a character of this sort and before one of each column
abbrev pub IsHome : Parts → List Column → Home → Type 0
IsHome parts columns home = (k : ℕ) (column : Column) (begun : Begun) → slice_get columns k ≡ Some column
    → slice_get home.begun.items k ≡ Some (Some begun) → IsBegun parts home.before column.sort column.sample begun

abbrev pub AreHomes : Parts → List Column → List Home → Type 0
AreHomes parts columns homes = (h : ℕ) (home : Home) → slice_get homes h ≡ Some home → IsHome parts columns home

-- if none of the others has a way and none of the list that was made, none had before and none of those that were added
abbrev pub IsUnion : List ℕ → List ℕ → List ℕ → List ℕ → Type 0
IsUnion added others before after = (go : ℕ → Continuation) (j : ℕ) → first_end go j others ≡ None → first_end go j after ≡ None
    → (first_end go j before ≡ None) × (first_end go j added ≡ None)

-- what a cell is to lead to tells what is so
abbrev pub TellsTarget : Search → List Row → Sort → ℕ → ℕ → ℕ → ℕ → Target → Type 0
TellsTarget s rows after at next start last (T.Cell cell) = Tells s rows after at next start last cell
TellsTarget s rows after at next start last (T.Row row begins ends) = GoesTo s after at next start last begins ends row

-- it does so wherever the search is in the row and such a character stands
abbrev pub IsRightTarget : Parts → List Row → Row → Sort → Option ℕ → Target → Type 0
IsRightTarget parts rows row after c target = (s : Search) (at next start last : ℕ) → IsPlace parts s (sort_before row) after c at next
    → IsIn s row at start last → TellsTarget s rows after at next start last target

-- it does so where no attempt is under way
abbrev pub IsFreshTarget : Begun → Sort → Target → Type 0
IsFreshTarget begun after target = (parts : Parts) (rows : List Row) (s : Search) (before : Sort) (c : Option ℕ) (at next start last : ℕ)
    → IsPlace parts s before after c at next → NoneBefore s at
    → end_at s.go at s.entry ≡ or_else (first_end s.go next begun.nexts.items) (end_if begun.is_end at)
    → TellsTarget s rows after at next start last target

-- it does so where the first attempt has a match here or had one
abbrev pub IsOwnTarget : List ℕ → Bool → Sort → Target → Type 0
IsOwnTarget nexts is_end after target = (s : Search) (rows : List Row) (at next start last : ℕ) (own later : List ℕ) (found : Found)
    → IsOpen s at start last own later found → first_end s.go at own ≡ or_else (first_end s.go next nexts) (end_if is_end at)
    → (is_end ≡ true) ⊎ (found ≡ Own) → TellsTarget s rows after at next start last target

-- it does so where the first attempt has no match
abbrev pub IsLateTarget : List ℕ → Sort → Target → Type 0
IsLateTarget nexts after target = (s : Search) (rows : List Row) (at next start last : ℕ) (own later : List ℕ) (found : Found)
    → IsOpen s at start last own later found → first_end s.go at own ≡ or_else (first_end s.go next nexts) None
    → noted found last ≡ None → TellsTarget s rows after at next start last target

-- it does so where no attempt has a match
abbrev pub IsLaterTarget : List ℕ → List ℕ → Begun → Cell → Sort → Target → Type 0
IsLaterTarget nexts later_nexts begun fresh after target =
    (parts : Parts) (s : Search) (rows : List Row) (before : Sort) (c : Option ℕ) (at next start last : ℕ) (own later : List ℕ)
    → IsPlace parts s before after c at next → IsOpen s at start last own later Nothing
    → first_end s.go at own ≡ or_else (first_end s.go next nexts) None
    → (first_end s.go next nexts ≡ None → first_end s.go next later_nexts ≡ None → first_end s.go at later ≡ None)
    → end_at s.go at s.entry ≡ or_else (first_end s.go next begun.nexts.items) None
    → (NoneBefore s at → Tells s rows after at next start last fresh)
    → TellsTarget s rows after at next start last target

-- it does so if the cell does
abbrev pub IsRestarted : Cell → Sort → Target → Type 0
IsRestarted fresh after target = (s : Search) (rows : List Row) (at next start last : ℕ) → Tells s rows after at next start last fresh
    → TellsTarget s rows after at next start last target

-- it does so in a row that is not fresh
abbrev pub IsOpenTarget : Parts → List Row → Sort → List ℕ → List ℕ → Found → Sort → Option ℕ → Target → Type 0
IsOpenTarget parts rows before own later found after c target = (s : Search) (at next start last : ℕ) → IsPlace parts s before after c at next
    → IsOpen s at start last own later found → TellsTarget s rows after at next start last target

-- the second list begins with the first
abbrev pub BeginsWith : List Row → List Row → Type 0
BeginsWith more rows = (r : ℕ) (row : Row) → slice_get rows r ≡ Some row → slice_get more r ≡ Some row

-- the cells of a row, one for each column
abbrev pub AreRightCells : Parts → List Column → List Row → Row → List Cell → Type 0
AreRightCells parts columns rows row cells = (k : ℕ) (column : Column) (cell : Cell) → slice_get columns k ≡ Some column
    → slice_get cells k ≡ Some cell → IsRight parts rows row column.sort column.sample cell

-- the columns are those of the samples
abbrev pub IsColumnOf : List CharClassMatcher → Asked → Bool → Option ℕ → Column → Type 0
IsColumnOf matchers asked unicode sample column = (column.sample ≡ sample) × (column.sort ≡ sort_at matchers asked unicode sample)

-- there is a column of the sample
pub record HasColumnOf (matchers : List CharClassMatcher) (asked : Asked) (unicode : Bool) (columns : List Column) (k : ℕ) (sample : Option ℕ) : Type 0 where
  pub column : Column
  pub is_there : slice_get columns k ≡ Some column
  pub is_of : IsColumnOf matchers asked unicode sample column

abbrev pub AreColumnsOf : List CharClassMatcher → Asked → Bool → List (Option ℕ) → List Column → Type 0
AreColumnsOf matchers asked unicode samples columns = (k : ℕ) (sample : Option ℕ) → slice_get samples k ≡ Some sample → HasColumnOf matchers asked unicode columns k sample

-- the state reads one character as the other, if it reads
abbrev pub ReadsAlike : Bool → List CharClassMatcher → Option ℕ → Option ℕ → State → Type 0
ReadsAlike unicode matchers one other (S.Read leaf next) =
    is_some_and one (leaf_matches_char unicode matchers leaf) ≡ is_some_and other (leaf_matches_char unicode matchers leaf)
ReadsAlike unicode matchers one other _ = Unit {0}

-- neither the states nor the assertions tell the characters apart
pub record AreAlike (unicode : Bool) (matchers : List CharClassMatcher) (states : List State) (asked : Asked) (one other : Option ℕ) : Type 0 where
  pub sorts : sort_at matchers asked unicode one ≡ sort_at matchers asked unicode other
  pub alike : (q : ℕ) → q < length states → ReadsAlike unicode matchers one other (state_at states q)
