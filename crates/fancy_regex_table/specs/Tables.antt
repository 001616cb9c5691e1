-- What a table says of a search.
use Rattle.std.specs.Prelude.{◌≡◌, ◌⊎◌, ◌<◌, ◌≤◌, ◌+◌, ℕ, Bool, false, List, Option, Some, None, slice_get, slice_index, length, IfSome, IsCharBoundary, IsUtf8}
use Rattle.std.specs.Char.{IsScalar, len_utf8}
use Rattle.regex_hir.specs.Text.{char_at, char_before}
use Rattle.fancy_regex_class.specs.declared.class.CharClassMatcher.{CharClassMatcher}
use Rattle.fancy_regex_states.specs.Attempts.{ShowsAll}
use Rattle.fancy_regex_states.specs.First.{state_at}
use Rattle.fancy_regex_states.specs.declared.rules.Rules.{Rules}
use Rattle.fancy_regex_table.specs.Cells.{Parts, Search, IsIn, IsRightBy, NoneBefore, IsFirstMatch, sort_before}
use Rattle.fancy_regex_table.specs.Made.{AreFreshBy}
use Rattle.fancy_regex_table.specs.Making.{ReadsAlike}
use Rattle.fancy_regex_table.specs.Meanings.{IsMeaning}
use Rattle.fancy_regex_table.specs.Needed.{IsNeededOf}
use Rattle.fancy_regex_table.specs.Sorts.{sort_at, AreAsked}
use Rattle.fancy_regex_table.specs.Wides.{class_of}
use Rattle.fancy_regex_table.specs.declared.columns.Column.{Column}
use Rattle.fancy_regex_table.specs.declared.row.Cell.{Cell}
use Rattle.fancy_regex_table.specs.declared.rows.FreshRow.{FreshRow}
use Rattle.fancy_regex_table.specs.declared.row.Row.{Row}
use Rattle.fancy_regex_table.specs.declared.sort.Asked.{Asked}
use Rattle.fancy_regex_table.specs.declared.sort.Sort.{Sort}
use Rattle.fancy_regex_table.specs.declared.table.Passed.{Passed}
use Rattle.fancy_regex_table.specs.declared.table.Passed.TheVariants as P
use Rattle.fancy_regex_table.specs.declared.table.Place.{Place}
use Rattle.fancy_regex_table.specs.declared.table.Table.{Table}
use Rattle.fancy_regex_table.specs.declared.wide.Wide.{Wide}
use Rattle.fancy_regex_table.specs.declared.wide.WideChar.{WideChar}

-- the class of this number is that of the character
pub record HasColumn (parts : Parts) (columns : List Column) (asked : Asked) (c : Option ℕ) (class : ℕ) : Type 0 where
  pub column : Column
  pub is_there : slice_get columns class ≡ Some column
  pub sort : column.sort ≡ sort_at parts.matchers asked parts.unicode c
  pub alike : (q : ℕ) → q < length parts.states → ReadsAlike parts.unicode parts.matchers c column.sample (state_at parts.states q)

-- the cells, class by class in each row
abbrev pub AreCells : Parts → (ℕ → Option Row) → List Column → List Cell → Type 0
AreCells parts rows columns cells = (place class : ℕ) (row : Row) (column : Column) (cell : Cell) → rows place ≡ Some row
    → slice_get columns class ≡ Some column → slice_get cells (place + class) ≡ Some cell → IsRightBy parts rows row column.sort column.sample cell

-- a row for searches that begin after a character of this sort
pub record IsFreshRow (fresh : List FreshRow) (sort : Sort) (number : ℕ) : Type 0 where
  pub place : ℕ
  pub row : FreshRow
  pub is_there : slice_get fresh place ≡ Some row
  pub sort_is : row.before ≡ sort
  pub number_is : row.row ≡ number

-- for each class the row for searches that begin after one of its characters, if there is one
abbrev pub AreBegins : List Column → List FreshRow → List (Option ℕ) → Type 0
AreBegins columns fresh begins = (class number : ℕ) (column : Column) → slice_get begins class ≡ Some (Some number)
    → slice_get columns class ≡ Some column → IsFreshRow fresh column.sort number

-- each cell of the table is right; a row goes by the place where its cells begin
pub record IsTable (parts : Parts) (table : Table) : Type 0 where
  pub rows : ℕ → Option Row
  pub columns : List Column
  pub unicode : table.unicode ≡ parts.unicode
  pub asks : AreAsked table.asked parts.states
  pub cells : AreCells parts rows columns table.cells.items
  pub fresh : AreFreshBy rows table.fresh.items
  pub begins : AreBegins columns table.fresh.items table.begins.items
  pub needed : IfSome table.needed (IsNeededOf table.cells.items table.fresh.items table.begins.items table.classes table.wide)
  pub ascii : (c : ℕ) → c < 128 → HasColumn parts columns table.asked (Some c) (slice_index table.classes c)
  pub end : HasColumn parts columns table.asked None 0
  pub wide : (c : ℕ) → IsScalar c → 128 ≤ c → 0 < class_of parts.unicode parts.matchers table.wide c
      → HasColumn parts columns table.asked (Some c) (class_of parts.unicode parts.matchers table.wide c)

-- The search is one of this text by these states, and no end of the text is hidden from it.
pub record IsSearchOf (parts : Parts) (rules : Rules) (s : Search) : Type 0 where
  pub meaning : IsMeaning parts.states s.view s.stop s.go
  pub shows : ShowsAll parts.matchers rules s.text s.view
  pub unicode : rules.unicode ≡ parts.unicode
  pub start_shown : rules.no_start_text ≡ false
  pub end_shown : rules.no_end_text ≡ false
  pub entry : s.entry ≡ parts.entry
  pub utf8 : IsUtf8 s.text
  pub inside : s.stop ≤ length s.text

-- a place in the range at which a search goes on
pub record IsPlaceOf (s : Search) (at read : ℕ) : Type 0 where
  pub low : s.from ≤ at
  pub order : at ≤ read
  pub high : read ≤ s.stop
  pub boundary : IsCharBoundary s.text at
  pub early : NoneBefore s at

-- what was found is so
abbrev pub IsPassed : Search → Passed → Type 0
IsPassed s (P.Match start end read) = IsFirstMatch s start end × (start ≤ read) × (read ≤ s.stop)
IsPassed s P.Ended = NoneBefore s (s.stop + 1)
IsPassed s (P.Idle at) = IsPlaceOf s at at × (s.from < at)
IsPassed s (P.Unknown from read) = IsPlaceOf s from read

-- a search that stands at this place
pub record Stands (matchers : List CharClassMatcher) (asked : Asked) (unicode : Bool) (rows : ℕ → Option Row) (s : Search) (place : Place) : Type 0 where
  pub row : Row
  pub is_there : rows place.row ≡ Some row
  pub sort : sort_before row ≡ sort_at matchers asked unicode (char_before s.text place.at)
  pub is_in : IsIn s row place.at place.start place.last
  pub low : s.from ≤ place.start
  pub order : place.start ≤ place.at
  pub high : place.at ≤ s.stop
  pub boundary : IsCharBoundary s.text place.at
  pub start_boundary : IsCharBoundary s.text place.start

-- the place, or the start of the first attempt there
abbrev pub IsOffsetOf : Place → ℕ → Type 0
IsOffsetOf place x = (x ≡ place.start) ⊎ (x ≡ place.at)

-- what was found begins with the first attempt, or at the place
abbrev pub LiesAt : Place → Passed → Type 0
LiesAt place (P.Match start end read) = IsOffsetOf place start × (read ≡ place.at)
LiesAt place P.Ended = Unit {0}
LiesAt place (P.Idle next) = ⊥
LiesAt place (P.Unknown from read) = IsOffsetOf place from × (read ≡ place.at)

-- the search goes on after an ASCII character
pub record IsOnward (place : Place) (byte : ℕ) (next : Place) : Type 0 where
  pub ascii : byte < 128
  pub at : next.at ≡ place.at + 1
  pub start : IsOffsetOf place next.start

-- a place of the range, and the start of the first attempt there
pub record IsPlaceIn (text : List ℕ) (stop : ℕ) (place : Place) : Type 0 where
  pub order : place.start ≤ place.at
  pub high : place.at ≤ stop
  pub boundary : IsCharBoundary text place.at
  pub start_boundary : IsCharBoundary text place.start

-- the search goes on from one place to another one
pub record IsRunTo (text : List ℕ) (first : Place) (stop : ℕ) (to : Place) : Type 0 where
  pub low : first.start ≤ to.start
  pub onward : first.at ≤ to.at
  pub place : IsPlaceIn text stop to

-- it goes on at a later place
pub record IsLater (text : List ℕ) (place : Place) (stop : ℕ) (next : Place) : Type 0 where
  pub low : place.start ≤ next.start
  pub onward : place.at < next.at
  pub is_in : IsPlaceIn text stop next

-- a search begins at this place
pub record IsFreshAt (at : ℕ) (place : Place) : Type 0 where
  pub at_is : place.at ≡ at
  pub start_is : place.start ≡ at

-- an ASCII character ends the attempts that are under way, and a search begins after it
pub record IsIdleAfter (place : Place) (byte : ℕ) (next : Place) : Type 0 where
  pub ascii : byte < 128
  pub fresh : IsFreshAt (place.at + 1) next

-- what was found lies in the range
abbrev pub IsInRange : List ℕ → ℕ → ℕ → Passed → Type 0
IsInRange text low stop (P.Match start end read) = (low ≤ start) × (start ≤ read) × (read ≤ stop) × IsCharBoundary text start
IsInRange text low stop P.Ended = Unit {0}
IsInRange text low stop (P.Idle next) = (low < next) × (next ≤ stop) × IsCharBoundary text next
IsInRange text low stop (P.Unknown from read) = (low ≤ from) × (from ≤ read) × (read ≤ stop) × IsCharBoundary text from × IsCharBoundary text read

-- a character stands at the first place, and the next one begins at the second
pub record IsCharTo (text : List ℕ) (at c next : ℕ) : Type 0 where
  pub here : char_at text at ≡ Some c
  pub before_next : char_before text next ≡ Some c
  pub boundary_next : IsCharBoundary text next
  pub next_is : next ≡ at + len_utf8 c

-- an ASCII character stands here
abbrev pub IsAsciiAt : List ℕ → ℕ → ℕ → Type 0
IsAsciiAt text at c = IsCharTo text at c (at + 1)

-- A character stands here that is not ASCII; its class is not 0 only where it is known and the character ends by `stop`.
pub record IsWideTo (unicode : Bool) (matchers : List CharClassMatcher) (wide : Wide) (text : List ℕ) (at stop : ℕ) (it : WideChar) : Type 0 where
  pub c : ℕ
  pub is_scalar : IsScalar c
  pub low : 128 ≤ c
  pub char : IsCharTo text at c it.next
  pub class : 0 < it.class → it.class ≡ class_of unicode matchers wide c
  pub inside : 0 < it.class → it.next ≤ stop

-- the start, or this place in a row for searches that begin
abbrev pub IsStartAt : List FreshRow → Place → ℕ → Type 0
IsStartAt fresh place result = (result ≡ place.start) ⊎ ((result ≡ place.at) × ((sort : Sort) × IsFreshRow fresh sort place.row))
