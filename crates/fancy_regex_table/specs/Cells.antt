-- What rows and cells say of a search.
use Rattle.std.specs.Prelude.{◌≡◌, ◌<◌, ◌≤◌, ℕ, Bool, List, Option, Some, None, true, is_some, slice_get, IsCharBoundary, if◌then◌else◌}
use Rattle.fancy_regex_class.specs.declared.class.CharClassMatcher.{CharClassMatcher}
use Rattle.fancy_regex_states.specs.Attempts.{View, Continuation}
use Rattle.fancy_regex_states.specs.declared.state.State.{State}
use Rattle.fancy_regex_table.specs.Ends.{or_else, end_at, first_end}
use Rattle.fancy_regex_table.specs.Meanings.{IsMeaning, AllHoldAs, AllReadAs}
use Rattle.fancy_regex_table.specs.declared.row.Cell.{Cell}
use Rattle.fancy_regex_table.specs.declared.row.Cell.TheVariants.{Next, Unknown, Empty, EndsHere, EndsEarlier, Idle}
use Rattle.fancy_regex_table.specs.declared.row.Found.{Found}
use Rattle.fancy_regex_table.specs.declared.row.Found.TheVariants.{Nothing, Own, Later}
use Rattle.fancy_regex_table.specs.declared.row.Row.{Row}
use Rattle.fancy_regex_table.specs.declared.row.Row.TheVariants.{Fresh, Open}
use Rattle.fancy_regex_table.specs.declared.sort.Sort.{Sort}

-- the states of a pattern, and how they read
pub record Parts : Type 0 where
  pub states : List State
  pub entry : ℕ
  pub matchers : List CharClassMatcher
  pub unicode : Bool

-- a search of a text for the first match that starts at `from` or later and ends by `stop`
pub record Search : Type 0 where
  pub text : List ℕ
  pub view : View
  pub go : ℕ → Continuation
  pub entry : ℕ
  pub from : ℕ
  pub stop : ℕ

-- no match starts before this place
abbrev pub NoneBefore : Search → ℕ → Type 0
NoneBefore s to = (p : ℕ) → s.from ≤ p → p < to → IsCharBoundary s.text p → end_at s.go p s.entry ≡ None

-- no match starts between these places
abbrev pub NoneBetween : Search → ℕ → ℕ → Type 0
NoneBetween s low high = (p : ℕ) → low < p → p < high → IsCharBoundary s.text p → end_at s.go p s.entry ≡ None

-- the end that was noted
abbrev pub noted : Found → ℕ → Option ℕ
noted Nothing last = None
noted Own last = Some last
noted Later last = None

-- unless an attempt has matched: if none of the states has a way, no match starts between the first attempt and this place
abbrev pub AreLate : Search → Found → ℕ → ℕ → List ℕ → List ℕ → Type 0
AreLate s Nothing at start own later = first_end s.go at own ≡ None → first_end s.go at later ≡ None → NoneBetween s start at
AreLate s Own at start own later = Unit {0}
AreLate s Later at start own later = Unit {0}

-- The first attempt that is under way began at `start`, and attempts from later starts are in the states `later`.
pub record IsOpen (s : Search) (at start last : ℕ) (own later : List ℕ) (found : Found) : Type 0 where
  pub low : s.from ≤ start
  pub boundary : IsCharBoundary s.text start
  pub early : NoneBefore s start
  pub own_end : end_at s.go start s.entry ≡ or_else (first_end s.go at own) (noted found last)
  pub late : AreLate s found at start own later

-- the search is in this row
abbrev pub IsIn : Search → Row → ℕ → ℕ → ℕ → Type 0
IsIn s (Fresh before) at start last = NoneBefore s at
IsIn s (Open before own later found) at start last = IsOpen s at start last own.items later.items found

abbrev pub sort_before : Row → Sort
sort_before (Fresh before) = before
sort_before (Open before own later found) = before

-- A character like `c` stands at this place, between characters of these sorts; the place after it is `next`.
pub record IsPlace (parts : Parts) (s : Search) (before after : Sort) (c : Option ℕ) (at next : ℕ) : Type 0 where
  pub meaning : IsMeaning parts.states s.view s.stop s.go
  pub entry : s.entry ≡ parts.entry
  pub low : s.from ≤ at
  pub high : at ≤ s.stop
  pub boundary : IsCharBoundary s.text at
  pub holds : AllHoldAs parts.states s.view at before after
  pub reads : AllReadAs parts.unicode parts.matchers parts.states s.view s.stop at c
  pub next_is : s.view.next at ≡ next
  pub alone : (p : ℕ) → at < p → p < next → IsCharBoundary s.text p → ⊥

-- the match that starts here is the first, and ends there
pub record IsFirstMatch (s : Search) (start end : ℕ) : Type 0 where
  pub low : s.from ≤ start
  pub boundary : IsCharBoundary s.text start
  pub early : NoneBefore s start
  pub end_is : end_at s.go start s.entry ≡ Some end

-- what is noted by a cell
abbrev pub begun_at : Bool → ℕ → ℕ → ℕ
begun_at begins at start = if begins then at else start

-- the search is in this row after the character; where an end is noted the first attempt has a match
pub record GoesTo (s : Search) (after : Sort) (at next start last : ℕ) (begins ends : Bool) (row : Row) : Type 0 where
  pub sort : sort_before row ≡ after
  pub is_in : IsIn s row next (begun_at begins at start) (begun_at ends at last)
  pub sign : ends ≡ true → is_some (end_at s.go (begun_at begins at start) s.entry) ≡ true

-- it is in the row of this number, or that begins at this place, whatever numbers rows
pub record GoesToRow (s : Search) (rows : ℕ → Option Row) (after : Sort) (at next start last : ℕ) (begins ends : Bool) (number : ℕ) : Type 0 where
  pub row : Row
  pub is_there : rows number ≡ Some row
  pub goes : GoesTo s after at next start last begins ends row

-- what the cell says is so
abbrev pub TellsBy : Search → (ℕ → Option Row) → Sort → ℕ → ℕ → ℕ → ℕ → Cell → Type 0
TellsBy s rows after at next start last (Next begins ends row) = GoesToRow s rows after at next start last begins ends row
TellsBy s rows after at next start last Unknown = Unit {0}
TellsBy s rows after at next start last Empty = IsFirstMatch s at at
TellsBy s rows after at next start last EndsHere = IsFirstMatch s start at
TellsBy s rows after at next start last EndsEarlier = IsFirstMatch s start last
TellsBy s rows after at next start last Idle = NoneBefore s next

-- the same by the numbers of rows in a list
abbrev pub Tells : Search → List Row → Sort → ℕ → ℕ → ℕ → ℕ → Cell → Type 0
Tells s rows after at next start last cell = TellsBy s (slice_get rows) after at next start last cell

-- the cell tells what is so wherever the search is in the row and such a character stands
abbrev pub IsRightBy : Parts → (ℕ → Option Row) → Row → Sort → Option ℕ → Cell → Type 0
IsRightBy parts rows row after c cell = (s : Search) (at next start last : ℕ) → IsPlace parts s (sort_before row) after c at next
    → IsIn s row at start last → TellsBy s rows after at next start last cell

abbrev pub IsRight : Parts → List Row → Row → Sort → Option ℕ → Cell → Type 0
IsRight parts rows row after c cell = IsRightBy parts (slice_get rows) row after c cell
