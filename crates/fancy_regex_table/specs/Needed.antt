-- Characters in a row that each match needs, to which a search goes on.
use Rattle.std.specs.Prelude.{◌≡◌, ◌⊎◌, ◌<◌, ◌≤◌, ◌+◌, ◌-◌, ◌/◌, ◌%◌, ℕ, Bool, true, false, List, Option, Some, IfSome, slice_get, slice_index, slice_index_or, length}
use Rattle.fancy_regex_table.specs.Wides.{class_in}
use Rattle.fancy_regex_table.specs.declared.needed_maker.Effects.{Effects}
use Rattle.fancy_regex_table.specs.declared.needed.Needed.{Needed}
use Rattle.fancy_regex_table.specs.declared.needed_choice.Reached.{Reached}
use Rattle.fancy_regex_table.specs.declared.row.Cell.{Cell}
use Rattle.fancy_regex_table.specs.declared.row.Cell.TheVariants.{Next, Unknown, Empty, EndsHere, EndsEarlier, Idle}
use Rattle.fancy_regex_table.specs.declared.rows.FreshRow.{FreshRow}
use Rattle.fancy_regex_table.specs.declared.wide.Wide.{Wide}

-- so many characters of the string stand before this row
pub record IsReached (reached : List Reached) (row matched : ℕ) : Type 0 where
  pub place : ℕ
  pub is_there : slice_get reached place ≡ Some (record { row = row; matched = matched })

-- the row is one for searches that begin
pub record IsOneOf (fresh : List FreshRow) (number : ℕ) : Type 0 where
  pub place : ℕ
  pub row : FreshRow
  pub is_there : slice_get fresh place ≡ Some row
  pub number_is : row.row ≡ number

-- a row for searches that begin after a character of this class is one of these, with so many characters of the string before it
pub record HasBegin (begins : List (Option ℕ)) (reached : List Reached) (class matched : ℕ) : Type 0 where
  pub number : ℕ
  pub is_there : slice_get begins class ≡ Some (Some number)
  pub among : IsReached reached number matched

-- the cell of this class leads to one of these rows, with so many characters of the string before it
abbrev pub LeadsTo : List (Option ℕ) → List Reached → ℕ → ℕ → Cell → Type 0
LeadsTo begins reached class matched (Next is_begin ends row) = IsReached reached row matched
LeadsTo begins reached class matched Unknown = ⊥
LeadsTo begins reached class matched Empty = ⊥
LeadsTo begins reached class matched EndsHere = ⊥
LeadsTo begins reached class matched EndsEarlier = ⊥
LeadsTo begins reached class matched Idle = HasBegin begins reached class matched

-- the cell leads to a row for searches that begin, or says that nothing is under way
abbrev pub Resets : List FreshRow → Cell → Type 0
Resets fresh (Next begins ends row) = IsOneOf fresh row
Resets fresh Unknown = ⊥
Resets fresh Empty = ⊥
Resets fresh EndsHere = ⊥
Resets fresh EndsEarlier = ⊥
Resets fresh Idle = Unit {0}

-- a cell stands at this place of which this is so
pub record HasCell (cells : List Cell) (place : ℕ) (P : Cell → Type 0) : Type 0 where
  pub cell : Cell
  pub is_there : slice_get cells place ≡ Some cell
  pub is_so : P cell

-- so many characters of the string stand before the place after a character of this class, where so many stand before the character
abbrev pub IsAfter : List ℕ → ℕ → ℕ → ℕ → Type 0
IsAfter string matched class after = ((after ≡ matched + 1) × (slice_get string matched ≡ Some class)) ⊎ (((after ≡ 1) × (slice_get string 0 ≡ Some class)) ⊎ (after ≡ 0))

-- after a character of this class this is so of the cell, unless it completes the string
pub record IsDone (cells : List Cell) (string : List ℕ) (class : ℕ) (it : Reached) (P : ℕ → Cell → Type 0) : Type 0 where
  pub after : ℕ
  pub is_after : IsAfter string it.matched class after
  pub done : (after ≡ length string) ⊎ HasCell cells (it.row + class) (P after)

-- a search that is in one of these rows is in one of them after a character of this class, unless it completes the string
abbrev pub IsKept : List Cell → List (Option ℕ) → List Reached → List ℕ → ℕ → Type 0
IsKept cells begins reached string class = (i : ℕ) (it : Reached) → slice_get reached i ≡ Some it → IsDone cells string class it (LeadsTo begins reached class)

-- the same of a character that is of no string
abbrev pub IsKeptWide : List Cell → List (Option ℕ) → List Reached → ℕ → Type 0
IsKeptWide cells begins reached class = (i : ℕ) (it : Reached) → slice_get reached i ≡ Some it → HasCell cells (it.row + class) (LeadsTo begins reached class 0)

-- the same however many characters of the string stand before
abbrev pub ResetsAnyhow : List FreshRow → ℕ → Cell → Type 0
ResetsAnyhow fresh matched cell = Resets fresh cell

-- no attempt is under way afterwards, unless it completes the string
abbrev pub IsReset : List Cell → List FreshRow → List Reached → List ℕ → ℕ → Type 0
IsReset cells fresh reached string class = (i : ℕ) (it : Reached) → slice_get reached i ≡ Some it → IsDone cells string class it (ResetsAnyhow fresh)

-- the same of a character that is of no string
abbrev pub IsResetWide : List Cell → List FreshRow → List Reached → ℕ → Type 0
IsResetWide cells fresh reached class = (i : ℕ) (it : Reached) → slice_get reached i ≡ Some it → HasCell cells (it.row + class) (Resets fresh)

-- no character of the string is of this class, and the string has characters
pub record IsStray (string : List ℕ) (class : ℕ) : Type 0 where
  pub some : 0 < length string
  pub none : (k : ℕ) → slice_get string k ≡ Some class → ⊥

-- what is marked of the classes is so
pub record AreEffects (cells : List Cell) (fresh : List FreshRow) (begins : List (Option ℕ)) (reached : List Reached) (string : List ℕ) (effects : Effects) : Type 0 where
  pub kept : (k : ℕ) → slice_index_or effects.kept k false ≡ true → IsKept cells begins reached string k
  pub kept_wide : (k : ℕ) → slice_index_or effects.kept_wide k false ≡ true → (0 < k) × IsKeptWide cells begins reached k
  pub reset : (k : ℕ) → slice_index_or effects.reset k false ≡ true → IsReset cells fresh reached string k
  pub reset_wide : (k : ℕ) → slice_index_or effects.reset_wide k false ≡ true → IsResetWide cells fresh reached k

-- each ASCII character that is marked is of a class that is
abbrev pub AreOfClasses : List ℕ → List Bool → List Bool → Type 0
AreOfClasses classes by_class marked = (c : ℕ) → c < 128 → slice_index_or marked c false ≡ true → slice_index_or by_class (slice_index classes c) false ≡ true

-- the class at this place of the string is another than this one
pub record IsOther (string : List ℕ) (place class : ℕ) : Type 0 where
  pub wanted : ℕ
  pub is_there : slice_get string place ≡ Some wanted
  pub differs : class ≡ wanted → ⊥

-- each ASCII character that is marked is of another class than that at this place of the string
abbrev pub AreOthers : List ℕ → List ℕ → ℕ → List Bool → Type 0
AreOthers classes string place marked = (c : ℕ) → c < 128 → slice_index_or marked c false ≡ true → IsOther string place (slice_index classes c)

-- the marks of what is needed are those of its classes
pub record AreMarks (classes : List ℕ) (needed : Needed) : Type 0 where
  pub first : AreOthers classes needed.string.items 0 needed.others
  pub second : AreOthers classes needed.string.items 1 needed.next_others
  pub has_second : IfSome needed.next_stops (λ _. 1 < length needed.string.items)

-- As long as characters are passed over, a search that begins stays in some rows. After some of the characters no attempt is under way.
pub record IsNeededOf (cells : List Cell) (fresh : List FreshRow) (begins : List (Option ℕ)) (classes : List ℕ) (wide : Wide) (needed : Needed) : Type 0 where
  pub reached : List Reached
  pub marks : AreMarks classes needed
  pub first : HasBegin begins reached 0 0
  pub begins_ascii : (c : ℕ) → c < 128 → HasBegin begins reached (slice_index classes c) 0
  pub kept : (c : ℕ) → c < 128 → IsKept cells begins reached needed.string.items (slice_index classes c)
  pub reset : (c : ℕ) → c < 128 → slice_index_or needed.resets c false ≡ true → IsReset cells fresh reached needed.string.items (slice_index classes c)
  pub kept_short : needed.passes_short ≡ true → (c : ℕ) → 128 ≤ c → c < 65536
      → (0 < class_in wide (c / 64) (c % 64)) × IsKeptWide cells begins reached (class_in wide (c / 64) (c % 64))
  pub reset_short : (b : ℕ) → 128 ≤ b → slice_index_or needed.resets b false ≡ true → (c : ℕ) → 128 ≤ c → c < 65536
      → IsResetWide cells fresh reached (class_in wide (c / 64) (c % 64))

-- a cell that leads to a row for searches that begin may say that nothing is under way
abbrev pub IsEnded : List FreshRow → List Cell → ℕ → Cell → Type 0
IsEnded fresh cells place cell = (slice_get cells place ≡ Some cell) ⊎ ((cell ≡ Idle) × HasCell cells place (Resets fresh))

pub record AreEnded (fresh : List FreshRow) (cells ended : List Cell) : Type 0 where
  pub long : length ended ≡ length cells
  pub each : (k : ℕ) (cell : Cell) → slice_get ended k ≡ Some cell → IsEnded fresh cells k cell

-- after this byte no attempt is under way
pub record IsResetAt (resets : List Bool) (bytes : List ℕ) (i : ℕ) : Type 0 where
  pub byte : slice_index_or bytes i 0 < 256
  pub reset : slice_index_or resets (slice_index_or bytes i 0) false ≡ true

-- one of the characters from here on is not of the class that the string has there
pub record IsMisfitIn (classes string bytes : List ℕ) (i : ℕ) : Type 0 where
  pub place : ℕ
  pub wanted : ℕ
  pub is_there : slice_get string place ≡ Some wanted
  pub differs : slice_index_or bytes (i + place) 0 < 128 → slice_index classes (slice_index_or bytes (i + place) 0) ≡ wanted → ⊥

-- here stands a character of ASCII with which the string does not begin, or one of two or three bytes, if these are passed over
abbrev pub IsPassedIn : List ℕ → Needed → List ℕ → ℕ → Type 0
IsPassedIn classes needed bytes i = ((slice_index_or bytes i 0 < 128) × IsMisfitIn classes needed.string.items bytes i)
    ⊎ ((128 ≤ slice_index_or bytes i 0) × (slice_index_or bytes i 0 < 240) × (needed.passes_short ≡ true))

-- All characters up to this place are passed over, and no attempt is under way after the last one.
pub record IsPassedTo (classes : List ℕ) (needed : Needed) (bytes : List ℕ) (from to : ℕ) : Type 0 where
  pub range : (from ≤ to) × (to ≤ length bytes)
  pub passed : (i : ℕ) → from ≤ i → i < to → IsPassedIn classes needed bytes i
  pub reset : from < to → IsResetAt needed.resets bytes (to - 1)
