-- What the first sign of a match says of a search.
use Rattle.std.specs.Prelude.{◌≡◌, ◌<◌, ◌≤◌, ◌+◌, ℕ, Bool, true, List, length, is_some, slice_index, IsCharBoundary}
use Rattle.fancy_regex_table.specs.Flat.{IsFoundCell}
use Rattle.fancy_regex_table.specs.Cells.{Search, NoneBefore}
use Rattle.fancy_regex_table.specs.Ends.{end_at}
use Rattle.fancy_regex_table.specs.Tables.{IsPlaceOf, IsOnward}
use Rattle.fancy_regex_table.specs.declared.row.Cell.TheVariants.{Next}
use Rattle.fancy_regex_table.specs.declared.sign.Onward.{Onward}
use Rattle.fancy_regex_table.specs.declared.sign.Onward.TheVariants as O
use Rattle.fancy_regex_table.specs.declared.sign.Sign.{Sign}
use Rattle.fancy_regex_table.specs.declared.sign.Sign.TheVariants as G
use Rattle.fancy_regex_table.specs.declared.table.Passed.{Passed}
use Rattle.fancy_regex_table.specs.declared.table.Passed.TheVariants as P
use Rattle.fancy_regex_table.specs.declared.table.Place.{Place}
use Rattle.fancy_regex_table.specs.declared.table.Table.{Table}

-- a match starts somewhere in the range
pub record HasMatch (s : Search) : Type 0 where
  pub start : ℕ
  pub low : s.from ≤ start
  pub high : start ≤ s.stop
  pub boundary : IsCharBoundary s.text start
  pub some : is_some (end_at s.go start s.entry) ≡ true

-- what the sign says is so
abbrev pub IsSign : Search → Sign → Type 0
IsSign s G.Match = HasMatch s
IsSign s G.Ended = NoneBefore s (s.stop + 1)
IsSign s (G.Idle at) = IsPlaceOf s at at × (s.from < at)
IsSign s (G.Unknown from) = IsPlaceOf s from from

-- what was found lies in the text, from this place on
abbrev pub IsSignInRange : List ℕ → ℕ → Sign → Type 0
IsSignInRange text low G.Match = Unit {0}
IsSignInRange text low G.Ended = Unit {0}
IsSignInRange text low (G.Idle at) = (low < at) × (at ≤ length text) × IsCharBoundary text at
IsSignInRange text low (G.Unknown from) = (low ≤ from) × (from ≤ length text) × IsCharBoundary text from

-- what a whole pass says of the matches
abbrev pub sign_in : Passed → Sign
sign_in (P.Match start end read) = G.Match
sign_in P.Ended = G.Ended
sign_in (P.Idle at) = G.Idle at
sign_in (P.Unknown from read) = G.Unknown from

-- the cell of the row and of this ASCII character notes an end
pub record IsNoted (table : Table) (byte row : ℕ) : Type 0 where
  pub small : byte < 128
  pub next : ℕ
  pub begins : Bool
  pub found : IsFoundCell table.cells.items (row + slice_index table.classes byte) (Next begins true next)

-- the character at a place leads on to the next one, or notes an end
abbrev pub IsLearned : Table → Place → ℕ → Onward → Type 0
IsLearned table place byte (O.To next) = IsOnward place byte next
IsLearned table place byte O.Noted = IsNoted table byte place.row
IsLearned table place byte O.Nowhere = Unit {0}

-- the place that it leads to, if it leads to one, is as this says
abbrev pub IfTo : Onward → (Place → Type 0) → Type 0
IfTo (O.To next) P = P next
IfTo O.Noted P = Unit {0}
IfTo O.Nowhere P = Unit {0}

-- the same, and an end that is noted is that of a match
abbrev pub LearnsOf : Search → Onward → (Place → Type 0) → Type 0
LearnsOf s (O.To next) P = P next
LearnsOf s O.Noted P = HasMatch s
LearnsOf s O.Nowhere P = Unit {0}
