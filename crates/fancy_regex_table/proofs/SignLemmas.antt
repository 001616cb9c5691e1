-- The first sign of a match.
use Rattle.std.proofs.Common.{◌≡◌, ℕ, ◌+◌, ◌<◌, ◌≤◌, Bool, true, false, List, length, Option, Some, None, refl, sym, ap, subst, arith, IsCharBoundary, true≢false}
use Rattle.std.specs.Prelude.{is_some, slice_index}
use Rattle.fancy_regex_states.specs.declared.rules.Rules.{Rules}
use Rattle.fancy_regex_table.specs.Cells.{Parts, Search, TellsBy, begun_at}
use Rattle.fancy_regex_table.specs.Ends.{or_else, end_if}
use Rattle.fancy_regex_table.specs.Signs.{HasMatch, IsNoted, IsSign, IsSignInRange, IsLearned, IfTo, LearnsOf, sign_in}
use Rattle.fancy_regex_table.specs.Tables.{IsSearchOf, IsTable, HasColumn, Stands, IsAsciiAt, IsCharTo, IsInRange, IsLater, IsPlaceIn, IsPassed}
use Rattle.fancy_regex_table.specs.declared.row.Cell.TheVariants.{Next}
use Rattle.fancy_regex_table.specs.declared.sign.Onward.{Onward}
use Rattle.fancy_regex_table.specs.declared.sign.Onward.TheVariants as O
use Rattle.fancy_regex_table.specs.declared.table.Place.{Place}
use Rattle.fancy_regex_table.specs.declared.table.Passed.{Passed}
use Rattle.fancy_regex_table.specs.declared.table.Passed.TheVariants as P
use Rattle.fancy_regex_table.specs.declared.table.Table.{Table}
use Rattle.fancy_regex_table.proofs.PlaceLemmas.{char_place}
use Rattle.fancy_regex_table.proofs.TableLemmas.{cell_tells, begun_low, begun_high, begun_boundary, later_at}

-- there is an end where a list has none
pub some_end : (a : Option ℕ) (at : ℕ) (is_end : Bool) → is_end ≡ true → is_some (or_else a (end_if is_end at)) ≡ true
some_end None at true e = refl
some_end (Some x) at true e = refl
some_end a at false e = absurd (true≢false (sym e))

-- an end that is noted is that of a match
pub noted_match : {parts : Parts} {rules : Rules} {s : Search} {table : Table} (t : IsTable parts table) (search : IsSearchOf parts rules s) (place : Place)
    → Stands parts.matchers table.asked table.unicode t.rows s place → (c next : ℕ) → IsCharTo s.text place.at c next → next ≤ s.stop → (class : ℕ)
    → (h : HasColumn parts t.columns table.asked (Some c) class) → (begins : Bool) (row : ℕ)
    → TellsBy s t.rows h.column.sort place.at next place.start place.last (Next begins true row) → HasMatch s
noted_match t search place stands c next char fits class h begins row tells =
    record {
      start = begun_at begins place.at place.start;
      low = begun_low begins _ place.at place.start (omega (arith, stands.low, stands.order)) stands.low;
      high = let within = begun_high begins place.at place.start stands.order in omega (arith, within, stands.high);
      boundary = begun_boundary _ begins place.at place.start stands.boundary stands.start_boundary;
      some = tells.goes.sign refl;
    }

pub match_noted : {parts : Parts} {rules : Rules} {s : Search} {table : Table} (t : IsTable parts table) (search : IsSearchOf parts rules s) (place : Place)
    → Stands parts.matchers table.asked table.unicode t.rows s place → (byte : ℕ) → IsAsciiAt s.text place.at byte → place.at < s.stop → IsNoted table byte place.row → HasMatch s
match_noted {parts} {rules} {s} {table} t search place stands byte here lt noted =
    let h = t.ascii byte noted.small in
    let class : ℕ = slice_index table.classes byte in
    let fits : place.at + 1 ≤ s.stop = omega (arith, lt) in
    noted_match t search place stands byte (place.at + 1) here fits class h noted.begins noted.next
    (cell_tells t search place stands class (Some byte) h (place.at + 1) (char_place t search place stands byte class (place.at + 1) here fits h)
    (Next noted.begins true noted.next) noted.found)

-- what was found lies in the text
pub sign_in_range : (text : List ℕ) (low start : ℕ) (passed : Passed) → low ≤ start → IsInRange text start (length text) passed → IsSignInRange text low (sign_in passed)
sign_in_range text low start (P.Match first end read) le is = tt
sign_in_range text low start P.Ended le is = tt
sign_in_range text low start (P.Idle next) le is = (omega (arith, le, is.0), is.1, is.2)
sign_in_range text low start (P.Unknown from read) le is = (omega (arith, le, is.0), omega (arith, is.1, is.2), is.3)

-- what is learned by an ASCII character
pub learned : {parts : Parts} {rules : Rules} {s : Search} {table : Table} (t : IsTable parts table) (search : IsSearchOf parts rules s) (place : Place)
    → Stands parts.matchers table.asked table.unicode t.rows s place → (byte : ℕ) → IsAsciiAt s.text place.at byte → place.at < s.stop → (onward : Onward)
    → IsLearned table place byte onward → IfTo onward (Stands parts.matchers table.asked table.unicode t.rows s)
    → LearnsOf s onward (Stands parts.matchers table.asked table.unicode t.rows s)
learned t search place stands byte here lt (O.To next) is to = to
learned t search place stands byte here lt O.Noted is to = match_noted t search place stands byte here lt is
learned t search place stands byte here lt O.Nowhere is to = tt

pub later_learned : (table : Table) (text : List ℕ) (place : Place) (byte : ℕ) (onward : Onward) → IsPlaceIn text (length text) place → place.at < length text
    → IsAsciiAt text place.at byte → IsLearned table place byte onward → IfTo onward (IsLater text place (length text))
later_learned table text place byte (O.To next) is lt here onward =
    let at_is = onward.at in
    later_at text (length text) place next is (omega (arith, at_is)) (omega (arith, at_is, lt)) (subst (IsCharBoundary text) (sym at_is) here.boundary_next) onward.start
later_learned table text place byte O.Noted is lt here onward = tt
later_learned table text place byte O.Nowhere is lt here onward = tt

-- what a whole pass found says so
pub sign_passed : (s : Search) (passed : Passed) → IsPassed s passed → IsSign s (sign_in passed)
sign_passed s (P.Match start end read) is = record {
  start = start;
  low = is.0.low;
  high = omega (arith, is.1, is.2);
  boundary = is.0.boundary;
  some = ap is_some is.0.end_is;
}
sign_passed s P.Ended is = is
sign_passed s (P.Idle at) is = is
sign_passed s (P.Unknown from read) is = record {
  low = is.low;
  order = omega arith;
  high = omega (arith, is.order, is.high);
  boundary = is.boundary;
  early = is.early;
}
