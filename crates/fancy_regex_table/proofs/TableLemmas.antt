-- What a pass over a text by a table finds.
use Rattle.std.proofs.Common.{◌≡◌, ℕ, ◌+◌, ◌<◌, ◌≤◌, Bool, true, false, List, length, Option, Some, None, IfSome, sym, ap, ap₂, subst, ◌∙◌, inl, inr, refl, arith, lt-ltb, IsCharBoundary}
use Rattle.std.proofs.lemmas.Bool.{cases_lt}
use Rattle.std.proofs.lemmas.Option.{slice_get_within}
use Rattle.std.specs.Prelude.{slice_index, slice_index_or, IsUtf8}
use Rattle.std.proofs.lemmas.Bool.{cond-true}
use Rattle.std.proofs.lemmas.Str.{len_utf8_bounds}
use Rattle.std.specs.Char.{len_utf8}
use Rattle.fancy_regex_class.proofs.AdjacentCharLemmas.{ascii_at}
use Rattle.fancy_regex_table.proofs.DecodeLemmas.{char_to}
use Rattle.fancy_regex_class.specs.declared.class.CharClassMatcher.{CharClassMatcher}
use Rattle.regex_hir.specs.Text.{char_at, char_before}
use Rattle.fancy_regex_states.specs.declared.rules.Rules.{Rules}
use Rattle.fancy_regex_table.specs.Flat.{IsFoundCell}
use Rattle.fancy_regex_table.specs.Cells.{Parts, Search, IsIn, IsPlace, TellsBy, NoneBefore, IsFirstMatch, sort_before, begun_at}
use Rattle.fancy_regex_table.specs.Made.{AreFreshBy}
use Rattle.fancy_regex_table.specs.Sorts.{sort_at}
use Rattle.fancy_regex_table.specs.Tables.{IsSearchOf, IsTable, Stands, HasColumn, IsAsciiAt, IsCharTo, IsPassed, IsStartAt, IsFreshRow, IsFreshAt, IsWideTo, IsOffsetOf, IsPlaceIn, IsLater, IsInRange, LiesAt}
use Rattle.fancy_regex_table.specs.declared.table.Passed.{Passed}
use Rattle.fancy_regex_table.specs.declared.row.Cell.{Cell}
use Rattle.fancy_regex_table.specs.declared.row.Cell.TheVariants.{Next, Unknown}
use Rattle.fancy_regex_table.specs.declared.row.Row.{Row}
use Rattle.fancy_regex_table.specs.declared.row.Row.TheVariants.{Fresh, Open}
use Rattle.fancy_regex_table.specs.declared.rows.FreshRow.{FreshRow}
use Rattle.fancy_regex_table.specs.declared.sort.Asked.{Asked}
use Rattle.fancy_regex_table.specs.declared.table.Place.{Place}
use Rattle.fancy_regex_table.specs.declared.table.Passed.TheVariants as P
use Rattle.fancy_regex_table.specs.declared.table.Table.{Table}
use Rattle.fancy_regex_table.specs.Wides.{class_of}
use Rattle.fancy_regex_table.specs.declared.wide.WideChar.{WideChar}

-- no match starts before the first attempt that is under way
pub none_before_start : (s : Search) (row : Row) (at start last : ℕ) → start ≤ at → IsIn s row at start last → NoneBefore s start
none_before_start s (Fresh before) at start last le is_in p low high boundary = is_in p low (omega arith) boundary
none_before_start s (Open before own later found) at start last le is_in p low high boundary = is_in.early p low high boundary

same_row : (rows : ℕ → Option Row) (place : ℕ) (one other : Row) → rows place ≡ Some one → rows place ≡ Some other → one ≡ other
same_row rows place one other a b = let e : Some one ≡ Some other = sym a ∙ b in cc

module _ {matchers : List CharClassMatcher} {asked : Asked} {unicode : Bool} {rows : ℕ → Option Row} {s : Search} {place : Place} (stands : Stands matchers asked unicode rows s place) where
  -- what is known where nothing more is known
  pub unknown_is : (fresh : List FreshRow) → AreFreshBy rows fresh → (from : ℕ) → IsStartAt fresh place from → IsPassed s (P.Unknown from place.at)
  unknown_is fresh all from (inl is) = record {
    low = rw is stands.low;
    order = rw is stands.order;
    high = stands.high;
    boundary = rw is stands.start_boundary;
    early = rw is (none_before_start s stands.row place.at place.start place.last stands.order stands.is_in);
  }
  unknown_is fresh all from (inr (is, (sort, here))) =
      let it : rows here.row.row ≡ Some (Fresh here.row.before) = all here.place here.row here.is_there in
      let row_is : rows place.row ≡ Some (Fresh here.row.before) = subst (λ (n : ℕ). rows n ≡ Some (Fresh here.row.before)) here.number_is it in
      let same : stands.row ≡ Fresh here.row.before = same_row rows place.row stands.row (Fresh here.row.before) stands.is_there row_is in
      let early : NoneBefore s place.at = subst (λ (r : Row). IsIn s r place.at place.start place.last) same stands.is_in in
      record {
        low = rw is (omega (arith, stands.low, stands.order));
        order = rw is (omega arith);
        high = stands.high;
        boundary = rw is stands.boundary;
        early = rw is early;
      }

  pub match_is : (start end : ℕ) → IsFirstMatch s start end → start ≤ place.at → IsPassed s (P.Match start end place.at)
  match_is start end first le = (first, le, stands.high)

module _ {parts : Parts} {rules : Rules} {s : Search} {table : Table} (t : IsTable parts table) (search : IsSearchOf parts rules s) (place : Place)
    (stands : Stands parts.matchers table.asked table.unicode t.rows s place) where
  -- a cell that was found tells what is so
  pub cell_tells : (class : ℕ) (c : Option ℕ) (h : HasColumn parts t.columns table.asked c class) (next : ℕ)
      → IsPlace parts s (sort_before stands.row) h.column.sort h.column.sample place.at next
      → (cell : Cell) → IsFoundCell table.cells.items (place.row + class) cell
      → TellsBy s t.rows h.column.sort place.at next place.start place.last cell
  cell_tells class c h next at_place cell (inl none) =
      subst (λ (x : Cell). TellsBy s t.rows h.column.sort place.at next place.start place.last x) (sym none) tt
  cell_tells class c h next at_place cell (inr found) =
      t.cells place.row class stands.row h.column cell stands.is_there h.is_there found s place.at next place.start place.last at_place stands.is_in

pub begun_low : (b : Bool) (low at start : ℕ) → low ≤ at → low ≤ start → low ≤ begun_at b at start
begun_low true low at start a b = a
begun_low false low at start a b = b

pub begun_high : (b : Bool) (at start : ℕ) → start ≤ at → begun_at b at start ≤ at
begun_high true at start le = omega arith
begun_high false at start le = le

-- what is noted is the place, or the start of the first attempt
pub begun_of : (b : Bool) (place : Place) → IsOffsetOf place (begun_at b place.at place.start)
begun_of true place = inr refl
begun_of false place = inl refl

pub offset_low : (place : Place) (x : ℕ) → place.start ≤ place.at → IsOffsetOf place x → (place.start ≤ x) × (x ≤ place.at)
offset_low place x order (inl is) = (omega (arith, is), omega (arith, is, order))
offset_low place x order (inr is) = (omega (arith, is, order), omega (arith, is))

pub offset_boundary : (text : List ℕ) (place : Place) (x : ℕ) → IsCharBoundary text place.at → IsCharBoundary text place.start → IsOffsetOf place x → IsCharBoundary text x
offset_boundary text place x here first (inl is) = subst (IsCharBoundary text) (sym is) first
offset_boundary text place x here first (inr is) = subst (IsCharBoundary text) (sym is) here

-- a later place, with one of these offsets
pub later_at : (text : List ℕ) (stop : ℕ) (place next : Place) → IsPlaceIn text stop place → place.at < next.at → next.at ≤ stop → IsCharBoundary text next.at
    → IsOffsetOf place next.start → IsLater text place stop next
later_at text stop place next is onward high boundary start =
    let low = offset_low place next.start is.order start in
    record {
      low = low.0;
      onward = onward;
      is_in = record {
        order = omega (arith, low.1, onward);
        high = high;
        boundary = boundary;
        start_boundary = offset_boundary text place next.start is.boundary is.start_boundary start;
      };
    }

-- a later place at which a search begins
pub later_fresh : (text : List ℕ) (stop : ℕ) (place next : Place) (at : ℕ) → IsPlaceIn text stop place → place.at < at → at ≤ stop → IsCharBoundary text at
    → IsFreshAt at next → IsLater text place stop next
later_fresh text stop place next at is onward high boundary fresh =
    let at_is = fresh.at_is in
    let start_is = fresh.start_is in
    record {
      low = omega (arith, is.order, onward, start_is);
      onward = omega (arith, onward, at_is);
      is_in = record {
        order = omega (arith, at_is, start_is);
        high = omega (arith, at_is, high);
        boundary = subst (IsCharBoundary text) (sym at_is) boundary;
        start_boundary = subst (IsCharBoundary text) (sym start_is) boundary;
      };
    }

-- what was found at a place lies in the range
pub lies_in_range : (text : List ℕ) (stop : ℕ) (place : Place) (passed : Passed) → IsPlaceIn text stop place → LiesAt place passed → IsInRange text place.start stop passed
lies_in_range text stop place (P.Match start end read) is lies =
    let low = offset_low place start is.order lies.0 in
    (low.0, omega (arith, low.1, lies.1), omega (arith, lies.1, is.high), offset_boundary text place start is.boundary is.start_boundary lies.0)
lies_in_range text stop place P.Ended is lies = tt
lies_in_range text stop place (P.Idle next) is lies = absurd lies
lies_in_range text stop place (P.Unknown from read) is lies =
    let low = offset_low place from is.order lies.0 in (
      low.0,
      omega (arith, low.1, lies.1),
      omega (arith, lies.1, is.high),
      offset_boundary text place from is.boundary is.start_boundary lies.0,
      subst (IsCharBoundary text) (sym lies.1) is.boundary,
    )

-- a range from an earlier place
pub range_from : (text : List ℕ) (low start stop : ℕ) (passed : Passed) → low ≤ start → IsInRange text start stop passed → IsInRange text low stop passed
range_from text low start stop (P.Match first end read) le is = (omega (arith, le, is.0), is.1, is.2, is.3)
range_from text low start stop P.Ended le is = tt
range_from text low start stop (P.Idle next) le is = (omega (arith, le, is.0), is.1, is.2)
range_from text low start stop (P.Unknown from read) le is = (omega (arith, le, is.0), is.1, is.2, is.3, is.4)

pub begun_boundary : (text : List ℕ) (b : Bool) (at start : ℕ) → IsCharBoundary text at → IsCharBoundary text start → IsCharBoundary text (begun_at b at start)
begun_boundary text true at start a b = a
begun_boundary text false at start a b = b

module _ {parts : Parts} {rules : Rules} {s : Search} {table : Table} (t : IsTable parts table) (search : IsSearchOf parts rules s) (place : Place)
    (stands : Stands parts.matchers table.asked table.unicode t.rows s place) (c next : ℕ) (char : IsCharTo s.text place.at c next) (fits : next ≤ s.stop) where
  -- the character is no empty one
  forward : place.at < next
  forward = let long = (len_utf8_bounds c).0 in omega (arith, char.next_is, long)

  -- the search stands after the character
  pub stands_next : (class : ℕ) (h : HasColumn parts t.columns table.asked (Some c) class) (row : ℕ) (begins ends : Bool)
      → TellsBy s t.rows h.column.sort place.at next place.start place.last (Next begins ends row)
      → Stands parts.matchers table.asked table.unicode t.rows s
      (record { row = row; at = next; start = begun_at begins place.at place.start; last = begun_at ends place.at place.last })
  stands_next class h row begins ends tells = record {
    row = tells.row;
    is_there = tells.is_there;
    sort = tells.goes.sort ∙ h.sort ∙ ap (λ (u : Bool). sort_at parts.matchers table.asked u (Some c)) (sym t.unicode)
        ∙ ap (sort_at parts.matchers table.asked table.unicode) (sym char.before_next);
    is_in = tells.goes.is_in;
    low = begun_low begins s.from place.at place.start (omega (arith, stands.low, stands.order)) stands.low;
    order = let high = begun_high begins place.at place.start stands.order in omega (arith, high, forward);
    high = fits;
    boundary = char.boundary_next;
    start_boundary = begun_boundary s.text begins place.at place.start stands.boundary stands.start_boundary;
  }

  -- nothing is under way after the character
  pub idle_next : NoneBefore s next → IsPassed s (P.Idle next)
  idle_next early = (
    record {
      low = omega (arith, stands.low, stands.order, forward);
      order = omega arith;
      high = fits;
      boundary = char.boundary_next;
      early = early;
    },
    omega (arith, stands.low, stands.order, forward),
  )

  -- a search that begins there stands there
  pub stands_anew : (fresh : List FreshRow) (to : Place) → AreFreshBy t.rows fresh → IsFreshAt next to
      → IsFreshRow fresh (sort_at parts.matchers table.asked table.unicode (Some c)) to.row → NoneBefore s next
      → Stands parts.matchers table.asked table.unicode t.rows s to
  stands_anew fresh to all at first early =
      let at_is = at.at_is in
      let start_is = at.start_is in
      record {
        row = Fresh first.row.before;
        is_there = subst (λ (n : ℕ). t.rows n ≡ Some (Fresh first.row.before)) first.number_is (all first.place first.row first.is_there);
        sort = first.sort_is
            ∙ sym (ap (λ (n : ℕ). sort_at parts.matchers table.asked table.unicode (char_before s.text n)) at_is ∙ ap (sort_at parts.matchers table.asked table.unicode) char.before_next);
        is_in = subst (NoneBefore s) (sym at_is) early;
        low = omega (arith, stands.low, stands.order, forward, start_is);
        order = omega (arith, at_is, start_is);
        high = omega (arith, at_is, fits);
        boundary = subst (IsCharBoundary s.text) (sym at_is) char.boundary_next;
        start_boundary = subst (IsCharBoundary s.text) (sym start_is) char.boundary_next;
      }

-- the class of a character that is not ASCII is its column
pub wide_column : {parts : Parts} {table : Table} (t : IsTable parts table) (matchers : List CharClassMatcher) → parts.matchers ≡ matchers → (text : List ℕ) (at stop : ℕ) (it : WideChar)
    → (w : IsWideTo table.unicode matchers table.wide text at stop it) → 0 < it.class → HasColumn parts t.columns table.asked (Some w.c) it.class
wide_column {parts} {table} t matchers same text at stop it w pos =
    let is : it.class ≡ class_of parts.unicode parts.matchers table.wide w.c =
    w.class pos ∙ ap₂ (λ (u : Bool) (ms : List CharClassMatcher). class_of u ms table.wide w.c) t.unicode (sym same) in
    subst (HasColumn parts t.columns table.asked (Some w.c)) (sym is) (t.wide w.c w.is_scalar w.low (subst (λ (n : ℕ). 0 < n) is pos))

-- no character is empty
pub char_forward : (text : List ℕ) (at c next : ℕ) → IsCharTo text at c next → at < next
char_forward text at c next char = let long = (len_utf8_bounds c).0 in omega (arith, char.next_is, long)

pub some_as : {A : Type 0} (o : Option A) (P Q : A → Type 0) → ((x : A) → P x → Q x) → IfSome o P → IfSome o Q
some_as None P Q f is = tt
some_as (Some x) P Q f is = f x is

pub some_both : {A : Type 0} (o : Option A) (P Q R : A → Type 0) → ((x : A) → P x → Q x → R x) → IfSome o P → IfSome o Q → IfSome o R
some_both None P Q R f one two = tt
some_both (Some x) P Q R f one two = f x one two

-- a search that begins
pub stands_first : {matchers : List CharClassMatcher} {asked : Asked} {unicode : Bool} {rows : ℕ → Option Row} (s : Search) (fresh : List FreshRow) (before : Option ℕ) (number at : ℕ) → AreFreshBy rows fresh
    → IsFreshRow fresh (sort_at matchers asked unicode before) number → before ≡ char_before s.text at → s.from ≡ at → at ≤ s.stop → IsCharBoundary s.text at
    → Stands matchers asked unicode rows s (record { row = number; at = at; start = at; last = at })
stands_first {matchers} {asked} {unicode} {rows} s fresh before number at all first is_before from high boundary = record {
  row = Fresh first.row.before;
  is_there = subst (λ (n : ℕ). rows n ≡ Some (Fresh first.row.before)) first.number_is (all first.place first.row first.is_there);
  sort = first.sort_is ∙ ap (sort_at matchers asked unicode) is_before;
  is_in = λ p low less boundary_p. absurd (omega arith);
  low = omega arith;
  order = omega arith;
  high = high;
  boundary = boundary;
  start_boundary = boundary;
}

-- a cell that leads to a row is that of an ASCII character
pub next_ascii : (table : Table) (byte row : ℕ) (begins ends : Bool) (next : ℕ) → byte < 256
    → IsFoundCell table.cells.items (row + slice_index table.classes byte) (Next begins ends next) → byte < 128
next_ascii table byte row begins ends next small (inl none) = absurd (let e : Next begins ends next ≡ Unknown = none in cc)
next_ascii table byte row begins ends next small (inr found) =
    let within = slice_get_within table.cells.items (row + slice_index table.classes byte) (Next begins ends next) found in
    elim (cases_lt byte 128) [
      | inl less ↦ less
      | inr ge ↦ absurd (let far = table.beyond byte ge small in omega (arith, within, far))
    ]

-- an ASCII character by its byte
pub ascii_here : (text : List ℕ) (at b d : ℕ) → IsUtf8 text → IsCharBoundary text at → at < length text → b ≡ slice_index_or text at d → b < 128 → IsAsciiAt text at b
ascii_here text at b d utf8 boundary lt is small =
    let here : char_at text at ≡ Some b = ascii_at text at b d lt is small in
    let long : len_utf8 b ≡ 1 = cond-true _ _ _ (lt-ltb b 0x80 small) in
    char_to text at b (at + 1) utf8 boundary here (ap (λ (n : ℕ). at + n) (sym long))
