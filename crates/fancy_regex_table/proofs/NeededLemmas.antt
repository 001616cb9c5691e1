-- Characters in a row that each match needs, to which a search goes on.
use Rattle.std.proofs.Common.{◌≡◌, ◌∙◌, ◌⊎◌, inl, inr, ℕ, zero, suc, ◌+◌, ◌-◌, ◌/◌, ◌%◌, ◌<◌, ◌≤◌, Bool, true, false, List, length, Option, Some, None, IfSome, refl, sym, ap, subst, arith, ⊎_elim, lt-ltb, slice_index, IsCharBoundary}
use Rattle.std.proofs.lemmas.Bool.{cases_lt, cond-true}
use Rattle.std.proofs.lemmas.Option.{slice_get_within, same_Some}
use Rattle.std.proofs.lemmas.Str.{IsCharBoundary-before_ascii}
use Rattle.std.specs.Char.{len_utf8}
use Rattle.std.specs.Prelude.{slice_get, slice_index_or}
use Rattle.regex_hir.specs.Text.{char_at, char_before}
use Rattle.regex_hir.proofs.TextLemmas.{char_before-zero, char_at_parts}
use Rattle.regex_hir.proofs.Utf8Lemmas.{char_at_cases, IsOneByteAt, IsTwoBytesAt, IsThreeBytesAt, IsFourBytesAt}
use Rattle.fancy_regex_class.proofs.AdjacentCharLemmas.{ascii_before}
use Rattle.fancy_regex_states.specs.declared.rules.Rules.{Rules}
use Rattle.fancy_regex_table.specs.Cells.{Parts, Search, TellsBy, NoneBefore, IsIn, begun_at, IsRightBy}
use Rattle.fancy_regex_table.specs.Made.{AreFreshBy}
use Rattle.fancy_regex_table.specs.Needed.{IsReached, IsOneOf, LeadsTo, Resets, HasCell, HasBegin, IsAfter, IsDone, IsMisfitIn, IsPassedIn, IsNeededOf, IsPassedTo, IsEnded, AreEnded, ResetsAnyhow}
use Rattle.fancy_regex_table.specs.Sorts.{sort_at}
use Rattle.fancy_regex_table.specs.Tables.{IsTable, IsSearchOf, IsCharTo, IsFreshRow, HasColumn, Stands, AreCells}
use Rattle.fancy_regex_table.specs.Wides.{class_in, class_of, IsWideAt}
use Rattle.fancy_regex_table.specs.declared.columns.Column.{Column}
use Rattle.fancy_regex_table.specs.declared.needed.Needed.{Needed}
use Rattle.fancy_regex_table.specs.declared.needed_choice.Reached.{Reached}
use Rattle.fancy_regex_table.specs.declared.row.Cell.{Cell}
use Rattle.fancy_regex_table.specs.declared.row.Cell.TheVariants.{Next, Unknown, Empty, EndsHere, EndsEarlier, Idle}
use Rattle.fancy_regex_table.specs.declared.row.Row.{Row}
use Rattle.fancy_regex_table.specs.declared.row.Row.TheVariants.{Fresh}
use Rattle.fancy_regex_table.specs.declared.rows.FreshRow.{FreshRow}
use Rattle.fancy_regex_table.specs.declared.sort.Sort.{Sort}
use Rattle.fancy_regex_table.specs.declared.table.Place.{Place}
use Rattle.fancy_regex_table.specs.declared.table.Table.{Table}
use Rattle.fancy_regex_table.proofs.DecodeLemmas.{wide_here, char_to, alone_to, two_long, three_long, four_long}
use Rattle.fancy_regex_table.proofs.PlaceLemmas.{char_place}
use Rattle.fancy_regex_table.proofs.TableLemmas.{ascii_here, cell_tells, stands_next, stands_anew, stands_first, char_forward}

-- a cell that leads to a row for searches that begin tells that nothing is under way
pub fresh_tells : (s : Search) (rows : ℕ → Option Row) (fresh : List FreshRow) → AreFreshBy rows fresh → (after : Sort) (at next start last : ℕ) (cell : Cell)
    → Resets fresh cell → TellsBy s rows after at next start last cell → NoneBefore s next
fresh_tells s rows fresh all after at next start last (Next begins ends row) one tells =
    let it : rows one.row.row ≡ Some (Fresh one.row.before) = all one.place one.row one.is_there in
    let here : rows row ≡ Some (Fresh one.row.before) = subst (λ (n : ℕ). rows n ≡ Some (Fresh one.row.before)) one.number_is it in
    let two : Some tells.row ≡ Some (Fresh one.row.before) = sym tells.is_there ∙ here in
    let same : tells.row ≡ Fresh one.row.before = cc in
    subst (λ (r : Row). IsIn s r next (begun_at begins at start) (begun_at ends at last)) same tells.goes.is_in
fresh_tells s rows fresh all after at next start last Unknown none tells = absurd none
fresh_tells s rows fresh all after at next start last Empty none tells = absurd none
fresh_tells s rows fresh all after at next start last EndsHere none tells = absurd none
fresh_tells s rows fresh all after at next start last EndsEarlier none tells = absurd none
fresh_tells s rows fresh all after at next start last Idle none tells = tells

-- the cells are right after passes were ended
pub ended_cells : (parts : Parts) (rows : ℕ → Option Row) (columns : List Column) (fresh : List FreshRow) (cells ended : List Cell) → AreFreshBy rows fresh
    → AreEnded fresh cells ended → AreCells parts rows columns cells → AreCells parts rows columns ended
ended_cells parts rows columns fresh cells ended all is right place class row column cell row_is column_is there s at next start last at_place is_in =
    ⊎_elim
    (λ (same : slice_get cells (place + class) ≡ Some cell). right place class row column cell row_is column_is same s at next start last at_place is_in)
    (λ (idle : (cell ≡ Idle) × HasCell cells (place + class) (Resets fresh)).
    let it = idle.1 in
    let early : NoneBefore s next =
    fresh_tells s rows fresh all column.sort at next start last it.cell it.is_so
    (right place class row column it.cell row_is column_is it.is_there s at next start last at_place is_in) in
    subst (λ (x : Cell). TellsBy s rows column.sort at next start last x) (sym idle.0) early)
    (is.each (place + class) cell there)

-- no character that is not ASCII has one byte
wide_long : (c : ℕ) → 128 ≤ c → 2 ≤ len_utf8 c
wide_long c low =
    ⊎_elim
    (λ (two : c < 0x800). let e = two_long c low two in omega (arith, e))
    (λ (more : 0x800 ≤ c).
    ⊎_elim (λ (three : c < 0x1_0000). let e = three_long c more three in omega (arith, e)) (λ (four : 0x1_0000 ≤ c). let e = four_long c four in omega (arith, e))
    (cases_lt c 0x1_0000))
    (cases_lt c 0x800)

-- a place in one of some rows, after so many characters of a string
record IsStood (stands_there : Place → Type 0) (reached : List Reached) (at matched : ℕ) : Type 0 where
  place : Place
  at_is : place.at ≡ at
  stands : stands_there place
  among : IsReached reached place.row matched

-- the byte is of an ASCII character of the class that the string has at this place
abbrev IsAt : List ℕ → List ℕ → ℕ → ℕ → Type 0
IsAt classes string place byte = (byte < 128) × (slice_get string place ≡ Some (slice_index classes byte))

-- so many characters before the place are those with which the string begins
record IsMatched (classes string bytes : List ℕ) (from at matched : ℕ) : Type 0 where
  low : from + matched ≤ at
  each : (j : ℕ) → j < matched → IsAt classes string j (slice_index_or bytes (at - matched + j) 0)

none_matched : (classes string bytes : List ℕ) (from at : ℕ) → from ≤ at → IsMatched classes string bytes from at 0
none_matched classes string bytes from at low = record { low = omega (arith, low); each = λ j less. absurd (omega (arith, less)) }

-- after one more ASCII character
matched_more : (classes string bytes : List ℕ) (from at matched b after : ℕ) → from ≤ at → slice_index_or bytes at 0 ≡ b → b < 128
    → IsMatched classes string bytes from at matched → IsAfter string matched (slice_index classes b) after → IsMatched classes string bytes from (at + 1) after
matched_more classes string bytes from at matched b after start is small m is_after =
    ⊎_elim
    (λ (next : (after ≡ matched + 1) × (slice_get string matched ≡ Some (slice_index classes b))).
    let long = next.0 in
    let low = m.low in
    record {
      low = omega (arith, low, long);
      each = λ j less.
          ⊎_elim
          (λ (before : j < matched).
          let same : at + 1 - after + j ≡ at - matched + j = omega (arith, long, low) in
          subst (λ (i : ℕ). IsAt classes string j (slice_index_or bytes i 0)) (sym same) (m.each j before))
          (λ (over : matched ≤ j).
          let last : j ≡ matched = omega (arith, over, less, long) in
          let same : at + 1 - after + j ≡ at = omega (arith, long, low, last) in
          let here : IsAt classes string j b = (small, subst (λ (i : ℕ). slice_get string i ≡ Some (slice_index classes b)) (sym last) next.1) in
          subst (IsAt classes string j) (sym (ap (λ (i : ℕ). slice_index_or bytes i 0) same ∙ is)) here)
          (cases_lt j matched);
    })
    (λ (rest : ((after ≡ 1) × (slice_get string 0 ≡ Some (slice_index classes b))) ⊎ (after ≡ 0)).
    ⊎_elim
    (λ (first : (after ≡ 1) × (slice_get string 0 ≡ Some (slice_index classes b))).
    let long = first.0 in
    record {
      low = omega (arith, start, long);
      each = λ j less.
          let last : j ≡ 0 = omega (arith, less, long) in
          let same : at + 1 - after + j ≡ at = omega (arith, long, last) in
          let here : IsAt classes string j b = (small, subst (λ (i : ℕ). slice_get string i ≡ Some (slice_index classes b)) (sym last) first.1) in
          subst (IsAt classes string j) (sym (ap (λ (i : ℕ). slice_index_or bytes i 0) same ∙ is)) here;
    })
    (λ (none : after ≡ 0).
    subst (IsMatched classes string bytes from (at + 1)) (sym none) (none_matched classes string bytes from (at + 1) (omega (arith, start))))
    rest)
    is_after

-- a string is no misfit
no_misfit : (classes string bytes : List ℕ) (i : ℕ) → ((j : ℕ) → j < length string → IsAt classes string j (slice_index_or bytes (i + j) 0))
    → IsMisfitIn classes string bytes i → ⊥
no_misfit classes string bytes i each misfit =
    let at = each misfit.place (slice_get_within string misfit.place misfit.wanted misfit.is_there) in
    misfit.differs at.0 (same_Some _ _ (sym at.1 ∙ misfit.is_there))

-- the string does not end where the characters up to there are passed over
no_string : (classes : List ℕ) (needed : Needed) (bytes : List ℕ) (from at after : ℕ) → ((i : ℕ) → from ≤ i → i ≤ at → IsPassedIn classes needed bytes i)
    → from ≤ at → slice_index_or bytes at 0 < 128 → IsMatched classes needed.string.items bytes from (at + 1) after → after ≡ length needed.string.items → ⊥
no_string classes needed bytes from at after passed start small m all =
    let string = needed.string.items in
    let low = m.low in
    ⊎_elim
    (λ (some : 0 < after).
    let i : ℕ = at + 1 - after in
    let each : (j : ℕ) → j < length string → IsAt classes string j (slice_index_or bytes (i + j) 0) = λ j less. m.each j (omega (arith, less, all)) in
    ⊎_elim
    (λ (one : (slice_index_or bytes i 0 < 128) × IsMisfitIn classes string bytes i). no_misfit classes string bytes i each one.1)
    (λ (wide : (128 ≤ slice_index_or bytes i 0) × (slice_index_or bytes i 0 < 240) × (needed.passes_short ≡ true)).
    let same : i + 0 ≡ i = omega arith in
    let first = (subst (λ (k : ℕ). IsAt classes string 0 (slice_index_or bytes k 0)) same (each 0 (omega (arith, some, all)))).0 in
    absurd (omega (arith, wide.0, first)))
    (passed i (omega (arith, low)) (omega (arith, some))))
    (λ (none : after ≤ 0).
    ⊎_elim
    (λ (one : (slice_index_or bytes at 0 < 128) × IsMisfitIn classes string bytes at).
    let within = slice_get_within string one.1.place one.1.wanted one.1.is_there in
    absurd (omega (arith, within, all, none)))
    (λ (wide : (128 ≤ slice_index_or bytes at 0) × (slice_index_or bytes at 0 < 240) × (needed.passes_short ≡ true)). absurd (omega (arith, wide.0, small)))
    (passed at start (omega arith)))
    (cases_lt 0 after)

-- a character stands at a place of the text in this row, between boundaries
record IsStep (parts : Parts) (table : Table) (columns : List Column) (reached : List Reached) (string text : List ℕ) (from row at to : ℕ) : Type 0 where
  c : ℕ
  next : ℕ
  class : ℕ
  after : ℕ
  char : IsCharTo text at c next
  column : HasColumn parts columns table.asked (Some c) class
  leads : HasCell table.cells.items (row + class) (LeadsTo table.begins.items reached class after)
  matched : IsMatched table.classes string text from next after
  reset : next ≡ to → HasCell table.cells.items (row + class) (Resets table.fresh.items)

module _ {parts : Parts} {rules : Rules} {s : Search} {table : Table} (t : IsTable parts table) (search : IsSearchOf parts rules s) (needed : Needed)
    (n : IsNeededOf table.cells.items table.fresh.items table.begins.items table.classes table.wide needed) where
  abbrev StandsThere : Place → Type 0
  StandsThere place = Stands parts.matchers table.asked table.unicode t.rows s place

  -- the row for a search that begins after a character of this class
  begin_row : (c : Option ℕ) (class matched : ℕ) → HasColumn parts t.columns table.asked c class → (begin : HasBegin table.begins.items n.reached class matched)
      → IsFreshRow table.fresh.items (sort_at parts.matchers table.asked table.unicode c) begin.number
  begin_row c class matched h begin =
      let first : IsFreshRow table.fresh.items h.column.sort begin.number = t.begins class begin.number h.column begin.is_there h.is_there in
      let sort : h.column.sort ≡ sort_at parts.matchers table.asked table.unicode c =
      h.sort ∙ ap (λ (u : Bool). sort_at parts.matchers table.asked u c) (sym t.unicode) in
      subst (λ (x : Sort). IsFreshRow table.fresh.items x begin.number) sort first

  -- after a character of this class it stands in one of the rows too
  kept_next : (place : Place) (stands : StandsThere place) → (c next class after : ℕ) → IsCharTo s.text place.at c next → next ≤ s.stop
      → HasColumn parts t.columns table.asked (Some c) class → HasCell table.cells.items (place.row + class) (LeadsTo table.begins.items n.reached class after)
      → IsStood StandsThere n.reached next after
  kept_next place stands c next class after char fits h has = led has.cell has.is_there has.is_so where
    led : (cell : Cell) → slice_get table.cells.items (place.row + class) ≡ Some cell → LeadsTo table.begins.items n.reached class after cell
        → IsStood StandsThere n.reached next after
    led (Next begins ends row) there leads = record {
      place = record { row = row; at = next; start = begun_at begins place.at place.start; last = begun_at ends place.at place.last };
      at_is = refl;
      stands = stands_next t search place stands c next char fits class h row begins ends
          (cell_tells t search place stands class (Some c) h next (char_place t search place stands c class next char fits h) (Next begins ends row) (inr there));
      among = leads;
    }
    led Unknown there leads = absurd leads
    led Empty there leads = absurd leads
    led EndsHere there leads = absurd leads
    led EndsEarlier there leads = absurd leads
    led Idle there leads =
        let early : NoneBefore s next =
        cell_tells t search place stands class (Some c) h next (char_place t search place stands c class next char fits h) Idle (inr there) in
        let to : Place = record { row = leads.number; at = next; start = next; last = next } in
        record {
          place = to;
          at_is = refl;
          stands = stands_anew t search place stands c next char fits table.fresh.items to t.fresh (record { at_is = refl; start_is = refl })
              (begin_row (Some c) class after h leads) early;
          among = leads.among;
        }

  -- after a character of such a class no match starts before
  reset_next : (place : Place) (stands : StandsThere place) → (c next class : ℕ) → IsCharTo s.text place.at c next → next ≤ s.stop
      → (h : HasColumn parts t.columns table.asked (Some c) class) → HasCell table.cells.items (place.row + class) (Resets table.fresh.items) → NoneBefore s next
  reset_next place stands c next class char fits h has =
      fresh_tells s t.rows table.fresh.items t.fresh h.column.sort place.at next place.start place.last has.cell has.is_so
      (cell_tells t search place stands class (Some c) h next (char_place t search place stands c class next char fits h) has.cell (inr has.is_there))

  module _ (to : ℕ) (passed : IsPassedTo table.classes needed s.text s.from to) (boundary : IsCharBoundary s.text to) (fits : to ≤ s.stop) where
    -- the cell of an ASCII character that does not end the string
    not_ended : (P : ℕ → Cell → Type 0) (row at matched b : ℕ) → s.from ≤ at → at < to → slice_index_or s.text at 0 ≡ b → b < 128
        → IsMatched table.classes needed.string.items s.text s.from at matched
        → (done : IsDone table.cells.items needed.string.items (slice_index table.classes b) (record { row = row; matched = matched }) P)
        → HasCell table.cells.items (row + slice_index table.classes b) (P done.after)
    not_ended P row at matched b low less is small m done =
        ⊎_elim
        (λ (all : done.after ≡ length needed.string.items).
        absurd (no_string table.classes needed s.text s.from at done.after (λ i from high. passed.passed i from (omega (arith, high, less))) low (omega (arith, is, small))
        (matched_more table.classes needed.string.items s.text s.from at matched b done.after low is small m done.is_after) all))
        (λ (has : HasCell table.cells.items (row + slice_index table.classes b) (P done.after)). has)
        done.done

    -- the character at a place
    step_of : (row at matched : ℕ) → IsReached n.reached row matched → IsMatched table.classes needed.string.items s.text s.from at matched
        → s.from ≤ at → at < to → IsCharBoundary s.text at → IsStep parts table t.columns n.reached needed.string.items s.text s.from row at to
    step_of row at matched among m low less here =
        let text = s.text in
        let b : ℕ = slice_index_or text at 0 in
        let inside : at < length text = omega (arith, less, passed.range.1) in
        ⊎_elim
        (λ (small : b < 128).
        let kept = n.kept b small among.place (record { row = row; matched = matched }) among.is_there in
        record {
          c = b;
          next = at + 1;
          class = slice_index table.classes b;
          after = kept.after;
          char = ascii_here text at b 0 search.utf8 here inside refl small;
          column = t.ascii b small;
          leads = not_ended (LeadsTo table.begins.items n.reached (slice_index table.classes b)) row at matched b low less refl small m kept;
          matched = matched_more table.classes needed.string.items text s.from at matched b kept.after low refl small m kept.is_after;
          reset = λ end.
              let last : to - 1 ≡ at = omega (arith, end) in
              let is = passed.reset (omega (arith, low, less)) in
              let mark = subst (λ (i : ℕ). slice_index_or needed.resets (slice_index_or text i 0) false ≡ true) last is.reset in
              not_ended (ResetsAnyhow table.fresh.items) row at matched b low less refl small m
              (n.reset b small mark among.place (record { row = row; matched = matched }) among.is_there);
        })
        (λ (large : 128 ≤ b).
        let bounds : (128 ≤ b) × (b < 240) × (needed.passes_short ≡ true) =
        ⊎_elim (λ (one : (b < 128) × IsMisfitIn table.classes needed.string.items text at). absurd (omega (arith, one.0, large)))
        (λ (other : (128 ≤ b) × (b < 240) × (needed.passes_short ≡ true)). other) (passed.passed at low less) in
        let wide : IsWideAt text at = record { boundary = here; inside = inside; byte = large } in
        let w = wide_here text at search.utf8 wide in
        wide_step at low less here w.0 w.1 w.2 bounds.1 bounds.2)
        (cases_lt b 128) where
          wide_step : (start : ℕ) → s.from ≤ start → start < to → IsCharBoundary s.text start → (c : ℕ) → char_at s.text start ≡ Some c → 128 ≤ c
              → slice_index_or s.text start 0 < 240 → needed.passes_short ≡ true
              → IsStep parts table t.columns n.reached needed.string.items s.text s.from row start to
          wide_step start from less here c is low byte short =
              let text = s.text in
              let lead : slice_index text start < 240 = byte in
              let below : c < 65536 =
              ⊎_elim
              (λ (one : IsOneByteAt text start c). omega (arith, one.0))
              (⊎_elim
              (λ (two : IsTwoBytesAt text start c). omega (arith, two.1))
              (⊎_elim
              (λ (three : IsThreeBytesAt text start c). omega (arith, three.1))
              (λ (four : IsFourBytesAt text start c). absurd (omega (arith, four.0, four.2, lead)))))
              (char_at_cases text start c is).1 in
              let next : ℕ = start + len_utf8 c in
              let char : IsCharTo text start c next = char_to text start c next search.utf8 here is refl in
              let same : class_of parts.unicode parts.matchers table.wide c ≡ class_in table.wide (c / 64) (c % 64) = cond-true _ _ _ (lt-ltb c 65536 below) in
              let kept = n.kept_short short c low below in
              let scalar = (char_at_parts text start c is).0 in
              let class : ℕ = class_in table.wide (c / 64) (c % 64) in
              record {
                c = c;
                next = next;
                class = class;
                after = 0;
                char = char;
                column = subst (HasColumn parts t.columns table.asked (Some c)) same (t.wide c scalar low (subst (λ (k : ℕ). 0 < k) (sym same) kept.0));
                leads = kept.1 among.place (record { row = row; matched = matched }) among.is_there;
                matched = none_matched table.classes needed.string.items text s.from next (omega (arith, from));
                reset = λ end.
                    let is_reset = passed.reset (omega (arith, from, less)) in
                    let large : 128 ≤ slice_index_or text (to - 1) 0 =
                    ⊎_elim
                    (λ (small : slice_index_or text (to - 1) 0 < 128).
                    let within : to - 1 < length text = omega (arith, less, passed.range.1) in
                    let long : 2 ≤ len_utf8 c = wide_long c low in
                    absurd (alone_to text start c next (to - 1) char (omega (arith, end, long)) (omega (arith, end, less)) (IsCharBoundary-before_ascii text (to - 1) within small)))
                    (λ (large : 128 ≤ slice_index_or text (to - 1) 0). large)
                    (cases_lt (slice_index_or text (to - 1) 0) 128) in
                    n.reset_short (slice_index_or text (to - 1) 0) large is_reset.reset c low below among.place (record { row = row; matched = matched }) among.is_there;
              }

    -- no match starts before the end, from a place at which it stands in one of the rows on
    walk : (steps matched : ℕ) (place : Place) → StandsThere place → IsReached n.reached place.row matched
        → IsMatched table.classes needed.string.items s.text s.from place.at matched → s.from ≤ place.at → place.at < to → to - place.at ≤ steps → NoneBefore s to
    walk zero matched place stands among m low less most = absurd (omega (arith, less, most))
    walk (suc steps) matched place stands among m low less most =
        let it = step_of place.row place.at matched among m low less stands.boundary in
        let forward = char_forward s.text place.at it.c it.next it.char in
        ⊎_elim
        (λ (before : it.next < to).
        let on = kept_next place stands it.c it.next it.class it.after it.char (omega (arith, before, fits)) it.column it.leads in
        let at_is = on.at_is in
        walk steps it.after on.place on.stands on.among
        (subst (λ (k : ℕ). IsMatched table.classes needed.string.items s.text s.from k it.after) (sym at_is) it.matched)
        (omega (arith, at_is, forward, low)) (omega (arith, at_is, before)) (omega (arith, at_is, forward, most)))
        (λ (over : to ≤ it.next).
        ⊎_elim
        (λ (past : to < it.next). absurd (alone_to s.text place.at it.c it.next to it.char less past boundary))
        (λ (high : it.next ≤ to).
        let end : it.next ≡ to = omega (arith, over, high) in
        subst (NoneBefore s) end (reset_next place stands it.c it.next it.class it.char (omega (arith, end, fits)) it.column (it.reset end)))
        (cases_lt to it.next))
        (cases_lt it.next to)

    -- no match starts before the end, where a search that begins after this character is in one of the rows
    from_begin : (c : Option ℕ) (class : ℕ) → HasColumn parts t.columns table.asked c class → HasBegin table.begins.items n.reached class 0
        → c ≡ char_before s.text s.from → IsCharBoundary s.text s.from → NoneBefore s to
    from_begin c class h begin is from =
        ⊎_elim
        (λ (less : s.from < to).
        let stands : StandsThere (record { row = begin.number; at = s.from; start = s.from; last = s.from }) =
        stands_first s table.fresh.items c begin.number s.from t.fresh (begin_row c class 0 h begin) is refl (omega (arith, less, fits)) from in
        walk (to - s.from) 0 (record { row = begin.number; at = s.from; start = s.from; last = s.from }) stands begin.among
        (none_matched table.classes needed.string.items s.text s.from s.from (omega arith)) (omega arith) less (omega arith))
        (λ (over : to ≤ s.from). λ p low high b. absurd (omega (arith, over, low, high)))
        (cases_lt s.from to)

    -- after an ASCII character, or at the start of the text
    pub none_before_onset : IsCharBoundary s.text s.from → (0 < s.from → slice_index_or s.text (s.from - 1) 0 < 128) → NoneBefore s to
    none_before_onset from ascii =
        ⊎_elim
        (λ (some : 0 < s.from).
        let b : ℕ = slice_index_or s.text (s.from - 1) 0 in
        let small : b < 128 = ascii some in
        from_begin (Some b) (slice_index table.classes b) (t.ascii b small) (n.begins_ascii b small)
        (sym (ascii_before s.text s.from b 0 some from.0 refl small)) from)
        (λ (none : s.from ≤ 0).
        let start : s.from ≡ 0 = omega (arith, none) in
        from_begin None 0 t.end n.first (sym (ap (char_before s.text) start ∙ char_before-zero s.text)) from)
        (cases_lt 0 s.from)
