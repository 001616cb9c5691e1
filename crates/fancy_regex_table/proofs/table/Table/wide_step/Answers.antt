use Rattle.std.proofs.Common.{◌<◌, ◌≤◌, ℕ, List, Some, subst, sym, arith}
use Rattle.fancy_regex_table.specs.Cells.{NoneBefore}
use Rattle.fancy_regex_table.specs.Sorts.{sort_at}
use Rattle.fancy_regex_table.specs.Tables.{HasColumn, IsCharTo, IsFreshAt, IsFreshRow, IsLater, Stands}
use Rattle.fancy_regex_table.specs.declared.row.Cell.TheVariants.{Next, Idle}
use Rattle.fancy_regex_table.specs.declared.table.Place.{Place}
use Rattle.fancy_regex_table.proofs.PlaceLemmas.{char_place}
use Rattle.fancy_regex_table.proofs.TableLemmas.{begun_of, cell_tells, char_forward, later_at, later_fresh, some_as, some_both, stands_anew, stands_next, wide_column}
use Rattle.fancy_regex_table.proofs.table.Table.wide_step.Goals as goal

pub returns-in-Next : goal.returns-in-Next
returns-in-Next c =
    let place = c.args.place in
    let it = c.wide_char-c.result in
    let w = c.wide_char-c.ensures in
    let pos : 0 < it.class = omega (arith, c.if-c-eq0.false) in
    let inside = w.inside pos in
    record {
      later = later_at c.args.text.now c.args.stop place _ c.requires.place (char_forward c.args.text.now place.at w.c it.next w.char) inside w.char.boundary_next
          (rw c.begun_at.ensures (begun_of c.in-Next.begins place));
      stands = λ parts rules s table search same text_is stop_is stands.
          let h : HasColumn parts table.columns c.args.self.now.asked (Some w.c) it.class = wide_column table c.args.matchers.now same c.args.text.now place.at c.args.stop it w pos in
          let char : IsCharTo s.text place.at w.c it.next = subst (λ (t : List ℕ). IsCharTo t place.at w.c it.next) (sym text_is) w.char in
          let fits : it.next ≤ s.stop = omega (arith, inside, stop_is) in
          let found = rw c.deref.ensures.value at c.in-Next.ensures in
          rw (c.begun_at.ensures, c.begun_at-in-Next.ensures)
          (stands_next table search place stands w.c it.next char fits it.class h c.in-Next.row c.in-Next.begins c.in-Next.ends
          (cell_tells table search place stands it.class (Some w.c) h it.next (char_place table search place stands w.c it.class it.next char fits h)
          (Next c.in-Next.begins c.in-Next.ends c.in-Next.row) found));
    }

pub returns-in-Idle : goal.returns-in-Idle
returns-in-Idle c =
    let place = c.args.place in
    let it = c.wide_char-c.result in
    let w = c.wide_char-c.ensures in
    let pos : 0 < it.class = omega (arith, c.if-c-eq0.false) in
    let inside = w.inside pos in
    let to = c.fresh_place.result in
    record {
      later = some_as to (IsFreshAt it.next) (IsLater c.args.text.now place c.args.stop)
          (λ next fresh. later_fresh c.args.text.now c.args.stop place next it.next c.requires.place (char_forward c.args.text.now place.at w.c it.next w.char) inside w.char.boundary_next fresh)
          c.fresh_place.ensures.place;
      stands = λ parts rules s table search same text_is stop_is stands.
          let h : HasColumn parts table.columns c.args.self.now.asked (Some w.c) it.class = wide_column table c.args.matchers.now same c.args.text.now place.at c.args.stop it w pos in
          let char : IsCharTo s.text place.at w.c it.next = subst (λ (t : List ℕ). IsCharTo t place.at w.c it.next) (sym text_is) w.char in
          let fits : it.next ≤ s.stop = omega (arith, inside, stop_is) in
          let found = rw c.deref.ensures.value at c.in-Idle.ensures in
          let early : NoneBefore s it.next =
          cell_tells table search place stands it.class (Some w.c) h it.next (char_place table search place stands w.c it.class it.next char fits h) Idle found in
          let fresh = c.args.self.now.fresh.items in
          some_both to (IsFreshAt it.next) (λ (next : Place). IsFreshRow fresh (sort_at parts.matchers c.args.self.now.asked c.args.self.now.unicode (Some w.c)) next.row)
          (Stands parts.matchers c.args.self.now.asked c.args.self.now.unicode table.rows s)
          (λ next at first. stands_anew table search place stands w.c it.next char fits fresh next table.fresh at first early)
          c.fresh_place.ensures.place (c.fresh_place.ensures.row parts table (Some w.c) h);
    }
