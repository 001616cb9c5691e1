use Rattle.std.proofs.Common.{◌<◌, ◌≤◌, ℕ, List, Some, true, false, subst, sym, length, arith}
use Rattle.fancy_regex_table.specs.Tables.{HasColumn, IsCharTo}
use Rattle.fancy_regex_table.specs.declared.row.Cell.TheVariants.{Next}
use Rattle.fancy_regex_table.proofs.PlaceLemmas.{char_place}
use Rattle.fancy_regex_table.proofs.SignLemmas.{noted_match}
use Rattle.fancy_regex_table.proofs.TableLemmas.{begun_of, cell_tells, char_forward, later_at, stands_next, wide_column}
use Rattle.fancy_regex_table.proofs.table.Table.wide_onward.Goals as goal

pub returns-in-Next-default-true-default-clause-learns : goal.returns-in-Next-default-true-default-clause-learns
returns-in-Next-default-true-default-clause-learns c parts rules s table is_search same text_is stop_is stands =
    let place = c.args.place in
    let it = c.wide_char-c.result in
    let w = c.wide_char-c.ensures in
    let noted = c.in-Next-default-true-default in
    let pos : 0 < it.class = omega (arith, c.if-c-eq0.false) in
    let inside = w.inside pos in
    let h : HasColumn parts table.columns c.args.self.now.asked (Some w.c) it.class = wide_column table c.args.matchers.now same c.args.text.now place.at (length c.args.text.now) it w pos in
    let char : IsCharTo s.text place.at w.c it.next = subst (λ (t : List ℕ). IsCharTo t place.at w.c it.next) (sym text_is) w.char in
    let fits : it.next ≤ s.stop = omega (arith, inside, stop_is) in
    let found = rw (c.deref.ensures.value, noted.is, noted.ends-test) at c.cell_at.ensures in
    noted_match table is_search place stands w.c it.next char fits it.class h noted.begins noted.row
    (cell_tells table is_search place stands it.class (Some w.c) h it.next (char_place table is_search place stands w.c it.class it.next char fits h)
    (Next noted.begins true noted.row) found)

pub returns-in-Next : goal.returns-in-Next
returns-in-Next c =
    let place = c.args.place in
    let it = c.wide_char-c.result in
    let w = c.wide_char-c.ensures in
    let pos : 0 < it.class = omega (arith, c.if-c-eq0.false) in
    let inside = w.inside pos in
    record {
      later = later_at c.args.text.now (length c.args.text.now) place _ c.requires.place (char_forward c.args.text.now place.at w.c it.next w.char) inside w.char.boundary_next
          (rw c.begun_at.ensures (begun_of c.in-Next.begins place));
      learns = λ parts rules s table search same text_is stop_is stands.
          let h : HasColumn parts table.columns c.args.self.now.asked (Some w.c) it.class = wide_column table c.args.matchers.now same c.args.text.now place.at (length c.args.text.now) it w pos in
          let char : IsCharTo s.text place.at w.c it.next = subst (λ (t : List ℕ). IsCharTo t place.at w.c it.next) (sym text_is) w.char in
          let fits : it.next ≤ s.stop = omega (arith, inside, stop_is) in
          let found = rw (c.deref.ensures.value, c.in-Next.ends-test) at c.in-Next.ensures in
          rw c.begun_at.ensures
          (stands_next table search place stands w.c it.next char fits it.class h c.in-Next.row c.in-Next.begins false
          (cell_tells table search place stands it.class (Some w.c) h it.next (char_place table search place stands w.c it.class it.next char fits h)
          (Next c.in-Next.begins false c.in-Next.row) found));
    }
