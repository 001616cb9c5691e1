use Rattle.std.proofs.Common.{◌<◌, ◌≤◌, ℕ, List, Some, subst, sym, arith}
use Rattle.fancy_regex_table.specs.Tables.{HasColumn, IsCharTo}
use Rattle.fancy_regex_table.specs.declared.row.Cell.TheVariants.{Idle}
use Rattle.fancy_regex_table.proofs.PlaceLemmas.{char_place}
use Rattle.fancy_regex_table.proofs.TableLemmas.{cell_tells, char_forward, idle_next, lies_in_range, wide_column}
use Rattle.fancy_regex_table.proofs.table.Table.wide_outcome.Goals as goal

pub returns-then-c-eq0 : goal.returns-then-c-eq0
returns-then-c-eq0 c = record {
  range = lies_in_range c.args.text.now c.args.stop c.args.place c.unknown.result c.requires.place c.unknown.ensures.lies;
  passed = λ parts rules s table search same text_is stop_is stands. c.unknown.ensures.passed parts s table stands;
}

pub returns-in-Idle : goal.returns-in-Idle
returns-in-Idle c =
    let place = c.args.place in
    let it = c.wide_char-c.result in
    let w = c.wide_char-c.ensures in
    let pos : 0 < it.class = omega (arith, c.if-c-eq0.false) in
    let inside = w.inside pos in
    let forward = char_forward c.args.text.now place.at w.c it.next w.char in
    record {
      range = (omega (arith, c.requires.place.order, forward), inside, w.char.boundary_next);
      passed = λ parts rules s table search same text_is stop_is stands.
          let h : HasColumn parts table.columns c.args.self.now.asked (Some w.c) it.class = wide_column table c.args.matchers.now same c.args.text.now place.at c.args.stop it w pos in
          let char : IsCharTo s.text place.at w.c it.next = subst (λ (t : List ℕ). IsCharTo t place.at w.c it.next) (sym text_is) w.char in
          let fits : it.next ≤ s.stop = omega (arith, inside, stop_is) in
          let found = rw c.deref.ensures.value at c.in-Idle.ensures in
          idle_next table search place stands w.c it.next char fits
          (cell_tells table search place stands it.class (Some w.c) h it.next (char_place table search place stands w.c it.class it.next char fits h) Idle found);
    }

pub returns-in_default : goal.returns-in_default
returns-in_default c =
    let place = c.args.place in
    let it = c.wide_char-c.result in
    let w = c.wide_char-c.ensures in
    let pos : 0 < it.class = omega (arith, c.if-c-eq0.false) in
    let inside = w.inside pos in
    record {
      range = lies_in_range c.args.text.now c.args.stop place c.ended.result c.requires.place c.ended.ensures.lies;
      passed = λ parts rules s table search same text_is stop_is stands.
          let h : HasColumn parts table.columns c.args.self.now.asked (Some w.c) it.class = wide_column table c.args.matchers.now same c.args.text.now place.at c.args.stop it w pos in
          let char : IsCharTo s.text place.at w.c it.next = subst (λ (t : List ℕ). IsCharTo t place.at w.c it.next) (sym text_is) w.char in
          let fits : it.next ≤ s.stop = omega (arith, inside, stop_is) in
          let found = rw c.deref.ensures.value at c.cell_at-cell.ensures in
          c.ended.ensures.passed parts s table h.column.sort it.next stands
          (cell_tells table search place stands it.class (Some w.c) h it.next (char_place table search place stands w.c it.class it.next char fits h) c.cell_at-cell.result found);
    }
