use Rattle.std.proofs.Common.{◌+◌, ◌<◌, ◌≤◌, ℕ, List, Some, ap, subst, sym, arith, get_or}
use Rattle.std.specs.Prelude.{slice_index}
use Rattle.fancy_regex_table.specs.Tables.{IsAsciiAt}
use Rattle.fancy_regex_table.specs.declared.row.Cell.TheVariants.{Idle}
use Rattle.fancy_regex_table.proofs.PlaceLemmas.{char_place}
use Rattle.fancy_regex_table.proofs.TableLemmas.{ascii_here, cell_tells, idle_next, lies_in_range}
use Rattle.fancy_regex_table.proofs.table.Table.outcome.Goals as goal

pub returns-in-Idle : goal.returns-in-Idle
returns-in-Idle c =
    let place = c.args.place in
    let text = c.args.text.now in
    let byte = get_or c.as_bytes.result.now place.at 0 in
    let small : byte < 128 = omega (arith, c.if-byte-ge128.false) in
    let at_end = c.requires.inside.1 in
    let lt = c.requires.inside.0 in
    let here : IsAsciiAt text place.at byte =
    ascii_here text place.at byte 0 c.utf8.text c.requires.place.boundary (omega (arith, lt, at_end)) (ap (λ (t : List ℕ). get_or t place.at 0) c.as_bytes.ensures.value) small in
    record {
      range = (omega (arith, c.requires.place.order), omega (arith, lt), here.boundary_next);
      passed = λ parts rules s table search same text_is stop_is stands.
          let char : IsAsciiAt s.text place.at byte = subst (λ (t : List ℕ). IsAsciiAt t place.at byte) (sym text_is) here in
          let fits : place.at + 1 ≤ s.stop = omega (arith, lt, stop_is) in
          let class = slice_index c.args.self.now.classes byte in
          let h = table.ascii byte small in
          let found = rw c.deref.ensures.value at c.in-Idle.ensures in
          idle_next table search place stands byte (place.at + 1) char fits
          (cell_tells table search place stands class (Some byte) h (place.at + 1) (char_place table search place stands byte class (place.at + 1) char fits h) Idle found);
    }

pub returns-in_default : goal.returns-in_default
returns-in_default c =
    let place = c.args.place in
    let text = c.args.text.now in
    let byte = get_or c.as_bytes.result.now place.at 0 in
    let small : byte < 128 = omega (arith, c.if-byte-ge128.false) in
    let at_end = c.requires.inside.1 in
    let lt = c.requires.inside.0 in
    let here : IsAsciiAt text place.at byte =
    ascii_here text place.at byte 0 c.utf8.text c.requires.place.boundary (omega (arith, lt, at_end)) (ap (λ (t : List ℕ). get_or t place.at 0) c.as_bytes.ensures.value) small in
    record {
      range = lies_in_range text c.args.stop place c.ended.result c.requires.place c.ended.ensures.lies;
      passed = λ parts rules s table search same text_is stop_is stands.
          let char : IsAsciiAt s.text place.at byte = subst (λ (t : List ℕ). IsAsciiAt t place.at byte) (sym text_is) here in
          let fits : place.at + 1 ≤ s.stop = omega (arith, lt, stop_is) in
          let class = slice_index c.args.self.now.classes byte in
          let h = table.ascii byte small in
          let found = rw c.deref.ensures.value at c.cell_at-cell.ensures in
          c.ended.ensures.passed parts s table h.column.sort (place.at + 1) stands
          (cell_tells table search place stands class (Some byte) h (place.at + 1) (char_place table search place stands byte class (place.at + 1) char fits h)
          c.cell_at-cell.result found);
    }
