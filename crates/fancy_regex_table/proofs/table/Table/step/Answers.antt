use Rattle.std.proofs.Common.{◌+◌, ◌<◌, ◌≤◌, Some, refl, arith}
use Rattle.std.specs.Prelude.{slice_index}
use Rattle.fancy_regex_table.specs.declared.row.Cell.TheVariants.{Next}
use Rattle.fancy_regex_table.proofs.PlaceLemmas.{char_place}
use Rattle.fancy_regex_table.proofs.TableLemmas.{begun_of, cell_tells, next_ascii, stands_next}
use Rattle.fancy_regex_table.proofs.table.Table.step.Goals as goal

pub returns-in-Next : goal.returns-in-Next
returns-in-Next c =
    let place = c.args.place in
    let byte = c.args.byte in
    let small : byte < 128 = next_ascii c.args.self.now byte place.row c.in-Next.begins c.in-Next.ends c.in-Next.row (omega arith) (rw c.requires.cells at c.in-Next.ensures) in
    record {
      onward = record { ascii = small; at = refl; start = rw c.begun_at.ensures (begun_of c.in-Next.begins place) };
      stands = λ parts rules s table search ascii lt stands.
          let here = ascii small in
          let class = slice_index c.args.self.now.classes byte in
          let h = table.ascii byte small in
          let found = rw c.requires.cells at c.in-Next.ensures in
          let fits : place.at + 1 ≤ s.stop = omega (arith, lt) in
          rw (c.begun_at.ensures, c.begun_at-in-Next.ensures)
          (stands_next table search place stands byte (place.at + 1) here fits class h c.in-Next.row c.in-Next.begins c.in-Next.ends
          (cell_tells table search place stands class (Some byte) h (place.at + 1) (char_place table search place stands byte class (place.at + 1) here fits h)
          (Next c.in-Next.begins c.in-Next.ends c.in-Next.row) found));
    }
