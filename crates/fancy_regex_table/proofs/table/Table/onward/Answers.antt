use Rattle.std.proofs.Common.{◌+◌, ◌<◌, ◌≤◌, Some, false, arith}
use Rattle.std.specs.Prelude.{slice_index}
use Rattle.fancy_regex_table.specs.declared.row.Cell.TheVariants.{Next}
use Rattle.fancy_regex_table.proofs.PlaceLemmas.{char_place}
use Rattle.fancy_regex_table.proofs.TableLemmas.{cell_tells, next_ascii, stands_next}
use Rattle.fancy_regex_table.proofs.table.Table.onward.Goals as goal

pub returns-in-Next-clause-stands : goal.returns-in-Next-clause-stands
returns-in-Next-clause-stands c parts rules s table search ascii lt stands =
    let place = c.args.place in
    let byte = c.args.byte in
    let small : byte < 128 = next_ascii c.args.self.now byte place.row c.in-Next.begins false c.in-Next.row (omega arith) (rw (c.deref.ensures.value, c.in-Next.ends-test) at c.in-Next.ensures) in
    let here = ascii small in
    let class = slice_index c.args.self.now.classes byte in
    let h = table.ascii byte small in
    let found = rw (c.deref.ensures.value, c.in-Next.ends-test) at c.in-Next.ensures in
    let fits : place.at + 1 ≤ s.stop = omega (arith, lt) in
    rw c.begun_at.ensures
    (stands_next table search place stands byte (place.at + 1) here fits class h c.in-Next.row c.in-Next.begins false
    (cell_tells table search place stands class (Some byte) h (place.at + 1) (char_place table search place stands byte class (place.at + 1) here fits h)
    (Next c.in-Next.begins false c.in-Next.row) found))
