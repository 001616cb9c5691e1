use Rattle.std.proofs.Common.{◌≡◌, false, Some, refl, arith, length, get_or}
use Rattle.std.specs.Prelude.{slice_get}
use Rattle.std.proofs.lemmas.Option.{slice_get_read, slice_get-get_or}
use Rattle.fancy_regex_table.specs.declared.row.Cell.TheVariants.{Next}
use Rattle.fancy_regex_table.specs.declared.row.Row.TheVariants.{Fresh}
use Rattle.fancy_regex_table.proofs.MakerLemmas.{fresh_is_right}
use Rattle.fancy_regex_table.proofs.maker.made_cell.Goals as goal

pub returns-then-column-made : goal.returns-then-column-made
returns-then-column-made c parts columns rows before right fresh it there =
    let value = c.deref-made.ensures.value in
    let is = c.index-cells-number.is in
    let number = c.in-Some.number in
    let here = slice_get-get_or c.deref-made.result.now c.args.column (Next false false 0) (omega (arith, c.if-column-made.true)) in
    let row : slice_get rows number ≡ Some (Fresh before) = rw c.in-Some.is at fresh in
    fresh_is_right parts columns rows c.args.cells.now number c.args.column c.index-cells-number.result before it
    (get_or c.deref-made.result.now c.args.column (Next false false 0)) right
    (slice_get_read c.args.cells.now (length c.args.cells.now) number c.index-cells-number.result refl (omega arith) is)
    row there (cc (value, here))
