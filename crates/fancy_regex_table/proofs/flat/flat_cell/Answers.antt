use Rattle.std.proofs.Common.{false, refl, arith, inl, inr, length, get_or}
use Rattle.std.proofs.lemmas.Option.{slice_get_read, slice_get-get_or}
use Rattle.fancy_regex_table.specs.declared.row.Cell.TheVariants.{Next}
use Rattle.fancy_regex_table.proofs.flat.flat_cell.Goals as goal

pub returns-then-class-made : goal.returns-then-class-made
returns-then-class-made c =
    let value = c.deref-made.ensures.value in
    let rows = c.args.rows.now in
    let made = get_or c.deref-made.result.now c.args.class (Next false false 0) in
    let here = slice_get-get_or c.deref-made.result.now c.args.class (Next false false 0) (omega (arith, c.if-class-made.true)) in
    elim c.placed.ensures [
      | inl none ↦ inl none
      | inr is ↦
          inr (record {
            row = c.index-rows-number.result;
            made = made;
            is_there = slice_get_read rows (length rows) c.args.number c.index-rows-number.result refl (omega (arith, c.if-number-rows.false)) c.index-rows-number.is;
            is_made = cc (value, here);
            is_placed = is;
          })
    ]
