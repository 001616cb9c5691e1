use Rattle.std.proofs.Common.{◌≡◌, ◌∙◌, List, None, Some, false, subst}
use Rattle.std.specs.Prelude.{slice_get}
use Rattle.std.proofs.lemmas.Option.{get_or_from_slice_get}
use Rattle.fancy_regex_table.specs.LeafSets.{no_leaves}
use Rattle.fancy_regex_table.specs.Cells.{IsRight, sort_before}
use Rattle.fancy_regex_table.specs.Made.{AreReadingsOf}
use Rattle.fancy_regex_table.specs.Making.{parts_of, IsBegun, IsRightTarget}
use Rattle.fancy_regex_table.specs.Readings.{IsBegunAt}
use Rattle.fancy_regex_table.specs.declared.row.Row.{Row}
use Rattle.fancy_regex_table.specs.declared.row.Row.TheVariants.{Fresh}
use Rattle.fancy_regex_table.proofs.MakerLemmas.{cell_right}
use Rattle.fancy_regex_table.proofs.maker.cell_of.Goals as goal

pub returns-clause-cell : goal.returns-clause-cell
returns-clause-cell c homes right row there known column is =
    let parts = parts_of c.args.context.now.pattern.now in
    let rows = c.args.rows.now.list.items in
    let home = c.args.known.now.home.now in
    let begun = c.in-Some.begun.now in
    let fresh = c.made_cell-fresh.result in
    let target = c.in_ok-target.target in
    let value = c.deref.ensures.value in
    let found = c.in-Some.ensures in
    let begun_is : slice_get home.begun.items c.args.place ≡ Some (Some begun) = cc (value, found) in
    let at : IsBegunAt c.args.context.now.homes.now (sort_before row) c.args.place begun = record {
      place = known.home.1.0;
      home = home;
      is_there = known.home.1.1;
      sort = known.home.0;
      begun_is = begun_is;
    } in
    let read : c.index-row.result.now ≡ row = c.index-row.ensures ∙ get_or_from_slice_get rows c.args.number row c.index-row.result.now there in
    let column_is = get_or_from_slice_get c.args.context.now.columns.now c.args.place column
    (record { sample = None; sort = record { edge = false; newline = false; carriage_return = false; word = false; matched = no_leaves } }) is in
    let target_is = rw column_is at c.in_ok-target.ensures in
    cell_right parts c.args.context.now.columns.now c.args.context.now.homes.now rows c.cell_to.new.rows.list.items row c.args.place column begun c.args.known.now.readings.now fresh
    c.in_ok-cell.cell target homes at is
    (c.made_cell-fresh.ensures parts c.args.context.now.columns.now rows (sort_before row) right known.fresh column is)
    (subst (λ (r : Row). (all : List Row) → AreReadingsOf parts.states r c.args.known.now.readings.now → IsBegun parts (sort_before r) column.sort column.sample begun
    → IsRight parts all (Fresh (sort_before r)) column.sort column.sample fresh → IsRightTarget parts all r column.sort column.sample target) read target_is)
    known.readings c.in_ok-cell.ensures.cell
