use Rattle.std.proofs.Common.{◌≡◌, ℕ, Some, length-append, subst, arith, ◌∙◌, ap}
use Rattle.std.specs.Prelude.{slice_get, IfSome}
use Rattle.std.proofs.lemmas.Option.{get_or_from_slice_get, slice_get_within}
use Rattle.fancy_regex_table.specs.Cells.{sort_before}
use Rattle.fancy_regex_table.specs.Making.{parts_of}
use Rattle.fancy_regex_table.specs.Made.{AreReadingsOf}
use Rattle.fancy_regex_table.specs.Readings.{IsHomeAt}
use Rattle.fancy_regex_table.specs.declared.maker.Known.{Known}
use Rattle.fancy_regex_table.specs.declared.row.Row.{Row}
use Rattle.fancy_regex_table.specs.declared.row.Row.TheVariants.{Fresh}
use Rattle.fancy_regex_table.specs.declared.sort.Sort.{Sort}
use Rattle.fancy_regex_table.proofs.MakerLemmas.{cells_more, known_more, right_rows_more, right_cells_pushed, row_at}
use Rattle.fancy_regex_table.proofs.Adding.{begins_both}
use Rattle.fancy_regex_table.proofs.maker.cells_of.Goals as goal

pub cell_of-requires-clause-row : goal.cell_of-requires-clause-row
cell_of-requires-clause-row c =
    let found = row_at c.args.rows.now.list.items c.args.number c.requires in
    slice_get_within c.loop-k.rows.list.items c.args.number found.0 (c.loop-k.invariant.grows c.args.number found.0 found.1)

pub loop-k-preserved : goal.loop-k-preserved
loop-k-preserved c =
    let parts = parts_of c.args.context.now.pattern.now in
    let first = c.args.rows.now.list.items in
    let rows = c.loop-k.rows.list.items in
    let more = c.cell_of.new.rows.list.items in
    let made = c.loop-k.made.items in
    let inv = c.loop-k.invariant in
    record {
      long = rw c.in_ok-push.ensures.items (simp length-append (omega arith));
      grows = begins_both first rows more inv.grows c.in_ok-cell.ensures.grows;
      right = λ homes right row there.
          let read : c.index-row.result.now ≡ row = c.index-row.ensures ∙ get_or_from_slice_get first c.args.number row c.index-row.result.now there in
          let before : c.before-before.result ≡ sort_before row = c.before-before.ensures ∙ ap sort_before read in
          let home = subst (λ (b : Sort). IsHomeAt c.args.context.now.homes.now b c.in-Some.home.now) before c.in-Some.ensures in
          let fresh = subst (λ (b : Sort). IfSome c.fresh_number-fresh.result (λ n. slice_get first n ≡ Some (Fresh b))) before c.fresh_number-fresh.ensures in
          let readings = subst (λ (r : Row). AreReadingsOf c.args.context.now.pattern.now.reader.states.now r c.in_ok-readings.readings.items) read c.in_ok-readings.ensures in
          let it : Known = record { home = c.in-Some.home; fresh = c.fresh_number-fresh.result; readings = c.deref.result } in
          let known = known_more parts.states c.args.context.now.homes.now first rows row it inv.grows
          (record { home = home; fresh = fresh; readings = rw c.deref.ensures.value readings }) in
          rw c.in_ok-push.ensures.items
          (right_cells_pushed parts c.args.context.now.columns.now more row made c.in_ok-cell.cell
          (cells_more parts c.args.context.now.columns.now rows more row made c.in_ok-cell.ensures.grows (inv.right homes right row there))
          (λ column h.
          c.in_ok-cell.ensures.cell homes (right_rows_more parts c.args.context.now.columns.now first rows c.args.cells.now inv.grows right) row (inv.grows c.args.number row there)
          known column (subst (λ (n : ℕ). slice_get c.args.context.now.columns.now n ≡ Some column) inv.long h)));
    }

pub returns-in_err-cell-clause-grows : goal.returns-in_err-cell-clause-grows
returns-in_err-cell-clause-grows c =
    begins_both c.args.rows.now.list.items c.loop-k.rows.list.items c.cell_of.new.rows.list.items c.loop-k.invariant.grows c.cell_of.ensures.grows

pub returns-in_err-push-clause-grows : goal.returns-in_err-push-clause-grows
returns-in_err-push-clause-grows c =
    begins_both c.args.rows.now.list.items c.loop-k.rows.list.items c.cell_of.new.rows.list.items c.loop-k.invariant.grows c.cell_of.ensures.grows
