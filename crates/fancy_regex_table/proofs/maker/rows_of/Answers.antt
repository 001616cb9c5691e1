use Rattle.std.proofs.Common.{◌≡◌, ℕ, Some, length-append, sym, subst, arith}
use Rattle.std.specs.Prelude.{slice_get}
use Rattle.fancy_regex_table.specs.Making.{parts_of}
use Rattle.fancy_regex_table.proofs.MakerLemmas.{fresh_more, right_rows_more, right_rows_pushed, row_at}
use Rattle.fancy_regex_table.proofs.maker.rows_of.Goals as goal

pub loop-number-preserved : goal.loop-number-preserved
loop-number-preserved c =
    let rows = c.loop-number.rows.list.items in
    let more = c.cells_of.new.rows.list.items in
    let cells = c.loop-number.cells.items in
    let inv = c.loop-number.invariant in
    let found = row_at rows c.loop-number.number (omega arith) in
    let there = c.in_ok-made.ensures.grows c.loop-number.number found.0 found.1 in
    record {
      long = rw c.in_ok-push.ensures.items (simp length-append (omega arith));
      fresh_rows = fresh_more rows more c.in_ok-fresh.fresh.items c.in_ok-made.ensures.grows inv.fresh_rows;
      right = λ homes.
          rw c.in_ok-push.ensures.items
          (right_rows_pushed (parts_of c.args.pattern.now) c.args.columns.now more cells c.in_ok-made.made found.0
          (right_rows_more (parts_of c.args.pattern.now) c.args.columns.now rows more cells c.in_ok-made.ensures.grows (inv.right homes))
          (subst (λ (n : ℕ). slice_get more n ≡ Some found.0) (sym inv.long) there)
          (c.in_ok-made.ensures.made homes (rw c.deref.ensures.value (inv.right homes)) found.0 found.1));
    }
