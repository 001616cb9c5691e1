use Rattle.std.proofs.Common.{arith, length-append}
use Rattle.fancy_regex_table.proofs.FlatLemmas.{flat_pushed}
use Rattle.fancy_regex_table.proofs.flat.flat_cells.Goals as goal

pub loop-class-preserved : goal.loop-class-preserved
loop-class-preserved c =
    let inv = c.loop-class.invariant in
    record {
      long = rw c.in_ok-push.ensures.items (simp length-append (omega (arith, inv.long)));
      flat = rw c.in_ok-push.ensures.items
          (flat_pushed c.args.rows.now c.args.classes c.loop-class.cells.items c.loop-number.number c.loop-class.class c.flat_cell-cell.result inv.flat
          c.loop-class-test.true inv.long c.flat_cell-cell.ensures);
    }
