use Rattle.std.proofs.Common.{refl, inl, subst, arith}
use Rattle.fancy_regex_table.specs.Needed.{Resets}
use Rattle.fancy_regex_table.proofs.MarkLemmas.{ended_more}
use Rattle.fancy_regex_table.proofs.needed_maker.end_passes.Goals as goal
use Rattle.fancy_regex_table.proofs.needed_maker.end_passes.Goals.{then-resets, else-resets}

pub loop-i-init : goal.loop-i-init
loop-i-init c = record { ended = record { long = refl; each = λ k cell there. inl there } }

pub loop-i-preserved : goal.loop-i-preserved
loop-i-preserved c =
    let fresh = c.args.fresh.now in
    let inv = c.loop-i.invariant in
    let long = inv.ended.long in
    record {
      ended = elim c.if-resets.branch [
        | then-resets w ↦
            rw w.cells-is
            (ended_more fresh c.args.cells.now.items c.loop-i.cells.items c.loop-i.i c.index.result.now (omega (arith, c.loop-i-test.true, c.len-i-end.ensures, long)) inv.ended
            (subst (Resets fresh) c.index.ensures (c.resets.ensures w.if-resets.true)))
        | else-resets w ↦ rw w.cells-is inv.ended
      ];
    }
