use Rattle.fancy_regex_table.specs.Needed.{AreEnded}
use Rattle.fancy_regex_table.proofs.needed_maker.end_passes.Given as goal

abbrev pub invariant-loop-i : goal.invariant-loop-i
invariant-loop-i l = record { ended : AreEnded l.fresh l.fn.cells.items l.cells.items }
