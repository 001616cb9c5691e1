use Rattle.fancy_regex_table.specs.Flat.{ArePlaced}
use Rattle.fancy_regex_table.proofs.flat.fresh_places.Given as goal

abbrev pub invariant-loop-i : goal.invariant-loop-i
invariant-loop-i l = ArePlaced l.classes l.fresh l.placed.items
