use Rattle.std.proofs.Common.{◌≡◌}
use Rattle.fancy_regex_parts.proofs.table.PartTable.set_costs.Given as goal

abbrev pub invariant-loop-q : goal.invariant-loop-q
invariant-loop-q l = (l.self.states ≡ l.fn.self.states) × (l.self.reaches ≡ l.fn.self.reaches)
