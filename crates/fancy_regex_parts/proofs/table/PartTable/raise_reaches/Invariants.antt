use Rattle.std.proofs.Common.{◌≡◌}
use Rattle.fancy_regex_parts.proofs.table.PartTable.raise_reaches.Given as goal

abbrev pub invariant-loop-q : goal.invariant-loop-q
invariant-loop-q l = l.self.states ≡ l.fn.self.states
