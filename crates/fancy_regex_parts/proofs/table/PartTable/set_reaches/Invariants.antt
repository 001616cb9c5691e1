use Rattle.std.proofs.Common.{◌≡◌}
use Rattle.fancy_regex_parts.proofs.table.PartTable.set_reaches.Given as goal

abbrev pub invariant-passes : goal.invariant-passes
invariant-passes l = l.self.states ≡ l.fn.self.states
