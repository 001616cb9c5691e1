use Rattle.std.proofs.Common.{ℕ, ◌<◌}
use Rattle.fancy_regex_parts.specs.Tables.{IsRightAt}
use Rattle.fancy_regex_parts.proofs.table.PartTable.is_right.Given as goal

abbrev pub invariant-loop-q : goal.invariant-loop-q
invariant-loop-q l = (q : ℕ) → q < l.q → IsRightAt l.self q
