use Rattle.std.proofs.Common.{◌≡◌, ◌-◌, ◌^◌, min}
use Rattle.std.specs.Prelude.{sum_by}
use Rattle.std.proofs.Math.ListN.{take}
use Rattle.fancy_regex_parts.specs.Tables.{cost_of}
use Rattle.fancy_regex_parts.proofs.table.PartTable.weight.Given as goal

abbrev pub invariant-loop-mark : goal.invariant-loop-mark
invariant-loop-mark l = l.weight ≡ min (sum_by (cost_of l.self) (take l.mark l.self.heads.items)) (2 ^ 64 - 1)
