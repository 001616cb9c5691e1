use Rattle.std.proofs.Common.{drop}
use Rattle.fancy_regex_table.proofs.TargetLemmas.{IsUnionSoFar}
use Rattle.fancy_regex_table.proofs.target.add_all.Given as goal

abbrev pub invariant-loop-i : goal.invariant-loop-i
invariant-loop-i l = IsUnionSoFar l.states (drop l.i l.states) l.others l.fn.list.items l.list.items
