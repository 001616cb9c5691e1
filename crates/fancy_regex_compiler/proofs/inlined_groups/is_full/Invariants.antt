use Rattle.std.proofs.Common.{take}
use Rattle.fancy_regex_compiler.proofs.CalledTextLemmas.{NoneHas}
use Rattle.fancy_regex_compiler.proofs.inlined_groups.is_full.Given as goal

abbrev pub invariant-loop-group : goal.invariant-loop-group
invariant-loop-group l = NoneHas l.rooms 0 (take l.group-index l.full)
