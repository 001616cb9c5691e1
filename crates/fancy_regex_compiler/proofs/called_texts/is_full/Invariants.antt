use Rattle.std.proofs.Common.{take}
use Rattle.fancy_regex_compiler.proofs.CalledTextLemmas.{NoneHas}
use Rattle.fancy_regex_compiler.proofs.called_texts.is_full.Given as goal

abbrev pub invariant-loop-group : goal.invariant-loop-group
invariant-loop-group l = NoneHas l.lengths l.most (take l.group-index l.full)
