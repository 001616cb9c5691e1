use Rattle.std.proofs.Common.{◌≡◌, take}
use Rattle.fancy_regex_linear.specs.Re.{shapes}
use Rattle.fancy_regex_linear.proofs.copy.+copy.Given as goal

abbrev pub invariant-all_copied-loop-i : goal.invariant-all_copied-loop-i
invariant-all_copied-loop-i l = shapes l.all.items ≡ shapes (take l.i l.nodes)
