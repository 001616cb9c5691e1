use Rattle.std.proofs.Common.{take}
use Rattle.fancy_regex_table.specs.Blocks.{AreClasses}
use Rattle.fancy_regex_table.proofs.wide_maker.classes_of.Given as goal

abbrev pub invariant-loop-i : goal.invariant-loop-i
invariant-loop-i l = AreClasses (take l.i l.answers) l.by_answers l.classes.items
