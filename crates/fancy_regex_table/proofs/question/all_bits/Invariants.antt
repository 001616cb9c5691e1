use Rattle.std.proofs.Common.{take}
use Rattle.fancy_regex_table.specs.Questions.{AreBits}
use Rattle.fancy_regex_table.proofs.question.all_bits.Given as goal

abbrev pub invariant-loop-i : goal.invariant-loop-i
invariant-loop-i l = AreBits l.reader.unicode l.reader.matchers.now (take l.i l.questions) l.all.items
