use Rattle.std.proofs.Common.{drop}
use Rattle.fancy_regex_table.proofs.StepLemmas.{IsStepSoFar}
use Rattle.fancy_regex_table.proofs.step.step.Given as goal

abbrev pub invariant-loop-i : goal.invariant-loop-i
invariant-loop-i l = IsStepSoFar l.reader.unicode l.reader.matchers.now l.reader.states.now l.c l.reads (drop l.i l.reads) l.nexts.items
