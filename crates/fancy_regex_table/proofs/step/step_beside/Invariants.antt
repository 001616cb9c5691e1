use Rattle.std.proofs.Common.{drop}
use Rattle.fancy_regex_table.proofs.StepLemmas.{IsBesideSoFar}
use Rattle.fancy_regex_table.proofs.step.step_beside.Given as goal

abbrev pub invariant-loop-i : goal.invariant-loop-i
invariant-loop-i l = IsBesideSoFar l.reader.unicode l.reader.matchers.now l.reader.states.now l.c l.reads l.others (drop l.i l.reads) l.nexts.items
