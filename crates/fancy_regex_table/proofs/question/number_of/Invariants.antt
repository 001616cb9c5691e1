use Rattle.std.proofs.Common.{◌≡◌, drop, map}
use Rattle.fancy_regex_table.specs.Questions.{answer, number_from, number_of}
use Rattle.fancy_regex_table.proofs.question.number_of.Given as goal

abbrev pub invariant-loop-i : goal.invariant-loop-i
invariant-loop-i l =
    number_from l.number (map (λ q. answer l.unicode l.matchers q l.c) (drop l.i l.questions)) ≡ number_of l.unicode l.matchers l.questions l.c
