use Rattle.fancy_regex_grammar.proofs.patterns_are_prefixes.Goals as goal
use Rattle.fancy_regex_grammar.proofs.EndProofs.{left_is_end, pattern_faults_are_inside}

pub returns-clause-left : goal.returns-clause-left
returns-clause-left c = left_is_end

pub returns-clause-faults : goal.returns-clause-faults
returns-clause-faults c = pattern_faults_are_inside
