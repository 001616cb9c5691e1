use Rattle.fancy_regex_lex_grammar.proofs.tokens_are_prefixes.Goals as goal
use Rattle.fancy_regex_lex_grammar.proofs.EndProofs.{tokens_are_prefixes, token_faults_are_inside}

pub returns-clause-fronts : goal.returns-clause-fronts
returns-clause-fronts c = tokens_are_prefixes

pub returns-clause-faults : goal.returns-clause-faults
returns-clause-faults c = token_faults_are_inside
