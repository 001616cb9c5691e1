use Rattle.fancy_regex_lex_grammar.proofs.layout_is_exact.Goals as goal
use Rattle.fancy_regex_lex_grammar.proofs.LayoutProofs.{next_token_is_exact, skip_is_exact}

pub returns-clause-next_token : goal.returns-clause-next_token
returns-clause-next_token c = next_token_is_exact

pub returns-clause-skip : goal.returns-clause-skip
returns-clause-skip c = skip_is_exact
