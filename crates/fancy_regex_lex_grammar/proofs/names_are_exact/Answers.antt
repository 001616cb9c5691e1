use Rattle.fancy_regex_lex_grammar.proofs.names_are_exact.Goals as goal
use Rattle.fancy_regex_lex_grammar.proofs.NameProofs.{names_are_exact}

pub returns : goal.returns
returns c = names_are_exact
