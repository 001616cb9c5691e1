use Rattle.fancy_regex_lex_grammar.proofs.flags_are_exact.Goals as goal
use Rattle.fancy_regex_lex_grammar.proofs.FlagProofs.{flags_are_exact}

pub returns : goal.returns
returns c = flags_are_exact
