use Rattle.fancy_regex_lex_grammar.proofs.openings_are_exact.Goals as goal
use Rattle.fancy_regex_lex_grammar.proofs.OpeningProofs.{openings_are_exact}

pub returns : goal.returns
returns c = openings_are_exact
