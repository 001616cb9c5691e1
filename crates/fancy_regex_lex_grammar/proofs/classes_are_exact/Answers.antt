use Rattle.fancy_regex_lex_grammar.proofs.classes_are_exact.Goals as goal
use Rattle.fancy_regex_lex_grammar.proofs.ClassProofs.{classes_are_exact}

pub returns : goal.returns
returns c = classes_are_exact
