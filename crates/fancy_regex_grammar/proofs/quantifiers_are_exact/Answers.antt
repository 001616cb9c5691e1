use Rattle.fancy_regex_grammar.proofs.quantifiers_are_exact.Goals as goal
use Rattle.fancy_regex_grammar.proofs.QuantifierProofs.{quantifiers_are_exact}

pub returns : goal.returns
returns c = quantifiers_are_exact
