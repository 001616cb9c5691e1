use Rattle.fancy_regex_lex_grammar.proofs.quantifier_tokens_are_exact.Goals as goal
use Rattle.fancy_regex_lex_grammar.proofs.CountProofs.{quantifiers_are_exact, marks_are_exact}

pub returns-clause-quantifiers : goal.returns-clause-quantifiers
returns-clause-quantifiers c = quantifiers_are_exact

pub returns-clause-marks : goal.returns-clause-marks
returns-clause-marks c = marks_are_exact
