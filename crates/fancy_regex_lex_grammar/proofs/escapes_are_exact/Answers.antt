use Rattle.fancy_regex_lex_grammar.proofs.escapes_are_exact.Goals as goal
use Rattle.fancy_regex_lex_grammar.proofs.EscapeProofs.{escapes_are_exact, closed_references_are_exact}

pub returns-clause-escapes : goal.returns-clause-escapes
returns-clause-escapes c = escapes_are_exact

pub returns-clause-references : goal.returns-clause-references
returns-clause-references c = closed_references_are_exact
