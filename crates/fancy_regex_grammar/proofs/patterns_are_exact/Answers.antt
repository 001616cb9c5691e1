use Rattle.fancy_regex_grammar.proofs.patterns_are_exact.Goals as goal
use Rattle.fancy_regex_grammar.proofs.PatternProofs.{patterns_are_exact}

pub returns : goal.returns
returns c = patterns_are_exact
