use Rattle.fancy_regex_lex.proofs.examples.quantifier_examples.Goals as goal
use Rattle.fancy_regex_lex.proofs.QuantifierExamplesProof.{quantifier_examples}

pub returns : goal.returns
returns c = quantifier_examples
