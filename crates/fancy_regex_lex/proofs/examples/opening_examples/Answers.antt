use Rattle.fancy_regex_lex.proofs.examples.opening_examples.Goals as goal
use Rattle.fancy_regex_lex.proofs.OpeningExamplesProof.{opening_examples}

pub returns : goal.returns
returns c = opening_examples
