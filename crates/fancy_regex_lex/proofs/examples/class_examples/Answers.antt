use Rattle.fancy_regex_lex.proofs.examples.class_examples.Goals as goal
use Rattle.fancy_regex_lex.proofs.ClassExamplesProof.{class_examples}

pub returns : goal.returns
returns c = class_examples
