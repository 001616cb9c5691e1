use Rattle.fancy_regex_text.proofs.examples.name_examples.Goals as goal
use Rattle.fancy_regex_text.proofs.NameExamplesProof.{name_examples}

pub returns : goal.returns
returns c = name_examples
