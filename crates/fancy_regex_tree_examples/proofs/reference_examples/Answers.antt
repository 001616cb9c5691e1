use Rattle.fancy_regex_tree_examples.proofs.reference_examples.Goals as goal
use Rattle.fancy_regex_tree_examples.proofs.ReferenceExampleProofs.{reference_examples}

pub returns : goal.returns
returns c = reference_examples
