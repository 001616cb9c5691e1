use Rattle.fancy_regex_tree_examples.proofs.error_examples.Goals as goal
use Rattle.fancy_regex_tree_examples.proofs.ErrorExampleProofs.{error_examples}

pub returns : goal.returns
returns c = error_examples
