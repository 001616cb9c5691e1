use Rattle.fancy_regex_tree_examples.proofs.name_examples.Goals as goal
use Rattle.fancy_regex_tree_examples.proofs.NameExampleProofs.{name_examples}

pub returns : goal.returns
returns c = name_examples
