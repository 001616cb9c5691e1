use Rattle.fancy_regex_tree_examples.proofs.group_examples.Goals as goal
use Rattle.fancy_regex_tree_examples.proofs.GroupExampleProofs.{group_examples}

pub returns : goal.returns
returns c = group_examples
