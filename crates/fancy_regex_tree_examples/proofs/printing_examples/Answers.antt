use Rattle.fancy_regex_tree_examples.proofs.printing_examples.Goals as goal
use Rattle.fancy_regex_tree_examples.proofs.PrintingExampleProofs.{printing_examples}

pub returns : goal.returns
returns c = printing_examples
