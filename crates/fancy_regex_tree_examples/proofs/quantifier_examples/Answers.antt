use Rattle.fancy_regex_tree_examples.proofs.quantifier_examples.Goals as goal
use Rattle.fancy_regex_tree_examples.proofs.QuantifierExampleProofs.{quantifier_examples}

pub returns : goal.returns
returns c = quantifier_examples
