use Rattle.fancy_regex_tree_examples.proofs.atom_examples.Goals as goal
use Rattle.fancy_regex_tree_examples.proofs.AtomExampleProofs.{atom_examples}

pub returns : goal.returns
returns c = atom_examples
