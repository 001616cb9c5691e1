use Rattle.fancy_regex_meaning.proofs.ExampleProofs
use Rattle.fancy_regex_meaning.proofs.worked_sizes.Goals as goal

pub returns : goal.returns
returns c = record {
  weights = ExampleProofs.weights;
  chosen = ExampleProofs.chosen;
  nodes = ExampleProofs.nodes;
  sizes = ExampleProofs.sizes_of_patterns;
}
