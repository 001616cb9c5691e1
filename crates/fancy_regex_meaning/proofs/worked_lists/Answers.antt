use Rattle.fancy_regex_meaning.proofs.ExampleProofs
use Rattle.fancy_regex_meaning.proofs.worked_lists.Goals as goal

pub returns : goal.returns
returns c = record {
  iterations = ExampleProofs.iterations;
  sets = ExampleProofs.sets;
  pieces = ExampleProofs.pieces;
}
