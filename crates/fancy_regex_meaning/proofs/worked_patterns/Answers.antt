use Rattle.fancy_regex_meaning.proofs.ExampleProofs
use Rattle.fancy_regex_meaning.proofs.ExplodingProof
use Rattle.fancy_regex_meaning.proofs.worked_patterns.Goals as goal

pub returns : goal.returns
returns c = record {
  orders = ExampleProofs.orders;
  two_newlines = ExampleProofs.two_newlines;
  empty_iteration = ExampleProofs.empty_iteration;
  look_ahead_keeps_ways = ExampleProofs.look_ahead_keeps_ways;
  atomic_is_first = ExampleProofs.atomic_is_first;
  range_ends = ExampleProofs.range_ends;
  not_empty = ExampleProofs.not_empty;
  folded_reference = ExampleProofs.folded_reference;
  recursion = ExampleProofs.recursion;
  branches = ExampleProofs.branches;
  calls = ExampleProofs.calls;
  deep = ExampleProofs.deep;
  edges = ExampleProofs.edges;
  longest = ExampleProofs.longest_rows;
  exploding = ExplodingProof.exploding_finds_none;
}
