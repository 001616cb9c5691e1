use Rattle.fancy_regex_tree_examples.proofs.reference_summary_examples.Goals as goal
use Rattle.fancy_regex_tree_examples.proofs.ReferenceSummaryExampleProofs.{reference_summary_examples}

pub returns : goal.returns
returns c = reference_summary_examples
