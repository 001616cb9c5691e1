use Rattle.fancy_regex_text.proofs.examples.layout_examples.Goals as goal
use Rattle.fancy_regex_text.proofs.LayoutExamplesProof.{layout_examples}

pub returns : goal.returns
returns c = layout_examples
