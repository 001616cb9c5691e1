use Rattle.fancy_regex_template.proofs.ExamplesProof.{template_examples}
use Rattle.fancy_regex_template.proofs.laws.template_examples.Goals as goal

pub returns : goal.returns
returns c = template_examples
