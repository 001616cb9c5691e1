use Rattle.fancy_regex_lex.proofs.examples.flag_examples.Goals as goal
use Rattle.fancy_regex_lex.proofs.FlagExamplesProof.{flag_examples}

pub returns : goal.returns
returns c = flag_examples
