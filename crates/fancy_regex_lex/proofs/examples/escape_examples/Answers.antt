use Rattle.fancy_regex_lex.proofs.examples.escape_examples.Goals as goal
use Rattle.fancy_regex_lex.proofs.EscapeExamplesProof.{escape_examples}

pub returns : goal.returns
returns c = escape_examples
