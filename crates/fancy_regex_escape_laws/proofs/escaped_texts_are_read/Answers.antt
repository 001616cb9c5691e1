use Rattle.fancy_regex_escape_laws.proofs.EscapeReading.{escaped_texts_are_read}
use Rattle.fancy_regex_escape_laws.proofs.escaped_texts_are_read.Goals as goal

pub returns : goal.returns
returns c = escaped_texts_are_read
