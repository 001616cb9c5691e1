use Rattle.fancy_regex_escape_laws.proofs.EscapeParsing.{escaped_texts_match_themselves}
use Rattle.fancy_regex_escape_laws.proofs.escaped_texts_match_themselves.Goals as goal

pub returns : goal.returns
returns c = escaped_texts_match_themselves
