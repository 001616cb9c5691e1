use Rattle.fancy_regex_escape_laws.proofs.PlainItems.{matches_are_replaced_plainly}
use Rattle.fancy_regex_escape_laws.proofs.matches_are_replaced_plainly.Goals as goal

pub returns : goal.returns
returns c = matches_are_replaced_plainly
