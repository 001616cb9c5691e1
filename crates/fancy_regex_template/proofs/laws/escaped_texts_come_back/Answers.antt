use Rattle.fancy_regex_template.proofs.LawProofs.{escaped_texts_come_back}
use Rattle.fancy_regex_template.proofs.laws.escaped_texts_come_back.Goals as goal

pub returns : goal.returns
returns c = escaped_texts_come_back
