use Rattle.fancy_regex_template.proofs.LawProofs.{plain_templates_stay}
use Rattle.fancy_regex_template.proofs.laws.plain_templates_stay.Goals as goal

pub returns : goal.returns
returns c = plain_templates_stay
