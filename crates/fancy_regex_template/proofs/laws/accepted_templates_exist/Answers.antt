use Rattle.fancy_regex_template.proofs.LawProofs.{accepted_templates_exist}
use Rattle.fancy_regex_template.proofs.laws.accepted_templates_exist.Goals as goal

pub returns : goal.returns
returns c = accepted_templates_exist
