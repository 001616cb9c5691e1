use Rattle.std.proofs.Common.{refl}
use Rattle.fancy_regex_template.proofs.ExpansionLemmas.{or_empty}
use Rattle.fancy_regex_template.proofs.expand.text_or_empty.Goals as goal

pub returns : goal.returns
returns c = rw c.unwrap_or.ensures (or_empty c.args.text _ refl)
