use Rattle.fancy_regex_template.proofs.CutLemmas.{parts_are_cut}
use Rattle.fancy_regex_template.proofs.laws.parts_are_cut.Goals as goal

pub returns : goal.returns
returns c = parts_are_cut
