use Rattle.fancy_regex_analysis_laws.proofs.WellFormedProofs.{parsed_trees_are_well_formed}
use Rattle.fancy_regex_analysis_laws.proofs.well_formed_law.Goals as goal

pub returns : goal.returns
returns c = parsed_trees_are_well_formed
