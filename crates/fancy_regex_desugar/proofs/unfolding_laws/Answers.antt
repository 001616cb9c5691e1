use Rattle.fancy_regex_desugar.proofs.WaysProofs
use Rattle.fancy_regex_desugar.proofs.ChoiceProofs
use Rattle.fancy_regex_desugar.proofs.ProgramSizeProofs
use Rattle.fancy_regex_desugar.proofs.StepBackProofs
use Rattle.fancy_regex_desugar.proofs.unfolding_laws.Goals as goal

pub returns : goal.returns
returns c = record {
  ways = WaysProofs.unfolded_has_the_ways;
  choices = ChoiceProofs.unfolded_has_the_choices;
  room = ProgramSizeProofs.unfolded_has_room;
  placed = StepBackProofs.unfolded_steps_back_only_first;
}
