use Rattle.fancy_regex_desugar.proofs.WaysProofs
use Rattle.fancy_regex_desugar.proofs.ChoiceProofs
use Rattle.fancy_regex_desugar.proofs.ProgramSizeProofs
use Rattle.fancy_regex_desugar.proofs.StepBackProofs
use Rattle.fancy_regex_desugar.proofs.GroupProofs
use Rattle.fancy_regex_desugar.proofs.desugar_laws.Goals as goal

pub returns : goal.returns
returns c = record {
  matches = WaysProofs.pattern_has_the_matches;
  choices = ChoiceProofs.pattern_has_the_choices;
  placed = StepBackProofs.pattern_steps_back_only_first;
  room = ProgramSizeProofs.pattern_size_is_bounded;
  groups = GroupProofs.pattern_groups_are_in_range;
}
