use Rattle.fancy_regex_meaning.proofs.WayProofs
use Rattle.fancy_regex_meaning.proofs.FirstWayProofs
use Rattle.fancy_regex_meaning.proofs.ForwardProofs
use Rattle.fancy_regex_meaning.proofs.MatchStartProofs
use Rattle.fancy_regex_meaning.proofs.BoundProofs
use Rattle.fancy_regex_meaning.proofs.ChoiceProofs
use Rattle.fancy_regex_meaning.proofs.laws_of_ways.Goals as goal

pub returns : goal.returns
returns c = record {
  atomic = WayProofs.atomic_has_one;
  look_around = WayProofs.look_around_has_each;
  negative = WayProofs.negative_stays;
  rows = WayProofs.row_splits;
  first = FirstWayProofs.first_goes_by_parts;
  onward = ForwardProofs.ways_go_onward;
  cuts = ForwardProofs.ways_cut_well;
  kept = MatchStartProofs.keeps_start;
  repeats = BoundProofs.repeats_unroll;
  loops = BoundProofs.loops_unbounded;
  calls = BoundProofs.calls_are_unbounded;
  few = ChoiceProofs.ways_are_few;
}
