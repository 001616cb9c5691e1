use Rattle.fancy_regex_meaning.proofs.SizeProofs
use Rattle.fancy_regex_meaning.proofs.TerminationProofs
use Rattle.fancy_regex_meaning.proofs.NonTerminationProofs
use Rattle.fancy_regex_meaning.proofs.laws_of_sizes.Goals as goal

pub returns : goal.returns
returns c = record {
  least = SizeProofs.least_is_taken;
  greatest = SizeProofs.greatest_is_kept;
  always = SizeProofs.always_is_exact;
  moves = SizeProofs.non_empty_moves;
  endless = SizeProofs.endless_has_none;
  ends = TerminationProofs.ends_unfold;
  others = TerminationProofs.others_do_not;
  deeper = TerminationProofs.ends_are_unbounded;
  still = TerminationProofs.still_is_settled;
  no_least = NonTerminationProofs.endless_is_unbounded;
}
