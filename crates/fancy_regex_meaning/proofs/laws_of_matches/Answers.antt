use Rattle.fancy_regex_meaning.proofs.MatchStartProofs
use Rattle.fancy_regex_meaning.proofs.SearchProofs
use Rattle.fancy_regex_meaning.proofs.laws_of_matches.Goals as goal

pub returns : goal.returns
returns c = record {
  admitted = SearchProofs.matches_are_admitted;
  none = SearchProofs.none_is_none;
  longest = SearchProofs.longest_ends_last;
  spans = MatchStartProofs.matches_are_spans;
  cuts = SearchProofs.matches_cut_well;
  found = SearchProofs.found_cuts_well;
  one_member = SearchProofs.one_member_finds;
  members = SearchProofs.sets_find_members;
}
