use Rattle.fancy_regex_meaning.proofs.MatchStartProofs
use Rattle.fancy_regex_meaning.proofs.ItemBound
use Rattle.fancy_regex_meaning.proofs.SearchProofs
use Rattle.fancy_regex_meaning.proofs.laws_of_items.Goals as goal

pub returns : goal.returns
returns c = record {
  ascend = MatchStartProofs.patterns_ascend;
  first = ItemBound.first_item_is_found;
  more = ItemBound.items_need_no_more;
  bound = ItemBound.items_are_unbounded;
  cuts = SearchProofs.items_cut_well;
}
