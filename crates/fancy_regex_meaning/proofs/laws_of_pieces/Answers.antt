use Rattle.fancy_regex_meaning.proofs.ListProofs
use Rattle.fancy_regex_meaning.proofs.laws_of_pieces.Goals as goal

pub returns : goal.returns
returns c = record {
  one_more = ListProofs.one_more_piece;
  all = ListProofs.pieces_are_all;
  counted = ListProofs.pieces_up_to_are_counted;
  first = ListProofs.pieces_up_to_are_first;
  replaced = ListProofs.replaced_is_in_turn;
  by_self = ListProofs.replaced_by_self;
  nothing = ListProofs.nothing_replaced;
}
