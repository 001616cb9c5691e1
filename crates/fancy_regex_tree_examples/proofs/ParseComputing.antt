-- The definitions of whole patterns, to be unfolded together.
use Rattle.fancy_regex_tree_examples.proofs.Computing.{computing}
use Rattle.fancy_regex_tree.specs.Numbering.{numbers_of, relative_number}
use Rattle.fancy_regex_tree.specs.Parse.{parse}

unfoldable pub parse_computing : Unit {0}
unfolding computing numbers_of relative_number parse
parse_computing = tt
