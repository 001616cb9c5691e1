use Rattle.fancy_regex_class.proofs.ClassLemmas.{regex_matches_members}
use Rattle.fancy_regex_class.proofs.law_of_membership.Goals as goal

pub returns : goal.returns
returns c = regex_matches_members
