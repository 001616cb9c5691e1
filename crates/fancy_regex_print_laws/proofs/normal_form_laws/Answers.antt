use Rattle.fancy_regex_print_laws.proofs.NormalFormGroupProofs.{count_stays}
use Rattle.fancy_regex_print_laws.proofs.NormalFormSearchProofs.{ways_stay, matches_stay, items_stay}
use Rattle.fancy_regex_print_laws.proofs.normal_form_laws.Goals as goal

pub returns-clause-groups : goal.returns-clause-groups
returns-clause-groups c = count_stays

pub returns-clause-ways : goal.returns-clause-ways
returns-clause-ways c = ways_stay

pub returns-clause-matches : goal.returns-clause-matches
returns-clause-matches c = matches_stay

pub returns-clause-items : goal.returns-clause-items
returns-clause-items c = items_stay
