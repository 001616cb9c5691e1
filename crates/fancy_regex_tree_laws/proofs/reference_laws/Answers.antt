use Rattle.fancy_regex_tree_laws.proofs.reference_laws.Goals as goal
use Rattle.fancy_regex_tree_laws.proofs.GroupRanks.{counted_law, numbers_law, last_named_law, relative_law}
use Rattle.fancy_regex_tree_laws.proofs.ResolvedGroupProofs.{groups_law, resolved_law}
use Rattle.fancy_regex_tree_laws.proofs.ParsedGroupProofs.{parsed_law}

pub returns-clause-counted : goal.returns-clause-counted
returns-clause-counted c = counted_law

pub returns-clause-numbers : goal.returns-clause-numbers
returns-clause-numbers c = numbers_law

pub returns-clause-last : goal.returns-clause-last
returns-clause-last c = last_named_law

pub returns-clause-relative : goal.returns-clause-relative
returns-clause-relative c = relative_law

pub returns-clause-groups : goal.returns-clause-groups
returns-clause-groups c = groups_law

pub returns-clause-resolved : goal.returns-clause-resolved
returns-clause-resolved c = resolved_law

pub returns-clause-parsed : goal.returns-clause-parsed
returns-clause-parsed c = parsed_law
