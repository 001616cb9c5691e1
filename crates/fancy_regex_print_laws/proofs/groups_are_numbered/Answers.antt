use Rattle.fancy_regex_print_laws.proofs.groups_are_numbered.Goals as goal
use Rattle.fancy_regex_print_laws.proofs.GroupNumbers as proved

pub returns : goal.returns
returns c = proved.groups_are_numbered
