use Rattle.fancy_regex_meaning.proofs.GroupProofs
use Rattle.fancy_regex_meaning.proofs.laws_of_groups.Goals as goal

pub returns : goal.returns
returns c = record {
  counted = GroupProofs.groups_are_counted;
  ranks = GroupProofs.numbers_are_ranks;
  bodies = GroupProofs.bodies_stand;
  targets = GroupProofs.targets_are_groups;
  calls = GroupProofs.calls_run_groups;
}
