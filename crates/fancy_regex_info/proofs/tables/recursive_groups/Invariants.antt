use Rattle.std.proofs.Common.{◌≡◌, ℕ, ◌<◌, false, length, get_or}
use Rattle.fancy_regex_info.specs.Reachability.{rows}
use Rattle.fancy_regex_info.specs.SizeFixpoint.{is_on_cycle}
use Rattle.fancy_regex_info.proofs.tables.recursive_groups.Given as goal

abbrev pub invariant-loop-group : goal.invariant-loop-group
invariant-loop-group l = record {
  same : length l.all.items ≡ l.group;
  marks : (k : ℕ) → k < l.group → get_or l.all.items k false ≡ is_on_cycle (rows l.calls) k;
}
