use Rattle.std.proofs.Common.{◌≡◌, ℕ, ◌<◌, length, map}
use Rattle.fancy_regex_analysis.specs.TerminationFixpoint.{next_end}
use Rattle.fancy_regex_analysis.specs.TerminationFixpoint.{ends_in}
use Rattle.fancy_regex_info.specs.Views.{body_tree}
use Rattle.fancy_regex_analysis.proofs.termination.next_ends.Given as goal

abbrev pub invariant-loop-group : goal.invariant-loop-group
invariant-loop-group l = record {
  same : length l.next.items ≡ l.group;
  ends : (k : ℕ) → k < l.group → ends_in l.next.items k ≡ next_end (map body_tree l.groups) (ends_in l.ends) k;
}
