use Rattle.std.proofs.Common.{◌≡◌, ◌+◌, length, vec_len}
use Rattle.fancy_regex_info.specs.Reachability.{rows}
use Rattle.fancy_regex_info.proofs.WorklistLemmas.{left}
use Rattle.fancy_regex_info.proofs.ReachabilityLemmas.{Progress}
use Rattle.fancy_regex_info.proofs.reachability.reachable.Given as goal

abbrev pub invariant-loop-place : goal.invariant-loop-place
invariant-loop-place l = record {
  same : length l.seen.items ≡ length l.edges;
  progress : Progress (rows l.edges) l.starts l.seen.items l.open.items;
}

abbrev pub decreases-loop-place : goal.decreases-loop-place
decreases-loop-place l = left l.seen.items l.edges + vec_len l.open
