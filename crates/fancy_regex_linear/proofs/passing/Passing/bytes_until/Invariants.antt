use Rattle.std.proofs.Common.{◌-◌, ◌≤◌, ◌<◌, ℕ, length}
use Rattle.fancy_regex_stops.specs.Stops.{IsMarkedAt}
use Rattle.fancy_regex_linear.proofs.passing.Passing.bytes_until.Given as goal

abbrev pub invariant-bytes : goal.invariant-bytes
invariant-bytes l = record {
  range : (l.from ≤ l.at) × (l.at ≤ length l.bytes);
  passed : (i : ℕ) → l.from ≤ i → i < l.at → IsMarkedAt l.bytes l.self.first l.self.wide i;
}

abbrev pub decreases-bytes : goal.decreases-bytes
decreases-bytes l = length l.bytes - l.at
