use Rattle.std.proofs.Common.{◌-◌, ◌≤◌, ◌<◌, ℕ, length}
use Rattle.fancy_regex_stops.specs.Stops.{IsPairAt}
use Rattle.fancy_regex_linear.proofs.passing.Passing.marked_until.Given as goal

abbrev pub invariant-stops : goal.invariant-stops
invariant-stops l = record {
  range : (l.from ≤ l.at) × (l.at ≤ length l.bytes);
  passed : (i : ℕ) → l.from ≤ i → i < l.at → IsPairAt l.bytes l.self.first l.self.wide l.self.second i;
}

abbrev pub decreases-stops : goal.decreases-stops
decreases-stops l = length l.bytes - l.at
