use Rattle.std.proofs.Common.{◌-◌, ◌≤◌, ◌<◌, ℕ, length, slice_index_or}
use Rattle.fancy_regex_stops.specs.Gaps.{gap_in}
use Rattle.fancy_regex_stops.specs.StopLanes.{AreNumbers}
use Rattle.fancy_regex_stops.proofs.stops.Stops.until_any.Given as goal

abbrev pub invariant-blocks-2 : goal.invariant-blocks-2
invariant-blocks-2 l = record {
  range : (l.from ≤ l.at) × (l.at ≤ length l.bytes);
  passed : (i : ℕ) → l.from ≤ i → i < l.at → 0 < gap_in l.self (slice_index_or l.bytes i 0);
  numbers : AreNumbers l.self l.stops;
}

abbrev pub decreases-blocks-2 : goal.decreases-blocks-2
decreases-blocks-2 l = length l.bytes - l.at
