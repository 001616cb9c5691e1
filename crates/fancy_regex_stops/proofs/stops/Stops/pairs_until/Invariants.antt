use Rattle.std.proofs.Common.{◌-◌, ◌+◌, ◌≤◌, ◌<◌, ℕ, length, slice_index_or}
use Rattle.fancy_regex_stops.specs.Gaps.{pair_gap}
use Rattle.fancy_regex_stops.specs.StopLanes.{AreNumbers}
use Rattle.fancy_regex_stops.proofs.stops.Stops.pairs_until.Given as goal

abbrev pub invariant-blocks-2 : goal.invariant-blocks-2
invariant-blocks-2 l = record {
  range : (l.from ≤ l.at) × (l.at ≤ length l.bytes);
  passed : (i : ℕ) → l.from ≤ i → i < l.at → (i + 1 < length l.bytes) × (0 < pair_gap l.self l.second (slice_index_or l.bytes i 0) (slice_index_or l.bytes (i + 1) 0));
  numbers : AreNumbers l.self l.stops × AreNumbers l.second l.seconds;
}

abbrev pub decreases-blocks-2 : goal.decreases-blocks-2
decreases-blocks-2 l = length l.bytes - l.at
