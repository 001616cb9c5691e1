use Rattle.std.proofs.Common.{◌≡◌, ◌<◌, ℕ, true, false, slice_index_or}
use Rattle.fancy_regex_stops.specs.Gaps.{gap_in}
use Rattle.fancy_regex_stops.proofs.stops.Stops.covers.Given as goal

abbrev pub invariant-loop-code : goal.invariant-loop-code
invariant-loop-code l = record {
  covered : (c : ℕ) → c < l.code → 0 < gap_in l.self c → slice_index_or l.marked c false ≡ true;
}
