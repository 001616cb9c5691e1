use Rattle.std.proofs.Common.{◌-◌, ◌≤◌, ◌<◌, ℕ, length}
use Rattle.fancy_regex_table.specs.Needed.{AreMarks, IsPassedIn}
use Rattle.fancy_regex_table.proofs.needed.Needed.stop_from.Given as goal

abbrev pub invariant-stops : goal.invariant-stops
invariant-stops l = record {
  range : (l.from ≤ l.stop) × (l.stop ≤ length l.bytes);
  passed : AreMarks l.classes l.self → (i : ℕ) → l.from ≤ i → i < l.stop → IsPassedIn l.classes l.self l.bytes i;
}

abbrev pub decreases-stops : goal.decreases-stops
decreases-stops l = length l.bytes - l.stop
