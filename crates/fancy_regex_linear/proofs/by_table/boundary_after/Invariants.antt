use Rattle.std.proofs.Common.{◌≡◌, ◌-◌, ◌<◌, ◌≤◌, ℕ, length, IsCharBoundary}
use Rattle.fancy_regex_linear.proofs.by_table.boundary_after.Given as goal

abbrev pub invariant-bytes : goal.invariant-bytes
invariant-bytes l = record {
  low : l.at < l.next;
  high : l.next ≤ length l.text;
  alone : (p : ℕ) → l.at < p → p < l.next → IsCharBoundary l.text p → ⊥;
}

abbrev pub decreases-bytes : goal.decreases-bytes
decreases-bytes l = length l.text - l.next
