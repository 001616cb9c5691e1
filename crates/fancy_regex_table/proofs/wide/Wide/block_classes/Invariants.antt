use Rattle.std.proofs.Common.{◌≡◌, ◌<◌, ◌≤◌, ℕ, true, false, length, slice_index_or}
use Rattle.fancy_regex_table.proofs.wide.Wide.block_classes.Given as goal

abbrev pub invariant-loop-i : goal.invariant-loop-i
invariant-loop-i l = record {
  long : length l.marked ≡ 256;
  classes : (k : ℕ) → 64 ≤ k → k < l.i → slice_index_or l.marked (slice_index_or l.self.classes.items k 0) false ≡ true;
}
