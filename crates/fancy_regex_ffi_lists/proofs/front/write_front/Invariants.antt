-- The items below the index are written, and the others are as they were.
use Rattle.std.specs.Prelude.{◌≡◌, ℕ, ◌<◌, ◌≤◌, length, slice_index_or}
use Rattle.fancy_regex_ffi_lists.proofs.front.write_front.Given as goal

abbrev pub invariant-loop-i : goal.invariant-loop-i
invariant-loop-i g l = record {
  same_room : length l.out ≡ length l.initial.out;
  written : (k : ℕ) (d : _) → k < l.i → slice_index_or l.out k d ≡ slice_index_or l.items k d;
  kept : (k : ℕ) (d : _) → l.i ≤ k → slice_index_or l.out k d ≡ slice_index_or l.initial.out k d;
}
