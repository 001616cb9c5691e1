use Rattle.std.proofs.Common.{◌≡◌, ℕ, ◌+◌, ◌≤◌, length, drop}
use Rattle.std.specs.Prelude.{slice_index_or}
use Rattle.fancy_regex.specs.MemberStarts.{next_member}
use Rattle.fancy_regex.proofs.start_table.row.Given as goal

abbrev pub invariant-loop-number : goal.invariant-loop-number
invariant-loop-number l = record {
  below : l.number ≤ length l.members;
  size : length l.row.items ≡ length l.members + 1;
  done : (k : ℕ) → l.number ≤ k → slice_index_or l.row.items k k ≡ next_member l.byte k (drop k l.members);
}

abbrev pub decreases-loop-number : goal.decreases-loop-number
decreases-loop-number l = l.number
