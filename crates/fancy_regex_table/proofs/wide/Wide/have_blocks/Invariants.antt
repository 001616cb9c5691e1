use Rattle.std.proofs.Common.{◌<◌, ◌≤◌, ℕ, slice_index_or}
use Rattle.fancy_regex_table.proofs.wide.Wide.have_blocks.Given as goal

abbrev pub invariant-loop-row : goal.invariant-loop-row
invariant-loop-row l = record { blocks : (r : ℕ) → 2 ≤ r → r < l.row → 0 < slice_index_or l.self.rows r 0 }
