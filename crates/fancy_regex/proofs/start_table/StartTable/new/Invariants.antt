use Rattle.std.proofs.Common.{◌≡◌, ℕ, ◌<◌, [], Some, map, length}
use Rattle.std.specs.Prelude.{slice_index_or}
use Rattle.fancy_regex.specs.MemberStarts.{IsRow}
use Rattle.fancy_regex.proofs.start_table.StartTable.new.Given as goal

abbrev pub invariant-loop-byte : goal.invariant-loop-byte
invariant-loop-byte l = record {
  size : length l.rows.items ≡ l.byte;
  done : (b : ℕ) → b < l.byte → IsRow l.members (Some b) (slice_index_or (map (λ row. row.items) l.rows.items) b []);
}
