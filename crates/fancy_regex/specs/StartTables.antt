-- What a table of starts says of its members.
use Rattle.std.specs.Prelude.{◌≡◌, ℕ, ◌<◌, ◌≤◌, Bool, List, [], map, drop, Option, Some, None, slice_index_or}
use Rattle.fancy_regex.specs.MemberStarts.{next_member}
use Rattle.fancy_regex.specs.declared.start_table.StartTable.{StartTable}

-- the row of a byte, or of the end of a text
abbrev pub row_of : StartTable → Option ℕ → List ℕ
row_of table None = table.row_at_end.items
row_of table (Some b) = slice_index_or (map (λ row. row.items) table.rows.items) b []

-- the next member from a number on
abbrev pub next_of : StartTable → Option ℕ → ℕ → ℕ
next_of table byte k = slice_index_or (row_of table byte) k k

-- The table gives the next of these members, whatever the byte and the number. Of a number that is no byte it says nothing.
pub record Serves (table : StartTable) (members : List (Option (List Bool))) : Type 0 where
  pub at_byte : (b k : ℕ) → b < 256 → next_of table (Some b) k ≡ next_member (Some b) k (drop k members)
  pub at_end : (k : ℕ) → next_of table None k ≡ next_member None k (drop k members)
  pub beyond : (b k : ℕ) → 256 ≤ b → next_of table (Some b) k ≡ k
