use Rattle.std.proofs.Common.{◌≡◌, ℕ, ◌<◌, length, get_or, Some, None}
use Rattle.fancy_regex_parts.proofs.table.PartTable.all_marked.Given as goal

abbrev pub invariant-loop-q : goal.invariant-loop-q
invariant-loop-q l = record {
  marks_len : length l.marks.items ≡ l.q;
  heads_len : length l.heads.items ≡ l.q;
  marks : (k : ℕ) → k < l.q → get_or l.marks.items k None ≡ Some k;
  heads : (k : ℕ) → k < l.q → get_or l.heads.items k 0 ≡ k;
}
