use Rattle.std.proofs.Common.{◌≡◌, ◌<◌, ◌≤◌, ◌+◌, ℕ, length, slice_index_or}
use Rattle.fancy_regex_class.proofs.bitmap.Bitmap.new.Given as goal

abbrev pub invariant-loop-word : goal.invariant-loop-word
invariant-loop-word l = record {
  filled : length l.rows.items ≡ l.word-index;
  two : 2 ≤ length l.words.items;
  few : length l.words.items ≤ l.word-index + 2;
  none : slice_index_or l.words.items 0 0 ≡ 0;
  all : slice_index_or l.words.items 1 0 ≡ 18446744073709551615;
  inside : (row : ℕ) → row < l.word-index → slice_index_or l.rows.items row 0 < length l.words.items;
  named : (row : ℕ) → row < l.word-index → slice_index_or l.words.items (slice_index_or l.rows.items row 0) 0 ≡ slice_index_or l.word-items row 0;
}
