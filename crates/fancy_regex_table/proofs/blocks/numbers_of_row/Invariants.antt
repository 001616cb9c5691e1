use Rattle.std.proofs.Common.{◌≡◌, ◌<◌, ℕ, drop, length, get_or}
use Rattle.fancy_regex_table.specs.Questions.{number_from, number_at, bits_at}
use Rattle.fancy_regex_table.proofs.blocks.numbers_of_row.Given as goal

abbrev pub invariant-loop-i : goal.invariant-loop-i
invariant-loop-i l = record {
  long : length l.numbers ≡ 64;
  each : (place : ℕ) → place < 64 → number_from (get_or l.numbers place 0) (bits_at (drop l.i l.bits) l.row place) ≡ number_at l.bits l.row place;
}
