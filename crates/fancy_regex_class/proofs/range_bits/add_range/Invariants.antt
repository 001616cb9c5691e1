use Rattle.std.proofs.Common.{◌≡◌, ◌<◌, ◌≤◌, ◌||◌, ◌/◌, ℕ, length}
use Rattle.regex_class.specs.Ranges.{in_range}
use Rattle.fancy_regex_class.specs.RangeBits.{has_bit}
use Rattle.fancy_regex_class.proofs.range_bits.add_range.Given as goal

abbrev pub invariant-loop-row : goal.invariant-loop-row
invariant-loop-row l = record {
  filled : length l.words.items ≡ 1024;
  done : (c : ℕ) → c < 65536 → c / 64 < l.row → has_bit l.words.items c ≡ (has_bit l.fn.words.items c || in_range (l.start, l.end) c);
  due : (c : ℕ) → c < 65536 → l.row ≤ c / 64 → has_bit l.words.items c ≡ has_bit l.fn.words.items c;
}
