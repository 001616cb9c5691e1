use Rattle.std.proofs.Common.{◌≡◌, ◌<◌, ℕ, length, take}
use Rattle.regex_class.specs.Ranges.{in_ranges}
use Rattle.fancy_regex_class.specs.RangeBits.{has_bit}
use Rattle.fancy_regex_class.proofs.range_bits.words_of.Given as goal

abbrev pub invariant-loop-range : goal.invariant-loop-range
invariant-loop-range l = record {
  filled : length l.words.items ≡ 1024;
  members : (c : ℕ) → c < 65536 → has_bit l.words.items c ≡ in_ranges (take l.range-index l.ranges) c;
}
