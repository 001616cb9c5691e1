use Rattle.std.proofs.Common.{◌≡◌, ℕ, ◌<◌, false, get_or, length}
use Rattle.regex_class.specs.Ranges.{in_ranges}
use Rattle.fancy_regex_class.proofs.class.CharClassMatcher.of.Given as goal

abbrev pub invariant-loop-code : goal.invariant-loop-code
invariant-loop-code l = record {
  long : length l.ascii ≡ 128;
  answers : (k : ℕ) → k < l.code → get_or l.ascii k false ≡ in_ranges l.class.ranges.items k;
}
