use Rattle.std.proofs.Common.{◌≡◌}
use Rattle.regex.specs.Strings.{matcher_pattern}
use Rattle.fancy_regex_class.specs.Classes.{matches_single_char}
use Rattle.fancy_regex_class.proofs.HirClassLemmas.{HoldsBelow}
use Rattle.fancy_regex_class.proofs.matcher.class_of_matches.Given as goal

abbrev pub invariant-loop-code : goal.invariant-loop-code
invariant-loop-code l = record {
  same : matcher_pattern l.matcher ≡ matcher_pattern l.fn.matcher;
  holds : HoldsBelow (matches_single_char (matcher_pattern l.fn.matcher)) l.code l.ranges.items;
}
