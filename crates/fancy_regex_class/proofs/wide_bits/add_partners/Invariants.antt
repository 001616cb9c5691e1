use Rattle.std.proofs.Common.{◌≡◌, ◌||◌, ℕ, take}
use Rattle.regex_class.specs.Ranges.{in_ranges}
use Rattle.fancy_regex_class.proofs.PartnerLemmas.{has_pair}
use Rattle.fancy_regex_class.proofs.wide_bits.add_partners.Given as goal

abbrev pub invariant-loop-pair : goal.invariant-loop-pair
invariant-loop-pair l = (c : ℕ) → in_ranges l.ranges.items c ≡ (in_ranges l.fn.ranges.items c || has_pair l.code (take l.pair-index l.pair-items) c)
