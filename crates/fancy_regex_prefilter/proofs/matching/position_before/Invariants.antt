use Rattle.std.proofs.Common.{◌≡◌, ◌-◌}
use Rattle.fancy_regex_meaning.specs.Positions as places
use Rattle.fancy_regex_prefilter.proofs.matching.position_before.Given as goal

abbrev pub invariant-loop-back : goal.invariant-loop-back
invariant-loop-back l = places.position_before l.text l.count l.position ≡ places.position_before l.text (l.count - l.back) l.cursor
