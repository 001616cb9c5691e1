use Rattle.std.proofs.Common.{map, take}
use Rattle.fancy_regex.specs.SetMembers.{AreBuiltOf}
use Rattle.fancy_regex.proofs.set.build_all.Given as goal

abbrev pub invariant-loop-pattern : goal.invariant-loop-pattern
invariant-loop-pattern l = AreBuiltOf l.options.options (map (λ p. p.now) (take l.pattern-index l.patterns)) l.regexes.items
