use Rattle.std.proofs.Common.{map, take}
use Rattle.fancy_regex.specs.SetStarts.{HaveStarts}
use Rattle.fancy_regex.proofs.set_starts.all_known_starts.Given as goal

abbrev pub invariant-loop-pattern : goal.invariant-loop-pattern
invariant-loop-pattern l = HaveStarts l.options.options (map (λ p. p.now) (take l.pattern-index l.patterns)) l.members.items
