use Rattle.std.proofs.Common.{map, take}
use Rattle.fancy_regex_ffi_lists.specs.Mixed.{AreBuiltEach}
use Rattle.fancy_regex_ffi_lists.proofs.mixed.build_each.Given as goal

-- the regexes so far are built of the patterns before the number
abbrev pub invariant-loop-number : goal.invariant-loop-number
invariant-loop-number l = AreBuiltEach l.options (map (λ p. p.now) (take l.number l.patterns)) l.regexes.items
