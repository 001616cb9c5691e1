use Rattle.std.proofs.Common.{◌≡◌, ◌-◌}
use Rattle.fancy_regex_bytes.specs.ByteSets.{rest}
use Rattle.fancy_regex_bytes.proofs.byte_set.ByteSetIterIterator.next.Given as goal

abbrev pub invariant-loop-self : goal.invariant-loop-self
invariant-loop-self l = rest l.self ≡ rest l.initial.self

abbrev pub decreases-loop-self : goal.decreases-loop-self
decreases-loop-self l = 256 - l.self.next
