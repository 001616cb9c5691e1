use Rattle.std.proofs.Common.{◌≡◌, take}
use Rattle.fancy_regex_bytes.specs.ByteSets.{has, either_bytes, bytes_in}
use Rattle.fancy_regex_bytes.proofs.byte_set.ByteSet.add.Given as goal

abbrev pub invariant-loop-byte : goal.invariant-loop-byte
invariant-loop-byte l = has l.self ≡ either_bytes (bytes_in (take l.byte-index l.bytes)) (has l.initial.self)
