use Rattle.std.proofs.Common.{◌≡◌, take}
use Rattle.fancy_regex_bytes.specs.ByteSets.{has, either_bytes}
use Rattle.fancy_regex_bytes.specs.StartBytes.{paired_starts}
use Rattle.fancy_regex_bytes.proofs.class_bytes.add_folded_alike.Given as goal

abbrev pub invariant-loop-pair : goal.invariant-loop-pair
invariant-loop-pair l = has l.set ≡ either_bytes (paired_starts (take l.pair-index l.pair-items) l.c) (has l.initial.set)
