use Rattle.fancy_regex_class.specs.Looks.{IsMarkedUntil}
use Rattle.std.proofs.Common.{◌-◌}
use Rattle.fancy_regex_class.proofs.skip.bytes_until.Given as goal

abbrev pub invariant-bytes : goal.invariant-bytes
invariant-bytes l = IsMarkedUntil l.bytes l.marked l.from l.end l.at

abbrev pub decreases-bytes : goal.decreases-bytes
decreases-bytes l = l.end - l.at
