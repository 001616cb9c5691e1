use Rattle.std.proofs.Common.{◌-◌}
use Rattle.fancy_regex_linear.specs.Alone.{IsOnWay}
use Rattle.fancy_regex_linear.proofs.needed.by_needed_alone.Given as goal

abbrev pub invariant-starts : goal.invariant-starts
invariant-starts l = record { way : IsOnWay l.context l.fn.text l.text l.from l.at }

abbrev pub decreases-starts : goal.decreases-starts
decreases-starts l = l.context.stop - l.at
