use Rattle.std.proofs.Common.{◌≡◌}
use Rattle.fancy_regex_info.specs.Infos.{info_of}
use Rattle.fancy_regex_linear.specs.Facts.{calls_after}
use Rattle.fancy_regex_linear.proofs.facts.known_calls.Given as goal

abbrev pub invariant-loop-depth : goal.invariant-loop-depth
invariant-loop-depth l = l.calls.items ≡ calls_after (info_of l.info) l._depth
