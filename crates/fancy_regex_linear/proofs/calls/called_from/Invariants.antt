use Rattle.fancy_regex_linear.proofs.MarkLemmas.{FollowsTo}
use Rattle.fancy_regex_linear.proofs.calls.called_from.Given as goal

abbrev pub invariant-loop-group : goal.invariant-loop-group
invariant-loop-group l = FollowsTo l.bodies l.marks l.group l.next.items
