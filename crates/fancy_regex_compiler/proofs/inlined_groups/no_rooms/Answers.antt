use Rattle.std.proofs.Common.{ap, ◌∙◌}
use Rattle.fancy_regex_compiler.specs.Inlined.{room_at}
use Rattle.fancy_regex_compiler.proofs.InlinedLemmas.{none_more}
use Rattle.fancy_regex_compiler.proofs.inlined_groups.no_rooms.Goals as goal

pub loop-group-preserved : goal.loop-group-preserved
loop-group-preserved c k = ap (λ rooms. room_at rooms k) c.in_ok-push.ensures.items ∙ none_more c.loop-group.rooms.items k ∙ c.loop-group.invariant k
