use Rattle.fancy_regex_compiler.specs.CalledTexts.{infos_at}
use Rattle.fancy_regex_compiler.proofs.InlinedLemmas.{nothing_known, silent_calls}
use Rattle.fancy_regex_compiler.proofs.inlined_groups.InlinedGroups.new.Goals as goal

pub loop-group-init : goal.loop-group-init
loop-group-init c = nothing_known c.in_ok-no_rooms.field-0.items c.in_ok-no_rooms.ensures (infos_at c.args.groups.now.items)

pub loop-group-preserved : goal.loop-group-preserved
loop-group-preserved c = c.take_up.ensures c.loop-group.invariant

pub returns-clause-silent : goal.returns-clause-silent
returns-clause-silent c = silent_calls (infos_at c.args.groups.now.items) c.loop-group.inlined.rooms.items c.loop-group.inlined.known c.loop-group.invariant
