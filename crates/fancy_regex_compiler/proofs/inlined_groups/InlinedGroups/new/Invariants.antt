use Rattle.fancy_regex_compiler.specs.CalledTexts.{infos_at}
use Rattle.fancy_regex_compiler.specs.Inlined.{AreInlined}
use Rattle.fancy_regex_compiler.proofs.inlined_groups.InlinedGroups.new.Given as goal

abbrev pub invariant-loop-group : goal.invariant-loop-group
invariant-loop-group l = AreInlined (infos_at l.groups.items) l.inlined.rooms.items l.inlined.known
