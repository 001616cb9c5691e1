use Rattle.std.proofs.Common.{take}
use Rattle.fancy_regex_info.proofs.ReferencedGroupLemmas.{Marked}
use Rattle.fancy_regex_info.proofs.references.referenced_groups.Given as goal

abbrev pub invariant-loop-group : goal.invariant-loop-group
invariant-loop-group l = Marked l.groups (take l.group-index l.group-items) l.read.items
