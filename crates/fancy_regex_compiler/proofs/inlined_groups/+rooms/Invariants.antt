use Rattle.std.proofs.Common.{take}
use Rattle.fancy_regex_compiler.specs.Inlined.{AllTakeRoom}
use Rattle.fancy_regex_compiler.proofs.inlined_groups.+rooms.Given as goal

abbrev pub invariant-room_of_all-loop-child : goal.invariant-room_of_all-loop-child
invariant-room_of_all-loop-child l = AllTakeRoom l.rooms l.more l.all (take l.child-index l.children)
