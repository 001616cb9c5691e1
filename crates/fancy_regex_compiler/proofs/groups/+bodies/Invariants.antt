use Rattle.std.proofs.Common.{◌≡◌, ◌++◌, map, take}
use Rattle.fancy_regex_compiler.specs.Groups.{bodies_in_row}
use Rattle.fancy_regex_compiler.specs.Writing.{info_at}
use Rattle.fancy_regex_compiler.proofs.groups.+bodies.Given as goal

abbrev pub invariant-add_row_bodies-loop-child : goal.invariant-add_row_bodies-loop-child
invariant-add_row_bodies-loop-child l =
    map info_at l.groups.items ≡ map info_at l.fn.groups.items ++ bodies_in_row (take l.child-index l.children)
