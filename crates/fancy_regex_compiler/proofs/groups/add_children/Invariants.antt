use Rattle.std.proofs.Common.{◌≡◌, ◌++◌, map, take}
use Rattle.fancy_regex_info.specs.Infos.{info_of}
use Rattle.fancy_regex_compiler.specs.Writing.{info_at}
use Rattle.fancy_regex_compiler.proofs.groups.add_children.Given as goal

abbrev pub invariant-loop-child : goal.invariant-loop-child
invariant-loop-child l =
    map info_at l.groups.items ≡ map info_at l.fn.groups.items ++ map info_of (take l.child-index l.children)
