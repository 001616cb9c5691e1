-- The groups of a tree, as the code gathers them.
use Rattle.std.specs.Prelude.{List, [], map, if◌then◌else◌}
use Rattle.fancy_regex_info.specs.Infos.{InfoTree, known, infos, info_of}
use Rattle.fancy_regex_info.specs.declared.info.Info.{Info}
use Rattle.fancy_regex_compiler.specs.Known.{is_group, listed, row_bodies_in}

-- the body of the group that the node is
abbrev pub own_bodies : InfoTree → List InfoTree
own_bodies (known f t xs) = if is_group t then listed xs else []

-- the bodies of all groups in a row of nodes
abbrev pub bodies_in_row : List Info → List InfoTree
bodies_in_row xs = row_bodies_in (infos (map info_of xs))
