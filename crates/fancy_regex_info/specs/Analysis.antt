-- The analysis of a whole tree.
use Rattle.std.specs.Prelude.{Bool, length}
use Rattle.fancy_regex_tree.specs.Tree.{Tree}
use Rattle.fancy_regex_info.specs.Infos.{InfoTree, expected_info}
use Rattle.fancy_regex_info.specs.References.{is_read}
use Rattle.fancy_regex_info.specs.Views.{pattern_in}

-- of a tree whose groups count from 0, or else from 1
abbrev pub analysis : Bool → Tree → InfoTree
analysis explicit t =
    let pattern = pattern_in explicit t in
    expected_info pattern.groups (is_read (length pattern.groups) t) pattern.first_group t
