use Rattle.std.proofs.Common.{◌≡◌, map, take}
use Rattle.std.specs.List.{filter_map}
use Rattle.fancy_regex_tree.specs.Traversal.{tree_at}
use Rattle.fancy_regex_tree.specs.Numbering.{name_view, opening_of, if_counted}
use Rattle.fancy_regex_tree.proofs.group_names.group_names.Given as goal

abbrev pub invariant-loop-i : goal.invariant-loop-i
invariant-loop-i l = map name_view l.names.items ≡ filter_map (λ t. if_counted l.ignored (opening_of t)) (map tree_at (take l.i l.nodes))
