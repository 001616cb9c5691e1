use Rattle.std.proofs.Common.{◌≡◌, map, take}
use Rattle.fancy_regex_tree.specs.Tree.{tree_of}
use Rattle.fancy_regex_info.specs.Infos.{info_of}
use Rattle.fancy_regex_compiler.specs.Known.{tree_in}
use Rattle.fancy_regex_compiler.proofs.tail.row_tree.Given as goal

abbrev pub invariant-loop-part : goal.invariant-loop-part
invariant-loop-part l = map tree_of l.children.items ≡ map (λ x. tree_in (info_of x)) (take l.part-index l.parts)
