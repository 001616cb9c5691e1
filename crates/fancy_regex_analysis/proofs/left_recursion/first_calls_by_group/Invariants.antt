use Rattle.std.proofs.Common.{◌≡◌, map, take}
use Rattle.fancy_regex_meaning.specs.Sizes.{size_with}
use Rattle.fancy_regex_info.specs.Reachability.{rows}
use Rattle.fancy_regex_analysis.specs.LeftRecursion.{first_calls}
use Rattle.fancy_regex_info.specs.Views.{size_at, body_tree}
use Rattle.fancy_regex_analysis.proofs.left_recursion.first_calls_by_group.Given as goal

abbrev pub invariant-loop-body : goal.invariant-loop-body
invariant-loop-body l = rows l.all.items ≡ map (first_calls (size_with (size_at l.sizes))) (map body_tree (take l.body-index l.groups))
