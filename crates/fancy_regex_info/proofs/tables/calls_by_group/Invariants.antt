use Rattle.std.proofs.Common.{◌≡◌, map, take}
use Rattle.fancy_regex_meaning.specs.Sizes.{calls_in}
use Rattle.fancy_regex_info.specs.Reachability.{rows}
use Rattle.fancy_regex_info.specs.Views.{body_tree}
use Rattle.fancy_regex_info.proofs.tables.calls_by_group.Given as goal

abbrev pub invariant-loop-body : goal.invariant-loop-body
invariant-loop-body l = rows l.all.items ≡ map calls_in (map body_tree (take l.body-index l.groups))
