use Rattle.std.proofs.Common.{map}
use Rattle.fancy_regex_tree.specs.Tree.{tree_of}
use Rattle.fancy_regex_info.specs.Views.{body_tree}
use Rattle.fancy_regex_linear.specs.CallMarks.{AreLevels}
use Rattle.fancy_regex_linear.proofs.calls.called_by_depth.Given as goal

abbrev pub invariant-loop-depth : goal.invariant-loop-depth
invariant-loop-depth l = AreLevels (map body_tree l.bodies) l.depth (tree_of l.expr) l.all.items
