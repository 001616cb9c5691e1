use Rattle.std.proofs.Common.{◌≡◌, ◌++◌, map, length}
use Rattle.std.specs.Vec.Iter.{into_iter_items, into_iter_len}
use Rattle.fancy_regex_tree.specs.Tree.{tree_of}
use Rattle.fancy_regex_tree.specs.TreeBuilders.{all_branches}
use Rattle.fancy_regex_tree.proofs.tree_builders.all_branches.Given as goal

-- the trees so far are those of the branches so far
abbrev pub invariant-loop-branch : goal.invariant-loop-branch
invariant-loop-branch l =
    (l.yielded ++ into_iter_items l.branch-iterator ≡ into_iter_items l.initial.branch-iterator)
    × (map tree_of l.all.items ≡ all_branches (map (λ b. map tree_of b.items) l.yielded))
    × (into_iter_len l.branch-iterator ≡ length (into_iter_items l.branch-iterator))
