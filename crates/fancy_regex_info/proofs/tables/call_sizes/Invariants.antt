use Rattle.std.proofs.Common.{◌≡◌, ℕ}
use Rattle.fancy_regex_tree.specs.Tree.{tree_of}
use Rattle.fancy_regex_info.specs.SizeFixpoint.{iterated_size}
use Rattle.fancy_regex_info.specs.Views.{size_at, pattern_in}
use Rattle.fancy_regex_info.proofs.tables.call_sizes.Given as goal

abbrev pub invariant-loop-iteration : goal.invariant-loop-iteration
invariant-loop-iteration l =
    (k : ℕ) → size_at l.sizes.items k ≡ iterated_size (pattern_in l.explicit (tree_of l.expr)).groups l.recursive l._iteration k
