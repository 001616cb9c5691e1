use Rattle.std.proofs.Common.{◌≡◌, map, take}
use Rattle.fancy_regex_tree.specs.Tree.{tree_of}
use Rattle.fancy_regex_desugar.specs.Delegates.{lazily}
use Rattle.fancy_regex_compiler.proofs.lazy.+lazy.Given as goal

abbrev pub invariant-lazy_copies-loop-child : goal.invariant-lazy_copies-loop-child
invariant-lazy_copies-loop-child l = map tree_of l.all.items ≡ map (λ e. lazily (tree_of e)) (take l.child-index l.children)
