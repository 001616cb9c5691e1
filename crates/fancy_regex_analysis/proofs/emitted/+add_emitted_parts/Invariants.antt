use Rattle.std.proofs.Common.{◌≡◌, ◌++◌, map, flat_map}
use Rattle.fancy_regex_tree.specs.Tree.{tree_of}
use Rattle.fancy_regex_tree.specs.Traversal.{tree_at}
use Rattle.fancy_regex_analysis.specs.EmittedParts.{emitted_parts, part_at}
use Rattle.fancy_regex_analysis.proofs.ChildLemmas.{node_count}
use Rattle.fancy_regex_analysis.proofs.emitted.+add_emitted_parts.Given as goal

abbrev pub decreases-add_emitted_parts : goal.decreases-add_emitted_parts
decreases-add_emitted_parts l = node_count (tree_of l.expr.now)

abbrev pub invariant-loop-child : goal.invariant-loop-child
invariant-loop-child l =
    map part_at l.parts.items ≡ map part_at l.initial.parts.items ++ flat_map (emitted_parts l.inside_children) (map tree_at l.yielded)
