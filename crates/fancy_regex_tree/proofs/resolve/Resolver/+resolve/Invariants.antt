use Rattle.std.proofs.Common.{◌≡◌, ◌+◌, ◌*◌, map, take, drop}
use Rattle.fancy_regex_tree.specs.Tree.{tree_of, trees}
use Rattle.fancy_regex_tree.specs.Numbering.{lookup_in, all_resolved}
use Rattle.fancy_regex_tree.proofs.Prefixes.{prefixed}
use Rattle.fancy_regex_tree.proofs.resolve.Resolver.+resolve.Given as goal

-- `resolve` takes the node out and hands it on whole, so it stands above `resolved` at one size
abbrev pub decreases-resolve : goal.decreases-resolve
decreases-resolve l = 3 * goal.size-resolve l + 1

abbrev pub decreases-resolved : goal.decreases-resolved
decreases-resolved l = 3 * goal.size-resolved l

abbrev pub decreases-resolve_all : goal.decreases-resolve_all
decreases-resolve_all l = 3 * goal.size-resolve_all l + 2

abbrev pub decreases-resolved_absent : goal.decreases-resolved_absent
decreases-resolved_absent l = 3 * goal.size-resolved_absent l

abbrev pub decreases-resolved_node : goal.decreases-resolved_node
decreases-resolved_node l = 3 * goal.size-resolved_node l

abbrev pub invariant-resolve_all-loop-i : goal.invariant-resolve_all-loop-i
invariant-resolve_all-loop-i l = record {
  unvisited : goal.unvisited-resolve_all-loop-i l;
  made : prefixed (map tree_of (take l.i l.children)) (all_resolved l.self.ignored (lookup_in l.self.named.now) l.reached (trees (map tree_of (drop l.i l.initial.children))))
      ≡ all_resolved l.self.ignored (lookup_in l.self.named.now) l.openings (trees (map tree_of l.initial.children));
}
