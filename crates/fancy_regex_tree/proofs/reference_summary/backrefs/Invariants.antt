use Rattle.std.proofs.Common.{◌≡◌, ℕ, ◌&&◌, nat_le, map, take}
use Rattle.std.specs.List.{list_any}
use Rattle.std.specs.BTreeSet.{contains}
use Rattle.std.specs.Ordering.{nat_cmp}
use Rattle.fancy_regex_tree.specs.Traversal.{tree_at}
use Rattle.fancy_regex_tree.specs.ReferenceSummary.{refers_to}
use Rattle.fancy_regex_tree.proofs.reference_summary.backrefs.Given as goal

abbrev pub invariant-loop-i : goal.invariant-loop-i
invariant-loop-i l = (k : ℕ) → contains nat_cmp l.groups k ≡ (nat_le k l.total && list_any (refers_to k) (map tree_at (take l.i l.nodes)))
