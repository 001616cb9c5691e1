use Rattle.std.proofs.Common.{◌≡◌, ℕ, ◌||◌, map, drop}
use Rattle.fancy_regex_tree.specs.Tree.{tree_of, trees}
use Rattle.fancy_regex_bytes.specs.ByteSets.{has}
use Rattle.fancy_regex_bytes.specs.RequiredBytes.{required_in_row, required_in_branches}
use Rattle.fancy_regex_bytes.proofs.required.+required.Given as goal

abbrev pub invariant-add_required_in_row-loop-part : goal.invariant-add_required_in_row-loop-part
invariant-add_required_in_row-loop-part l =
    (b : ℕ) → (required_in_row (trees (map tree_of (drop l.part-index l.parts))) b || has l.set b)
    ≡ (required_in_row (trees (map tree_of l.parts)) b || has l.initial.set b)

abbrev pub invariant-required_in_branches-loop-i : goal.invariant-required_in_branches-loop-i
invariant-required_in_branches-loop-i l = (b : ℕ) → has l.common b ≡ required_in_branches (trees (map tree_of (drop l.i l.branches))) b
