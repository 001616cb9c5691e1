use Rattle.std.proofs.Common.{◌≡◌, map, drop}
use Rattle.fancy_regex_tree.specs.Tree.{tree_of, trees}
use Rattle.fancy_regex_meaning.specs.Sizes.{concat_size, alternation_size}
use Rattle.fancy_regex_info.specs.BodySizes.{row_body_sizes, from_last}
use Rattle.fancy_regex_info.specs.Views.{size_of, size_at}
use Rattle.fancy_regex_info.proofs.body_sizes.+add.Given as goal

abbrev pub invariant-add_sizes_in_row-loop-i : goal.invariant-add_sizes_in_row-loop-i
invariant-add_sizes_in_row-loop-i l = record {
  size : size_of l.size ≡ concat_size (size_at l.calls) (trees (map tree_of (drop l.i l.parts)));
  found : from_last l.sizes.items ≡ row_body_sizes (size_at l.calls) (trees (map tree_of (drop l.i l.parts))) (from_last l.fn.sizes.items);
}

abbrev pub invariant-add_sizes_in_branches-loop-i : goal.invariant-add_sizes_in_branches-loop-i
invariant-add_sizes_in_branches-loop-i l = record {
  size : size_of l.size ≡ alternation_size (size_at l.calls) (trees (map tree_of (drop l.i l.branches)));
  found : from_last l.sizes.items ≡ row_body_sizes (size_at l.calls) (trees (map tree_of (drop l.i l.branches))) (from_last l.fn.sizes.items);
}
