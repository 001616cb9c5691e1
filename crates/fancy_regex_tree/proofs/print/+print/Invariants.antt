use Rattle.std.proofs.Common.{◌≡◌, ◌++◌, chars, string_bytes, map, take}
use Rattle.fancy_regex_tree.specs.Tree.{tree_of, trees}
use Rattle.fancy_regex_tree.specs.Printed.{printed_pieces, printed_branches}
use Rattle.fancy_regex_tree.proofs.print.+print.Given as goal

abbrev pub invariant-print_pieces-loop-i : goal.invariant-print_pieces-loop-i
invariant-print_pieces-loop-i l =
    chars (string_bytes l.out) ≡ chars (string_bytes l.initial.out) ++ printed_pieces (trees (map tree_of (take l.i l.pieces)))

abbrev pub invariant-print_branches-loop-i : goal.invariant-print_branches-loop-i
invariant-print_branches-loop-i l =
    chars (string_bytes l.out) ≡ chars (string_bytes l.initial.out) ++ printed_branches (trees (map tree_of (take l.i l.branches)))
