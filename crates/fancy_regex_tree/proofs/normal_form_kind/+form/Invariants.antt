use Rattle.std.proofs.Common.{◌≡◌, map, take}
use Rattle.fancy_regex_tree.specs.Tree.{tree_of, trees}
use Rattle.fancy_regex_tree.specs.NormalForm.{node_kind, normal_pieces, row_of}
use Rattle.fancy_regex_tree.proofs.normal_form_kind.+form.Given as goal

abbrev pub invariant-concat_kind-loop-i : goal.invariant-concat_kind-loop-i
invariant-concat_kind-loop-i l = l.row ≡ node_kind (row_of (normal_pieces (trees (map tree_of (take l.i l.pieces)))))
