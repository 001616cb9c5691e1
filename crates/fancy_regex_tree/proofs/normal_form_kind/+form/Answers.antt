use Rattle.std.proofs.Common.{sym, arith}
use Rattle.fancy_regex_tree.specs.Tree.{tree_of}
use Rattle.fancy_regex_tree.proofs.ConcatKinds.{no_row, row_step}
use Rattle.fancy_regex_tree.proofs.normal_form_kind.+form.Goals as goal

pub concat_kind-loop-i-init : goal.concat_kind-loop-i-init
concat_kind-loop-i-init t c = sym no_row

pub concat_kind-loop-i-preserved : goal.concat_kind-loop-i-preserved
concat_kind-loop-i-preserved t c =
    row_step tree_of c.args.pieces.now c.loop-i.i c.index-pieces-i.result c.loop-i.row c.normal_form_kind.result c.followed_by-row.result
    (omega arith) c.index-pieces-i.is c.loop-i.invariant c.normal_form_kind.ensures c.followed_by-row.ensures
