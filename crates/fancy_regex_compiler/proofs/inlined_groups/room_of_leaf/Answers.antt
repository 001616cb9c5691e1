use Rattle.std.proofs.Common.{chars, ap, ◌∙◌}
use Rattle.std.specs.Prelude.{string_bytes}
use Rattle.fancy_regex_tree.specs.Tree.{tree_of}
use Rattle.fancy_regex_compiler.proofs.InlinedRooms.{leaf_any, leaf_assertion, leaf_newline, leaf_literal, leaf_class, leaf_backref, leaf_keep_out}
use Rattle.fancy_regex_compiler.proofs.TreeLemmas.{tree_any, tree_assertion, tree_newline, tree_literal, tree_delegate, tree_backref, tree_keep_out}
use Rattle.fancy_regex_compiler.proofs.inlined_groups.room_of_leaf.Goals as goal

pub returns-in-Any : goal.returns-in-Any
returns-in-Any c =
    leaf_any (tree_of c.args.expr.now) c.in-Any.newline c.in-Any.crlf (ap tree_of c.in-Any.is ∙ tree_any c.in-Any.newline c.in-Any.crlf)

pub returns-in-Assertion : goal.returns-in-Assertion
returns-in-Assertion c =
    leaf_assertion (tree_of c.args.expr.now) c.in-Assertion.field-0 (ap tree_of c.in-Assertion.is ∙ tree_assertion c.in-Assertion.field-0)

pub returns-in-GeneralNewline : goal.returns-in-GeneralNewline
returns-in-GeneralNewline c =
    leaf_newline (tree_of c.args.expr.now) c.in-GeneralNewline.unicode (ap tree_of c.in-GeneralNewline.is ∙ tree_newline c.in-GeneralNewline.unicode)

pub returns-in-Literal : goal.returns-in-Literal
returns-in-Literal c =
    let l = c.in-Literal in
    leaf_literal (tree_of c.args.expr.now) (chars (string_bytes l.val)) l.casei (ap tree_of l.is ∙ tree_literal l.val l.casei)

pub returns-in-Delegate : goal.returns-in-Delegate
returns-in-Delegate c =
    let d = c.in-Delegate in
    leaf_class (tree_of c.args.expr.now) (chars (string_bytes d.inner)) d.casei (ap tree_of d.is ∙ tree_delegate d.inner d.casei)

pub returns-in-Backref : goal.returns-in-Backref
returns-in-Backref c =
    let b = c.in-Backref in
    leaf_backref (tree_of c.args.expr.now) b.group b.casei (ap tree_of b.is ∙ tree_backref b.group b.casei)

pub returns-in-KeepOut : goal.returns-in-KeepOut
returns-in-KeepOut c = leaf_keep_out (tree_of c.args.expr.now) (ap tree_of c.in-KeepOut.is ∙ tree_keep_out)
