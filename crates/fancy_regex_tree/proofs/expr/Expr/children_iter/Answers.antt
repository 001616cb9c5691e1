use Rattle.std.proofs.Common.{inl, inr}
use Rattle.fancy_regex_tree.proofs.Children.{children_of_concat, children_of_alt}
use Rattle.fancy_regex_tree.proofs.expr.Expr.children_iter.Goals as goal

pub returns-in-Concat : goal.returns-in-Concat
returns-in-Concat c =
    elim c.in-Concat.is [
      | inl is ↦ rw (is, c.deref-in-Concat.ensures.value) (children_of_concat c.in-Concat.children)
      | inr is ↦ rw (is, c.deref-in-Concat.ensures.value) (children_of_alt c.in-Concat.children)
    ]
