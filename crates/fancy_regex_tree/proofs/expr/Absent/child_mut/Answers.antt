use Rattle.std.proofs.Common.{slice_get, sym, ap, ◌∙◌}
use Rattle.fancy_regex_tree.specs.Tree.{Tree, absent_tree_of}
use Rattle.fancy_regex_tree.specs.Traversal.{children}
use Rattle.fancy_regex_tree.proofs.Children.{tree_of_repeater, tree_of_expression, tree_of_stopper}
use Rattle.fancy_regex_tree.proofs.expr.Absent.child_mut.Goals as goal

pub returns-in-Repeater : goal.returns-in-Repeater
returns-in-Repeater c =
    (rw c.deref_mut.ensures.value at c.only.ensures)
    ∙ ap (λ (t : Tree). slice_get (children t) c.args.i) (sym (ap absent_tree_of c.in-Repeater.is ∙ tree_of_repeater c.in-Repeater.child))

pub returns-in-Expression : goal.returns-in-Expression
returns-in-Expression c =
    (rw (c.deref_mut-in-Expression.ensures.value, c.deref_mut-in-Expression-2.ensures.value) at c.either.ensures)
    ∙ ap (λ (t : Tree). slice_get (children t) c.args.i)
    (sym (ap absent_tree_of c.in-Expression.is ∙ tree_of_expression c.in-Expression.absent c.in-Expression.exp))

pub returns-in-Stopper : goal.returns-in-Stopper
returns-in-Stopper c =
    (rw c.deref_mut-in-Stopper.ensures.value at c.only-in-Stopper.ensures)
    ∙ ap (λ (t : Tree). slice_get (children t) c.args.i) (sym (ap absent_tree_of c.in-Stopper.is ∙ tree_of_stopper c.in-Stopper.child))
