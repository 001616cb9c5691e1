use Rattle.std.proofs.Common.{◌∷◌, [], refl, ap, ◌∙◌}
use Rattle.fancy_regex_tree.specs.Tree.{tree_of, absent_tree_of, absent_repeater, absent_expression, absent_stopper}
use Rattle.fancy_regex_tree.proofs.Children.{tree_of_repeater, tree_of_expression, tree_of_stopper}
use Rattle.fancy_regex_tree.proofs.Replacing.{put}
use Rattle.fancy_regex_tree.proofs.expr.Absent.replace_child.Goals as goal

pub returns-in-Repeater : goal.returns-in-Repeater
returns-in-Repeater c =
    put _ (absent_repeater (tree_of c.in-Repeater.only.value)) _ (c.in-Repeater.only.value ∷ []) (c.replace_only-replaced.new.only ∷ []) _ _ _
    (ap absent_tree_of c.in-Repeater.is ∙ tree_of_repeater c.in-Repeater.only) (tree_of_repeater _) refl refl refl (rw c.deref_mut.ensures.value at c.replace_only-replaced.ensures)

pub returns-in-Expression : goal.returns-in-Expression
returns-in-Expression c =
    put _ (absent_expression (tree_of c.in-Expression.absent.value) (tree_of c.in-Expression.exp.value)) _ (c.in-Expression.absent.value ∷ c.in-Expression.exp.value ∷ [])
    (c.replace_either-replaced.new.first ∷ c.replace_either-replaced.new.second ∷ []) _ _ _
    (ap absent_tree_of c.in-Expression.is ∙ tree_of_expression c.in-Expression.absent c.in-Expression.exp) (tree_of_expression _ _) refl refl refl
    (rw (c.deref_mut-in-Expression.ensures.value, c.deref_mut-in-Expression-2.ensures.value) at c.replace_either-replaced.ensures)

pub returns-in-Stopper : goal.returns-in-Stopper
returns-in-Stopper c =
    put _ (absent_stopper (tree_of c.in-Stopper.only.value)) _ (c.in-Stopper.only.value ∷ []) (c.replace_only-replaced-in-Stopper.new.only ∷ []) _ _ _
    (ap absent_tree_of c.in-Stopper.is ∙ tree_of_stopper c.in-Stopper.only) (tree_of_stopper _) refl refl refl
    (rw c.deref_mut-in-Stopper.ensures.value at c.replace_only-replaced-in-Stopper.ensures)
