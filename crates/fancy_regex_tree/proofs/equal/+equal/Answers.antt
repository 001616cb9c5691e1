use Rattle.std.proofs.Common.{ap, ◌∙◌}
use Rattle.fancy_regex_tree.specs.Tree.{tree_of}
use Rattle.fancy_regex_tree.proofs.Compared.{lengths_differ}
use Rattle.fancy_regex_tree.proofs.Children.{tree_of_concat, tree_of_alt, tree_of_group, tree_of_look_around}
use Rattle.fancy_regex_tree.proofs.Children.{tree_of_repeat, tree_of_atomic_group, tree_of_conditional, tree_of_define_group}
use Rattle.fancy_regex_tree.proofs.Unequal.{unequal, tree_of_empty, tree_of_any, tree_of_assertion, tree_of_general_newline, tree_of_literal}
use Rattle.fancy_regex_tree.proofs.Unequal.{tree_of_literal_bytes}
use Rattle.fancy_regex_tree.proofs.Unequal.{tree_of_delegate, tree_of_backref, tree_of_backref_with_level, tree_of_keep_out, tree_of_continue}
use Rattle.fancy_regex_tree.proofs.Unequal.{tree_of_backref_exists, tree_of_subroutine_call, tree_of_verb}
use Rattle.fancy_regex_tree.proofs.equal.+equal.Goals as goal

pub same_exprs-returns-then-a-b : goal.same_exprs-returns-then-a-b
same_exprs-returns-then-a-b t c = lengths_differ tree_of c.args.a.now c.args.b.now c.if-a-b.true

pub same_expr-returns-in_default : goal.same_expr-returns-in_default
same_expr-returns-in_default t c = unequal _ _ _ (ap tree_of c.in-Empty.is ∙ tree_of_empty) c.in_default.not-Empty

pub same_expr-returns-in_default-b : goal.same_expr-returns-in_default-b
same_expr-returns-in_default-b t c = unequal _ _ _ (ap tree_of c.in-Any.is ∙ tree_of_any _ _) c.in_default-b.not-Any

pub same_expr-returns-in_default-b-2 : goal.same_expr-returns-in_default-b-2
same_expr-returns-in_default-b-2 t c = unequal _ _ _ (ap tree_of c.in-Assertion.is ∙ tree_of_assertion _) c.in_default-b-2.not-Assertion

pub same_expr-returns-in_default-b-3 : goal.same_expr-returns-in_default-b-3
same_expr-returns-in_default-b-3 t c =
    unequal _ _ _ (ap tree_of c.in-GeneralNewline.is ∙ tree_of_general_newline _) c.in_default-b-3.not-GeneralNewline

pub same_expr-returns-in_default-b-4 : goal.same_expr-returns-in_default-b-4
same_expr-returns-in_default-b-4 t c = unequal _ _ _ (ap tree_of c.in-Literal.is ∙ tree_of_literal _ _) c.in_default-b-4.not-Literal

pub same_expr-returns-in_default-b-5 : goal.same_expr-returns-in_default-b-5
same_expr-returns-in_default-b-5 t c = unequal _ _ _ (ap tree_of c.in-LiteralBytes.is ∙ tree_of_literal_bytes _) c.in_default-b-5.not-LiteralBytes

pub same_expr-returns-in_default-b-6 : goal.same_expr-returns-in_default-b-6
same_expr-returns-in_default-b-6 t c = unequal _ _ _ (ap tree_of c.in-Concat.is ∙ tree_of_concat _) c.in_default-b-6.not-Concat

pub same_expr-returns-in_default-b-7 : goal.same_expr-returns-in_default-b-7
same_expr-returns-in_default-b-7 t c = unequal _ _ _ (ap tree_of c.in-Alt.is ∙ tree_of_alt _) c.in_default-b-7.not-Alt

pub same_expr-returns-in_default-b-8 : goal.same_expr-returns-in_default-b-8
same_expr-returns-in_default-b-8 t c = unequal _ _ _ (ap tree_of c.in-Group.is ∙ tree_of_group _) c.in_default-b-8.not-Group

pub same_expr-returns-in_default-b-9 : goal.same_expr-returns-in_default-b-9
same_expr-returns-in_default-b-9 t c = unequal _ _ _ (ap tree_of c.in-LookAround.is ∙ tree_of_look_around _ _) c.in_default-b-9.not-LookAround

pub same_expr-returns-in_default-b-10 : goal.same_expr-returns-in_default-b-10
same_expr-returns-in_default-b-10 t c = unequal _ _ _ (ap tree_of c.in-Repeat.is ∙ tree_of_repeat _ _ _ _) c.in_default-b-10.not-Repeat

pub same_expr-returns-in_default-b-11 : goal.same_expr-returns-in_default-b-11
same_expr-returns-in_default-b-11 t c = unequal _ _ _ (ap tree_of c.in-Delegate.is ∙ tree_of_delegate _ _) c.in_default-b-11.not-Delegate

pub same_expr-returns-in_default-b-12 : goal.same_expr-returns-in_default-b-12
same_expr-returns-in_default-b-12 t c = unequal _ _ _ (ap tree_of c.in-Backref.is ∙ tree_of_backref _ _) c.in_default-b-12.not-Backref

pub same_expr-returns-in_default-b-13 : goal.same_expr-returns-in_default-b-13
same_expr-returns-in_default-b-13 t c =
    unequal _ _ _ (ap tree_of c.in-BackrefWithRelativeRecursionLevel.is ∙ tree_of_backref_with_level _ _ _)
    c.in_default-b-13.not-BackrefWithRelativeRecursionLevel

pub same_expr-returns-in_default-b-14 : goal.same_expr-returns-in_default-b-14
same_expr-returns-in_default-b-14 t c = unequal _ _ _ (ap tree_of c.in-AtomicGroup.is ∙ tree_of_atomic_group _) c.in_default-b-14.not-AtomicGroup

pub same_expr-returns-in_default-matches : goal.same_expr-returns-in_default-matches
same_expr-returns-in_default-matches t c = unequal _ _ _ (ap tree_of c.in-KeepOut.is ∙ tree_of_keep_out) c.in_default-matches.not-KeepOut

pub same_expr-returns-in_default-matches-2 : goal.same_expr-returns-in_default-matches-2
same_expr-returns-in_default-matches-2 t c =
    unequal _ _ _ (ap tree_of c.in-ContinueFromPreviousMatchEnd.is ∙ tree_of_continue) c.in_default-matches-2.not-ContinueFromPreviousMatchEnd

pub same_expr-returns-in_default-b-15 : goal.same_expr-returns-in_default-b-15
same_expr-returns-in_default-b-15 t c =
    unequal _ _ _ (ap tree_of c.in-BackrefExistsCondition.is ∙ tree_of_backref_exists _ _) c.in_default-b-15.not-BackrefExistsCondition

pub same_expr-returns-in_default-b-16 : goal.same_expr-returns-in_default-b-16
same_expr-returns-in_default-b-16 t c = unequal _ _ _ (ap tree_of c.in-Conditional.is ∙ tree_of_conditional _ _ _) c.in_default-b-16.not-Conditional

pub same_expr-returns-in_default-b-17 : goal.same_expr-returns-in_default-b-17
same_expr-returns-in_default-b-17 t c =
    unequal _ _ _ (ap tree_of c.in-SubroutineCall.is ∙ tree_of_subroutine_call _) c.in_default-b-17.not-SubroutineCall

pub same_expr-returns-in_default-b-18 : goal.same_expr-returns-in_default-b-18
same_expr-returns-in_default-b-18 t c =
    unequal _ _ _ (ap tree_of c.in-BacktrackingControlVerb.is ∙ tree_of_verb _) c.in_default-b-18.not-BacktrackingControlVerb

pub same_expr-returns-in_default-b-20 : goal.same_expr-returns-in_default-b-20
same_expr-returns-in_default-b-20 t c = unequal _ _ _ (ap tree_of c.in-DefineGroup.is ∙ tree_of_define_group _) c.in_default-b-20.not-DefineGroup
