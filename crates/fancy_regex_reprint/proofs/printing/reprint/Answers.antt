use Rattle.std.proofs.Common.{ap, sym, ◌∙◌, ◌++◌, chars}
use Rattle.std.proofs.lemmas.Str.{chars-nil}
use Rattle.fancy_regex_tree.specs.Tree.{tree_of}
use Rattle.fancy_regex_tree.specs.Printed.{printed}
use Rattle.fancy_regex_reprint.proofs.PrintedLevels.{reprinted_text}
use Rattle.fancy_regex_reprint.proofs.printing.reprint.Goals as goal

pub is_within_levels-requires-clause-printed : goal.is_within_levels-requires-clause-printed
is_within_levels-requires-clause-printed c =
    ap chars c.deref.ensures ∙ c.in_ok-to_str.ensures.printed ∙ ap (λ front. front ++ printed 0 (tree_of c.args.expr.now)) (ap chars c.new-text.ensures.bytes ∙ chars-nil)

pub returns-then-branch : goal.returns-then-branch
returns-then-branch c =
    reprinted_text (tree_of c.args.expr.now) _ (sym c.in_ok-is_printable.ensures ∙ c.if-not-branch.false) (sym c.in_ok-classes_read_back.ensures ∙ c.if-not-branch-2.false)
    (sym c.in_ok-is_within_levels.ensures ∙ c.if-branch.true)
    (c.in_ok-to_str.ensures.printed ∙ ap (λ front. front ++ printed 0 (tree_of c.args.expr.now)) (ap chars c.new-text.ensures.bytes ∙ chars-nil))
