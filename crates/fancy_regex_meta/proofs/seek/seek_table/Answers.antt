use Rattle.std.proofs.Common.{inl, inr, sym, ap, ◌∙◌}
use Rattle.std.specs.Prelude.{option_map}
use Rattle.fancy_regex_tree.specs.Tree.{tree_of}
use Rattle.fancy_regex_bytes.specs.ByteSets.{has}
use Rattle.fancy_regex_meta.proofs.SeekTableLemmas.{is_inner, rejected, marks_starts}
use Rattle.fancy_regex_meta.proofs.seek.seek_table.Goals as goal

pub returns-in-Ok-Some-clause-table : goal.returns-in-Ok-Some-clause-table
returns-in-Ok-Some-clause-table c =
    marks_starts c.args.options.now (tree_of c.args.expr.now) c.in-Ok-Some.set c.table.result.now c.if-not-options.false c.table.ensures
    (ap (option_map has) (sym c.in-Ok-Some.field-0-is) ∙ c.in-Ok-Some.ensures.answer) (rw c.in-Ok-Some.field-0-is at c.in-Ok-Some.ensures.law)

pub returns-in-Ok-None-clause-table : goal.returns-in-Ok-None-clause-table
returns-in-Ok-None-clause-table c on = inl (sym (ap (option_map has) (sym c.in-Ok-None.field-0-is) ∙ c.in-Ok-None.ensures.answer))

pub returns-in-Err-InnerError-clause-table : goal.returns-in-Err-InnerError-clause-table
returns-in-Err-InnerError-clause-table c on =
    inr (rejected c.args.options.now.unicode_mode (tree_of c.args.expr.now) c.in-Err-InnerError.field-0 c.in-Err-InnerError.ensures.refused
    (ap is_inner c.in-Err-InnerError.field-0-is))
