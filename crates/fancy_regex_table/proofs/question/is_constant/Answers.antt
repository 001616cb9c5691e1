use Rattle.std.proofs.Common.{sym, subst}
use Rattle.fancy_regex_states.specs.declared.atom.Leaf.{Leaf}
use Rattle.fancy_regex_table.specs.Questions.{IsConstant}
use Rattle.fancy_regex_table.proofs.QuestionLemmas.{any_constant, ascii_constant}
use Rattle.fancy_regex_table.proofs.question.is_constant.Goals as goal

pub returns-in-Any : goal.returns-in-Any
returns-in-Any c _ =
    subst (λ (leaf : Leaf). IsConstant c.args.reader.now.unicode c.args.reader.now.matchers.now leaf) (sym c.in-Any.is)
    (any_constant c.args.reader.now.unicode c.args.reader.now.matchers.now _ _)

pub returns-in_default : goal.returns-in_default
returns-in_default c said =
    ascii_constant c.args.reader.now.unicode c.args.reader.now.matchers.now c.args.leaf (c.is_ascii_leaf.ensures said)
