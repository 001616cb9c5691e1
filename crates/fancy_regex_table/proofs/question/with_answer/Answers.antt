use Rattle.std.proofs.Common.{refl, arith}
use Rattle.fancy_regex_table.proofs.question.with_answer.Goals as goal

pub returns-then-yes : goal.returns-then-yes
returns-then-yes c = rw c.if-yes.true refl

pub returns-else-yes : goal.returns-else-yes
returns-else-yes c = rw c.if-yes.false (omega arith)
