use Rattle.std.proofs.Common.{rules}
use Rattle.fancy_regex_tree.proofs.BorrowedChildren.{in_concat, in_alt}
use Rattle.fancy_regex_tree.proofs.expr.Expr.child_mut.Goals as goal

pub returns-in-Concat : goal.returns-in-Concat
returns-in-Concat c = in_concat c.args.self.now c.in-Concat.children c.args.i c.item.result (search rules) (rw c.in-Concat.children-is at c.item.ensures)

pub returns-in-Alt : goal.returns-in-Alt
returns-in-Alt c = in_alt c.args.self.now c.in-Alt.children c.args.i c.item-in-Alt.result (search rules) (rw c.in-Alt.children-is at c.item-in-Alt.ensures)
