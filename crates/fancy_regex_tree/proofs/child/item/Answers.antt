use Rattle.fancy_regex_tree.proofs.BorrowedChildren.{lent}
use Rattle.fancy_regex_tree.proofs.child.item.Goals as goal

pub returns : goal.returns
returns c = lent c.args.children.now.items c.args.children.now.len c.args.i c.get_mut.result c.args.children.now.ok.0 c.get_mut.ensures.variant c.get_mut.ensures.value
