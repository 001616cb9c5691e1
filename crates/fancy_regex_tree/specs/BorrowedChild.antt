-- The tree of a child that is borrowed mutably.
use Rattle.std.specs.Borrow.{MutBor}
use Rattle.fancy_regex_tree.specs.Tree.{Tree, tree_of}
use Rattle.fancy_regex_tree.specs.declared.expr.Expr.{Expr}

-- the tree at the time of the borrow
abbrev pub borrowed_tree : MutBor Expr → Tree
borrowed_tree node = tree_of node.now
