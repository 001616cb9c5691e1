-- Trees in which an opening without a name is a group. One that has a name stays, so what is equal to a tree without openings has no name.
use Rattle.std.proofs.Common.{Some, None}
use Rattle.fancy_regex_tree.specs.Tree.{Tree, Trees, concat, alt, group, look_around, repeat, atomic_group, conditional, absent_repeater, absent_expression, absent_stopper, define_group}
use Rattle.fancy_regex_tree.specs.Tree.{ast_group, no_trees, more_trees}

unfoldable mutual
  pub nameless_tree : Tree → Tree
  nameless_tree (ast_group None t position) = group (nameless_tree t)
  nameless_tree (ast_group (Some name) t position) = ast_group (Some name) t position
  nameless_tree (concat ts) = concat (nameless_trees ts)
  nameless_tree (alt ts) = alt (nameless_trees ts)
  nameless_tree (group t) = group (nameless_tree t)
  nameless_tree (look_around t how) = look_around (nameless_tree t) how
  nameless_tree (repeat t lo hi greedy) = repeat (nameless_tree t) lo hi greedy
  nameless_tree (atomic_group t) = atomic_group (nameless_tree t)
  nameless_tree (conditional c a b) = conditional (nameless_tree c) (nameless_tree a) (nameless_tree b)
  nameless_tree (absent_repeater t) = absent_repeater (nameless_tree t)
  nameless_tree (absent_expression a t) = absent_expression (nameless_tree a) (nameless_tree t)
  nameless_tree (absent_stopper t) = absent_stopper (nameless_tree t)
  nameless_tree (define_group t) = define_group (nameless_tree t)
  nameless_tree t = t

  pub nameless_trees : Trees → Trees
  nameless_trees no_trees = no_trees
  nameless_trees (more_trees t ts) = more_trees (nameless_tree t) (nameless_trees ts)
