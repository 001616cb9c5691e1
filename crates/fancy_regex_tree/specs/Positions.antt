-- Byte positions in a tree whose references are not resolved yet.
use Rattle.std.specs.Prelude.{ℕ, ◌≤◌}
use Rattle.fancy_regex_tree.specs.Tree.{Tree, Trees, no_trees, more_trees, concat, alt, group, look_around, repeat, atomic_group, conditional, absent_repeater, absent_expression}
use Rattle.fancy_regex_tree.specs.Tree.{absent_stopper, define_group, ast_group, ast_backref, ast_call, ast_condition}

abbrev mutual
  -- Each byte position in the tree is at most `size`, the length of the pattern in bytes.
  pub HasPositionsWithin : ℕ → Tree → Type 0
  HasPositionsWithin size (concat ts) = HavePositionsWithin size ts
  HasPositionsWithin size (alt ts) = HavePositionsWithin size ts
  HasPositionsWithin size (group t) = HasPositionsWithin size t
  HasPositionsWithin size (look_around t k) = HasPositionsWithin size t
  HasPositionsWithin size (repeat t lo hi greedy) = HasPositionsWithin size t
  HasPositionsWithin size (atomic_group t) = HasPositionsWithin size t
  HasPositionsWithin size (conditional c t u) = HasPositionsWithin size c × HasPositionsWithin size t × HasPositionsWithin size u
  HasPositionsWithin size (absent_repeater t) = HasPositionsWithin size t
  HasPositionsWithin size (absent_expression a t) = HasPositionsWithin size a × HasPositionsWithin size t
  HasPositionsWithin size (absent_stopper t) = HasPositionsWithin size t
  HasPositionsWithin size (define_group t) = HasPositionsWithin size t
  HasPositionsWithin size (ast_group name t position) = (position ≤ size) × HasPositionsWithin size t
  HasPositionsWithin size (ast_backref target casei level position) = position ≤ size
  HasPositionsWithin size (ast_call target position) = position ≤ size
  HasPositionsWithin size (ast_condition target level position) = position ≤ size
  HasPositionsWithin size _ = Unit {0}

  -- the same for each tree of a list
  pub HavePositionsWithin : ℕ → Trees → Type 0
  HavePositionsWithin size no_trees = Unit {0}
  HavePositionsWithin size (more_trees t ts) = HasPositionsWithin size t × HavePositionsWithin size ts
