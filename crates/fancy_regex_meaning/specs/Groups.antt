-- The capturing groups of a pattern. A group's number is the rank of its opening among those of the tree.
use Rattle.std.specs.Prelude.{ℕ, ◌+◌, List, [], ◌∷◌, ◌++◌}
use Rattle.fancy_regex_tree.specs.Tree.{Tree, Trees, concat, alt, group, look_around, repeat, atomic_group, conditional, absent_repeater, absent_expression, absent_stopper, define_group, ast_group, no_trees, more_trees}

-- the bodies of the groups of a tree, in the order in which they open
unfoldable mutual
  pub bodies : Tree → List Tree
  bodies (group t) = t ∷ bodies t
  bodies (concat ts) = row_bodies ts
  bodies (alt ts) = row_bodies ts
  bodies (look_around t how) = bodies t
  bodies (repeat t lo hi greedy) = bodies t
  bodies (atomic_group t) = bodies t
  bodies (conditional c a b) = bodies c ++ (bodies a ++ bodies b)
  bodies (absent_repeater t) = bodies t
  bodies (absent_expression a t) = bodies a ++ bodies t
  bodies (absent_stopper t) = bodies t
  bodies (define_group t) = bodies t
  bodies (ast_group name t position) = bodies t
  bodies _ = []

  pub row_bodies : Trees → List Tree
  row_bodies no_trees = []
  row_bodies (more_trees t ts) = bodies t ++ row_bodies ts

-- how many groups there are
unfoldable mutual
  pub group_count : Tree → ℕ
  group_count (group t) = group_count t + 1
  group_count (concat ts) = row_group_count ts
  group_count (alt ts) = row_group_count ts
  group_count (look_around t how) = group_count t
  group_count (repeat t lo hi greedy) = group_count t
  group_count (atomic_group t) = group_count t
  group_count (conditional c a b) = group_count c + (group_count a + group_count b)
  group_count (absent_repeater t) = group_count t
  group_count (absent_expression a t) = group_count a + group_count t
  group_count (absent_stopper t) = group_count t
  group_count (define_group t) = group_count t
  group_count (ast_group name t position) = group_count t
  group_count _ = 0

  pub row_group_count : Trees → ℕ
  row_group_count no_trees = 0
  row_group_count (more_trees t ts) = group_count t + row_group_count ts

-- What is looked for: a tree, the number of the group that opens first in it, and the bodies of all groups by their numbers.
pub record Pattern : Type 0 where
  pub tree : Tree
  pub first_group : ℕ
  pub groups : List Tree

-- groups count from 1, and group 0 is the whole
abbrev pub pattern_of : Tree → Pattern
pattern_of t = record { tree = t; first_group = 1; groups = t ∷ bodies t }

-- groups count from 0, and no group is the whole
abbrev pub explicit_pattern_of : Tree → Pattern
explicit_pattern_of t = record { tree = t; first_group = 0; groups = bodies t }
