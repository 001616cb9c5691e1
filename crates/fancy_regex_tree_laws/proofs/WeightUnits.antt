-- What a tree weighs at most if its repeats are not counted, whatever its groups are. A character pays for four units.
use Rattle.std.specs.Prelude.{ℕ, suc, ◌+◌, ◌-◌, List, [], ◌∷◌}
use Rattle.fancy_regex_tree.specs.Tree.{Tree, Trees, empty, any, assertion, general_newline, literal, literal_bytes, concat, alt, group, look_around, repeat, delegate, backref}
use Rattle.fancy_regex_tree.specs.Tree.{backref_with_level, atomic_group, keep_out, continue, backref_exists, conditional, subroutine_call, verb, absent_repeater, absent_expression}
use Rattle.fancy_regex_tree.specs.Tree.{absent_stopper, absent_clear, define_group, ast_group, ast_backref, ast_call, ast_condition, no_trees, more_trees}

abbrev mutual
  pub units : Tree → ℕ
  units empty = 1
  units (any newline crlf) = 1
  units (assertion a) = 1
  units (general_newline unicode) = 1
  units (literal val casei) = 1
  units (literal_bytes bytes) = 1
  units (concat ts) = suc (units_of ts)
  units (alt ts) = branch_units ts - 3
  units (group t) = units t + 2
  units (look_around t k) = suc (units t)
  units (repeat t lo hi greedy) = units t + 3
  units (delegate inner casei) = 1
  units (backref n casei) = 1
  units (backref_with_level n level casei) = 1
  units (atomic_group t) = suc (units t)
  units keep_out = 1
  units continue = 1
  units (backref_exists n level) = 1
  units (conditional c t u) = suc (units c + units t + units u)
  units (subroutine_call n) = 1
  units (verb v) = 1
  units (absent_repeater t) = suc (units t)
  units (absent_expression a t) = suc (units a + units t)
  units (absent_stopper t) = suc (units t)
  units absent_clear = 1
  units (define_group t) = suc (units t)
  units (ast_group name t position) = units t + 2
  units (ast_backref target casei level position) = 1
  units (ast_call target position) = 1
  units (ast_condition target level position) = 1

  pub units_of : Trees → ℕ
  units_of no_trees = 0
  units_of (more_trees t ts) = units t + units_of ts

  -- each branch has three more
  pub branch_units : Trees → ℕ
  branch_units no_trees = 0
  branch_units (more_trees t ts) = units t + 3 + branch_units ts

-- what the pieces of a branch take at least, ..
abbrev pub pieces_measure : List Tree → ℕ
pieces_measure [] = 0
pieces_measure (t ∷ ts) = units t + 3 + pieces_measure ts

-- .. and branches, each with a bar
abbrev pub branches_measure : List (List Tree) → ℕ
branches_measure [] = 0
branches_measure (b ∷ bs) = 4 + pieces_measure b + branches_measure bs
