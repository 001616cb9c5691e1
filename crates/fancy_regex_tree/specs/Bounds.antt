-- The number of nodes of a tree, and its depth: the number of nodes on its longest path from the root.
use Rattle.std.specs.Prelude.{ℕ, suc, ◌+◌, ◌≤◌, ◌≡◌, max, List, [], ◌∷◌}
use Rattle.fancy_regex_lex.specs.Openings.{Opening, if_set}
use Rattle.fancy_regex_tree.specs.Tree.{Tree, Trees, empty, any, assertion, general_newline, literal, literal_bytes, concat, alt, group, look_around, repeat, delegate, backref}
use Rattle.fancy_regex_tree.specs.Tree.{backref_with_level, atomic_group, keep_out, continue, backref_exists, conditional, subroutine_call, verb, absent_repeater, absent_expression}
use Rattle.fancy_regex_tree.specs.Tree.{absent_stopper, absent_clear, define_group, ast_group, ast_backref, ast_call, ast_condition, no_trees, more_trees}

abbrev mutual
  pub nodes : Tree → ℕ
  nodes empty = 1
  nodes (any newline crlf) = 1
  nodes (assertion a) = 1
  nodes (general_newline unicode) = 1
  nodes (literal val casei) = 1
  nodes (literal_bytes bytes) = 1
  nodes (concat ts) = suc (nodes_of ts)
  nodes (alt ts) = suc (nodes_of ts)
  nodes (group t) = suc (nodes t)
  nodes (look_around t k) = suc (nodes t)
  nodes (repeat t lo hi greedy) = suc (nodes t)
  nodes (delegate inner casei) = 1
  nodes (backref n casei) = 1
  nodes (backref_with_level n level casei) = 1
  nodes (atomic_group t) = suc (nodes t)
  nodes keep_out = 1
  nodes continue = 1
  nodes (backref_exists n level) = 1
  nodes (conditional c t u) = suc (nodes c + nodes t + nodes u)
  nodes (subroutine_call n) = 1
  nodes (verb v) = 1
  nodes (absent_repeater t) = suc (nodes t)
  nodes (absent_expression a t) = suc (nodes a + nodes t)
  nodes (absent_stopper t) = suc (nodes t)
  nodes absent_clear = 1
  nodes (define_group t) = suc (nodes t)
  nodes (ast_group name t position) = suc (nodes t)
  nodes (ast_backref target casei level position) = 1
  nodes (ast_call target position) = 1
  nodes (ast_condition target level position) = 1

  pub nodes_of : Trees → ℕ
  nodes_of no_trees = 0
  nodes_of (more_trees t ts) = nodes t + nodes_of ts

abbrev mutual
  -- the number of nodes on the longest path from the root
  pub depth : Tree → ℕ
  depth empty = 1
  depth (any newline crlf) = 1
  depth (assertion a) = 1
  depth (general_newline unicode) = 1
  depth (literal val casei) = 1
  depth (literal_bytes bytes) = 1
  depth (concat ts) = suc (depth_of ts)
  depth (alt ts) = suc (depth_of ts)
  depth (group t) = suc (depth t)
  depth (look_around t k) = suc (depth t)
  depth (repeat t lo hi greedy) = suc (depth t)
  depth (delegate inner casei) = 1
  depth (backref n casei) = 1
  depth (backref_with_level n level casei) = 1
  depth (atomic_group t) = suc (depth t)
  depth keep_out = 1
  depth continue = 1
  depth (backref_exists n level) = 1
  depth (conditional c t u) = suc (max (depth c) (max (depth t) (depth u)))
  depth (subroutine_call n) = 1
  depth (verb v) = 1
  depth (absent_repeater t) = suc (depth t)
  depth (absent_expression a t) = suc (max (depth a) (depth t))
  depth (absent_stopper t) = suc (depth t)
  depth absent_clear = 1
  depth (define_group t) = suc (depth t)
  depth (ast_group name t position) = suc (depth t)
  depth (ast_backref target casei level position) = 1
  depth (ast_call target position) = 1
  depth (ast_condition target level position) = 1

  pub depth_of : Trees → ℕ
  depth_of no_trees = 0
  depth_of (more_trees t ts) = max (depth t) (depth_of ts)

-- the tree is one node
abbrev pub IsLeaf : Tree → Type 0
IsLeaf t = (nodes t ≡ 1) × (depth t ≡ 1)

-- the second tree has at most two more nodes than the first, and is at most two nodes deeper
abbrev pub IsWrapped : Tree → Tree → Type 0
IsWrapped t u = (nodes u ≤ nodes t + 2) × (depth u ≤ depth t + 2)

-- Measures of parsed pieces. For a branch: its nodes and one more for each piece, which is at most twice its characters, ..
abbrev pub pieces_measure : List Tree → ℕ
pieces_measure [] = 0
pieces_measure (t ∷ ts) = suc (nodes t) + pieces_measure ts

-- .. for several branches: the sum, with 2 more for the bar of each, ..
abbrev pub branches_measure : List (List Tree) → ℕ
branches_measure [] = 0
branches_measure (b ∷ bs) = 2 + pieces_measure b + branches_measure bs

-- .. and the greatest depth of a piece
abbrev pub max_depth : List Tree → ℕ
max_depth [] = 0
max_depth (t ∷ ts) = max (depth t) (max_depth ts)

abbrev pub max_depth_of_all : List (List Tree) → ℕ
max_depth_of_all [] = 0
max_depth_of_all (b ∷ bs) = max (max_depth b) (max_depth_of_all bs)

-- how many nodes more than one a group of this opening makes by itself: a condition on a capture group makes two
abbrev pub extra_nodes : Opening → ℕ
extra_nodes (if_set target level) = 1
extra_nodes _ = 0
