-- The groups that back references and conditions name.
use Rattle.std.specs.Prelude.{ℕ, Bool, List, [], ◌∷◌, ◌++◌, ◌==◌, ◌&&◌, nat_lt}
use Rattle.std.specs.List.{list_any}
use Rattle.fancy_regex_tree.specs.Tree.{Tree, Trees, concat, alt, group, look_around, repeat, backref, backref_with_level, atomic_group, backref_exists}
use Rattle.fancy_regex_tree.specs.Tree.{conditional, absent_repeater, absent_expression, absent_stopper, define_group, ast_group, no_trees, more_trees}

-- the numbers in the order of the text
unfoldable mutual
  pub references_in : Tree → List ℕ
  references_in (backref k casei) = k ∷ []
  references_in (backref_with_level k level casei) = k ∷ []
  references_in (backref_exists k level) = k ∷ []
  references_in (group t) = references_in t
  references_in (concat ts) = references_in_row ts
  references_in (alt ts) = references_in_row ts
  references_in (look_around t how) = references_in t
  references_in (repeat t lo hi greedy) = references_in t
  references_in (atomic_group t) = references_in t
  references_in (conditional c a b) = references_in c ++ (references_in a ++ references_in b)
  references_in (absent_repeater t) = references_in t
  references_in (absent_expression a t) = references_in a ++ references_in t
  references_in (absent_stopper t) = references_in t
  references_in (define_group t) = references_in t
  references_in (ast_group name t position) = references_in t
  references_in _ = []

  pub references_in_row : Trees → List ℕ
  references_in_row no_trees = []
  references_in_row (more_trees t ts) = references_in t ++ references_in_row ts

-- there are so many groups, and this is one of them that a reference or a condition of the tree reads
abbrev pub is_read : ℕ → Tree → ℕ → Bool
is_read groups t k = nat_lt k groups && list_any (λ j. j == k) (references_in t)
