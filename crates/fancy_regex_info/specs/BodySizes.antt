-- The sizes of the bodies of a tree's capture groups, as one walk over the tree finds them.
use Rattle.std.specs.Prelude.{ℕ, Bool, List, [], ◌∷◌, ◌++◌, Option, Some, None}
use Rattle.fancy_regex_tree.specs.Tree.{Tree, Trees, concat, alt, group, look_around, repeat, atomic_group, conditional, absent_repeater, absent_expression, absent_stopper, define_group, ast_group, no_trees, more_trees}
use Rattle.fancy_regex_meaning.specs.Sizes.{Size, any_size, size_with}
use Rattle.fancy_regex_info.specs.SizeFixpoint.{size_when}
use Rattle.fancy_regex_info.specs.Views.{size_of}
use Rattle.fancy_regex_info.specs.declared.size.Size as code

-- those of the groups in the order in which they open, before the rest
unfoldable mutual
  pub body_sizes : (ℕ → Size) → Tree → List Size → List Size
  body_sizes call (group t) rest = size_with call t ∷ body_sizes call t rest
  body_sizes call (concat ts) rest = row_body_sizes call ts rest
  body_sizes call (alt ts) rest = row_body_sizes call ts rest
  body_sizes call (look_around t how) rest = body_sizes call t rest
  body_sizes call (repeat t lo hi greedy) rest = body_sizes call t rest
  body_sizes call (atomic_group t) rest = body_sizes call t rest
  body_sizes call (conditional c a b) rest = body_sizes call c (body_sizes call a (body_sizes call b rest))
  body_sizes call (absent_repeater t) rest = body_sizes call t rest
  body_sizes call (absent_expression a t) rest = body_sizes call a (body_sizes call t rest)
  body_sizes call (absent_stopper t) rest = body_sizes call t rest
  body_sizes call (define_group t) rest = body_sizes call t rest
  body_sizes call (ast_group name t position) rest = body_sizes call t rest
  body_sizes call _ rest = rest

  pub row_body_sizes : (ℕ → Size) → Trees → List Size → List Size
  row_body_sizes call no_trees rest = rest
  row_body_sizes call (more_trees t ts) rest = body_sizes call t (row_body_sizes call ts rest)

-- the sizes from the last one on
abbrev pub from_last : List code.Size → List Size
from_last [] = []
from_last (s ∷ xs) = from_last xs ++ size_of s ∷ []

-- the size of a call of a group with a body of this size, if there is that group
abbrev pub called : Bool → Option Size → Size
called recursive None = any_size
called recursive (Some s) = size_when recursive s
