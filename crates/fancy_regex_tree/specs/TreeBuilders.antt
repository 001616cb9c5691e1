-- The nodes of concatenations and alternations, and which nodes a quantifier may follow.
use Rattle.std.specs.Prelude.{Bool, true, false, List, [], ◌∷◌}
use Rattle.fancy_regex_tree.specs.Tree.{Tree, Trees, empty, assertion, look_around, concat, alt, trees}

abbrev pub is_empty_tree : Tree → Bool
is_empty_tree empty = true
is_empty_tree _ = false

-- a quantifier may follow it
abbrev pub is_repeatable : Tree → Bool
is_repeatable empty = false
is_repeatable (assertion a) = false
is_repeatable (look_around e k) = false
is_repeatable _ = true

abbrev pub without_empty : List Tree → List Tree
without_empty [] = []
without_empty (e ∷ es) = elim (is_empty_tree e) [ true ↦ without_empty es | false ↦ e ∷ without_empty es ]

-- the empty node for none, the node itself for one, a joined node for more
abbrev pub joined : (Trees → Tree) → List Tree → Tree
joined join [] = empty
joined join (e ∷ []) = e
joined join (e ∷ d ∷ es) = join (trees (e ∷ d ∷ es))

-- the node of a branch of these pieces
abbrev pub branch_of : List Tree → Tree
branch_of pieces = joined concat (without_empty pieces)

abbrev pub all_branches : List (List Tree) → List Tree
all_branches [] = []
all_branches (b ∷ bs) = branch_of b ∷ all_branches bs

-- the alternation of branches, given the pieces of each
abbrev pub pattern_of : List (List Tree) → Tree
pattern_of branches = joined alt (all_branches branches)
