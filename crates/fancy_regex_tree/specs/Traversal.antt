-- The children of a node.
use Rattle.std.specs.Prelude.{◌≡◌, Bool, true, false, ◌⊎◌, List, [], ◌∷◌, ◌++◌, drop, Option, Some, None, if◌then◌else◌}
use Rattle.std.specs.Fn.{Shared, FnReturnsAt}
use Rattle.fancy_regex_tree.specs.Tree.{tree_of, Tree, Trees, no_trees, more_trees, concat, alt, group, look_around, repeat, atomic_group, conditional, absent_repeater, absent_expression}
use Rattle.fancy_regex_tree.specs.Tree.{absent_stopper, define_group, ast_group}
use Rattle.std.specs.Borrow.{Bor}
use Rattle.fancy_regex_tree.specs.declared.expr.Expr.{Expr}
use Rattle.fancy_regex_tree.specs.declared.traversal.ExprChildrenIter.{ExprChildrenIter}
use Rattle.fancy_regex_tree.specs.declared.traversal.ExprChildrenIter.TheVariants.{Empty, Single, Vec, Triple}

-- a node of a kind that has no children
abbrev pub is_leaf : Tree → Bool
is_leaf (concat ts) = false
is_leaf (alt ts) = false
is_leaf (group t) = false
is_leaf (look_around t look) = false
is_leaf (repeat t lo hi greedy) = false
is_leaf (atomic_group t) = false
is_leaf (conditional c a b) = false
is_leaf (absent_repeater t) = false
is_leaf (absent_expression t d) = false
is_leaf (absent_stopper t) = false
is_leaf (define_group t) = false
is_leaf _ = true

abbrev pub listed : Trees → List Tree
listed no_trees = []
listed (more_trees t ts) = t ∷ listed ts

-- The trees directly below a node, in the order of the text. A capture group that has no number yet is a leaf; with the flag set
-- its body is below it too.
abbrev pub below : Bool → Tree → List Tree
below in_groups (concat ts) = listed ts
below in_groups (alt ts) = listed ts
below in_groups (group t) = t ∷ []
below in_groups (look_around t look) = t ∷ []
below in_groups (repeat t lo hi greedy) = t ∷ []
below in_groups (atomic_group t) = t ∷ []
below in_groups (conditional c a b) = c ∷ a ∷ b ∷ []
below in_groups (absent_repeater t) = t ∷ []
below in_groups (absent_expression t d) = t ∷ d ∷ []
below in_groups (absent_stopper t) = t ∷ []
below in_groups (define_group t) = t ∷ []
below in_groups (ast_group name t position) = if in_groups then t ∷ [] else []
below in_groups _ = []

-- the children, of which a leaf has none
abbrev pub children : Tree → List Tree
children = below false

-- the children, and the body of a capture group that has no number yet
abbrev pub subtrees : Tree → List Tree
subtrees = below true

-- the nodes from left to right, each before those below it
abbrev mutual
  pub nodes_in : Bool → Tree → List Tree
  nodes_in in_groups (concat ts) = concat ts ∷ all_nodes_in in_groups ts
  nodes_in in_groups (alt ts) = alt ts ∷ all_nodes_in in_groups ts
  nodes_in in_groups (group t) = group t ∷ nodes_in in_groups t
  nodes_in in_groups (look_around t look) = look_around t look ∷ nodes_in in_groups t
  nodes_in in_groups (repeat t lo hi greedy) = repeat t lo hi greedy ∷ nodes_in in_groups t
  nodes_in in_groups (atomic_group t) = atomic_group t ∷ nodes_in in_groups t
  nodes_in in_groups (conditional c a b) = conditional c a b ∷ nodes_in in_groups c ++ (nodes_in in_groups a ++ nodes_in in_groups b)
  nodes_in in_groups (absent_repeater t) = absent_repeater t ∷ nodes_in in_groups t
  nodes_in in_groups (absent_expression t d) = absent_expression t d ∷ nodes_in in_groups t ++ nodes_in in_groups d
  nodes_in in_groups (absent_stopper t) = absent_stopper t ∷ nodes_in in_groups t
  nodes_in in_groups (define_group t) = define_group t ∷ nodes_in in_groups t
  nodes_in in_groups (ast_group name t position) = ast_group name t position ∷ (if in_groups then nodes_in in_groups t else [])
  nodes_in in_groups t = t ∷ []

  pub all_nodes_in : Bool → Trees → List Tree
  all_nodes_in in_groups no_trees = []
  all_nodes_in in_groups (more_trees t ts) = nodes_in in_groups t ++ all_nodes_in in_groups ts

-- all nodes of a tree, those in capture groups that have no number yet included
abbrev pub nodes : Tree → List Tree
nodes = nodes_in true

abbrev pub all_nodes : Trees → List Tree
all_nodes = all_nodes_in true

-- the nodes below a node: its children, their children and so on
abbrev pub descendants : Tree → List Tree
descendants t = drop 1 (nodes_in false t)

-- what a predicate returned on nodes with these trees
module _ {F : Type 0} (g : Shared F (Bor Expr × Unit {0}) Bool) (f : F) where
  abbrev pub Answered : Bool → Tree → Type 0
  Answered answer t = (node : Expr) × (tree_of node ≡ t) × FnReturnsAt g f node answer

  -- true for at least one of them
  abbrev pub Found : List Tree → Type 0
  Found [] = ⊥
  Found (t ∷ ts) = Answered true t ⊎ Found ts

  -- false for each
  abbrev pub FoundNone : List Tree → Type 0
  FoundNone [] = Unit {0}
  FoundNone (t ∷ ts) = Answered false t × FoundNone ts

  abbrev pub IsFound : Bool → List Tree → Type 0
  IsFound true ts = Found ts
  IsFound false ts = FoundNone ts

-- the third of three, where there is one
abbrev pub last_of : Option (Bor Expr) → List Expr
last_of None = []
last_of (Some t) = t.now ∷ []

-- the children that are still to come
abbrev pub rest : ExprChildrenIter → List Expr
rest Empty = []
rest (Single t) = t.now ∷ []
rest (Vec ts) = ts.now
rest (Triple first second third) = first.now ∷ second.now ∷ last_of third

abbrev pub tree_at : Bor Expr → Tree
tree_at node = tree_of node.now
