-- How a match goes through a node.
use Rattle.std.specs.Prelude.{◌≡◌, Bool, true, false, map}
use Rattle.fancy_regex_tree.specs.Tree.{Tree, tree_of, trees, concat, alt, repeat, conditional, subroutine_call, define_group}
use Rattle.fancy_regex_analysis.specs.declared.flow.Flow.{Flow}
use Rattle.fancy_regex_analysis.specs.declared.flow.Flow.TheVariants.{Call, Row, Branches, Repeat, Conditional, Definitions, Children}

abbrev pub is_definitions : Tree → Bool
is_definitions (define_group t) = true
is_definitions t = false

-- a match of the node goes through each of its children
abbrev pub goes_through_children : Tree → Bool
goes_through_children (concat ts) = false
goes_through_children (alt ts) = false
goes_through_children (repeat t lo hi greedy) = false
goes_through_children (conditional c a b) = false
goes_through_children (subroutine_call k) = false
goes_through_children (define_group t) = false
goes_through_children t = true

abbrev pub IsFlowOf : Flow → Tree → Type 0
IsFlowOf (Call k) t = t ≡ subroutine_call k
IsFlowOf (Row parts) t = t ≡ concat (trees (map tree_of parts.now))
IsFlowOf (Branches branches) t = t ≡ alt (trees (map tree_of branches.now))
IsFlowOf (Repeat child lo hi) t = (greedy : Bool) × (t ≡ repeat (tree_of child.now) lo hi greedy)
IsFlowOf (Conditional c a b) t = t ≡ conditional (tree_of c.now) (tree_of a.now) (tree_of b.now)
IsFlowOf Definitions t = is_definitions t ≡ true
IsFlowOf Children t = goes_through_children t ≡ true
