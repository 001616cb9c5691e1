-- What each kind of node and of expression is in mathematics.
use Rattle.std.proofs.Common.{◌≡◌, ℕ, Bool, Vec, Box, Global, sym, ap, ◌∙◌}
use Rattle.fancy_regex_tree.specs.Tree.{Tree, absent_tree, ast_tree, node_tree, tree_of, concat, alt}
use Rattle.fancy_regex_tree.specs.declared.expr.Expr.{Expr}
use Rattle.fancy_regex_tree.specs.declared.expr.Expr.TheVariants as expr
use Rattle.fancy_regex_tree.specs.declared.expr.Absent.TheOpen.{Expr-F}
use Rattle.fancy_regex_tree.specs.declared.expr.Absent.TheFolds.{fold-roll-Expr}
use Rattle.fancy_regex_tree.specs.Tree.{conditional as if_tree}
use Rattle.fancy_regex_tree.specs.Tree as tree
use Rattle.fancy_regex_tree.specs.declared.expr.LookAround.{LookAround}
use Rattle.fancy_regex_linear.specs.Re.{Re, read, test, repeat, ask, conditional, cats, alts, node_shape, shape, shapes}
use Rattle.fancy_regex_linear.specs.Translation.{all_trees}
use Rattle.fancy_regex_linear.specs.declared.node.Node.{Node, Node-F, fold-roll-Node}
use Rattle.fancy_regex_linear.specs.declared.node.Node.TheVariants as node
use Rattle.fancy_regex_linear.specs.declared.node.Quantifier.{Quantifier}
use Rattle.fancy_regex_states.specs.declared.atom.Leaf.{Leaf}
use Rattle.fancy_regex_states.specs.declared.atom.Test.{Test}

pub tree_concat : (children : Vec Expr Global) → tree_of (expr.Concat children) ≡ concat (all_trees children.items)
tree_concat children =
    ap tree_of (sym (expr.rolls-Concat children)) ∙ fold-roll-Expr Tree (ℕ → Tree) Tree absent_tree ast_tree node_tree (Expr-F.Concat children)

pub tree_alt : (children : Vec Expr Global) → tree_of (expr.Alt children) ≡ alt (all_trees children.items)
tree_alt children =
    ap tree_of (sym (expr.rolls-Alt children)) ∙ fold-roll-Expr Tree (ℕ → Tree) Tree absent_tree ast_tree node_tree (Expr-F.Alt children)

pub shape_concat : (parts : Vec Node Global) → shape (node.Concat parts) ≡ cats (shapes parts.items)
shape_concat parts = ap shape (sym (node.rolls-Concat parts)) ∙ fold-roll-Node Re node_shape (Node-F.Concat parts)

pub shape_alt : (parts : Vec Node Global) → shape (node.Alt parts) ≡ alts (shapes parts.items)
shape_alt parts = ap shape (sym (node.rolls-Alt parts)) ∙ fold-roll-Node Re node_shape (Node-F.Alt parts)

pub shape_repeat : (body : Box Node Global) (q : Quantifier) → shape (node.Repeat body q) ≡ repeat q.lo q.hi q.greedy q.moves (shape body.value)
shape_repeat body q = ap shape (sym (node.rolls-Repeat body q)) ∙ fold-roll-Node Re node_shape (Node-F.Repeat body q)

pub shape_ask : (negated : Bool) (back : ℕ) (body : Box Node Global) → shape (node.Ask negated back body) ≡ ask negated back (shape body.value)
shape_ask negated back body = ap shape (sym (node.rolls-Ask negated back body)) ∙ fold-roll-Node Re node_shape (Node-F.Ask negated back body)

pub shape_read : (leaf : Leaf) → shape (node.Read leaf) ≡ read leaf
shape_read leaf = ap shape (sym (node.rolls-Read leaf)) ∙ fold-roll-Node Re node_shape (Node-F.Read leaf)

pub shape_look : (check : Test) → shape (node.Look check) ≡ test check
shape_look check = ap shape (sym (node.rolls-Look check)) ∙ fold-roll-Node Re node_shape (Node-F.Look check)

pub shape_conditional : (condition first second : Box Node Global) → shape (node.Conditional condition first second) ≡ conditional (shape condition.value) (shape first.value) (shape second.value)
shape_conditional condition first second =
    ap shape (sym (node.rolls-Conditional condition first second)) ∙ fold-roll-Node Re node_shape (Node-F.Conditional condition first second)

-- one in whose boxes these nodes lie
pub shape_of_boxes : (condition first second : Box Node Global) (x y z : Node) → condition.value ≡ x → first.value ≡ y → second.value ≡ z
    → shape (node.Conditional condition first second) ≡ conditional (shape x) (shape y) (shape z)
shape_of_boxes condition first second x y z a b c =
    shape_conditional condition first second
    ∙ ap (λ u. conditional (shape u) (shape first.value) (shape second.value)) a
    ∙ ap (λ u. conditional (shape x) (shape u) (shape second.value)) b
    ∙ ap (λ u. conditional (shape x) (shape y) (shape u)) c

pub tree_conditional : (condition first second : Box Expr Global)
    → tree_of (expr.Conditional condition first second) ≡ if_tree (tree_of condition.value) (tree_of first.value) (tree_of second.value)
tree_conditional condition first second =
    ap tree_of (sym (expr.rolls-Conditional condition first second))
    ∙ fold-roll-Expr Tree (ℕ → Tree) Tree absent_tree ast_tree node_tree (Expr-F.Conditional condition first second)

pub tree_group : (child : Box Expr Global) → tree_of (expr.Group child) ≡ tree.group (tree_of child.value)
tree_group child =
    ap tree_of (sym (expr.rolls-Group child)) ∙ fold-roll-Expr Tree (ℕ → Tree) Tree absent_tree ast_tree node_tree (Expr-F.Group child)

pub tree_look : (child : Box Expr Global) (how : LookAround) → tree_of (expr.LookAround child how) ≡ tree.look_around (tree_of child.value) how
tree_look child how =
    ap tree_of (sym (expr.rolls-LookAround child how)) ∙ fold-roll-Expr Tree (ℕ → Tree) Tree absent_tree ast_tree node_tree (Expr-F.LookAround child how)

pub tree_repeat : (child : Box Expr Global) (lo hi : ℕ) (greedy : Bool) → tree_of (expr.Repeat child lo hi greedy) ≡ tree.repeat (tree_of child.value) lo hi greedy
tree_repeat child lo hi greedy =
    ap tree_of (sym (expr.rolls-Repeat child lo hi greedy)) ∙ fold-roll-Expr Tree (ℕ → Tree) Tree absent_tree ast_tree node_tree (Expr-F.Repeat child lo hi greedy)

pub tree_atomic : (child : Box Expr Global) → tree_of (expr.AtomicGroup child) ≡ tree.atomic_group (tree_of child.value)
tree_atomic child =
    ap tree_of (sym (expr.rolls-AtomicGroup child)) ∙ fold-roll-Expr Tree (ℕ → Tree) Tree absent_tree ast_tree node_tree (Expr-F.AtomicGroup child)

pub tree_call : (j : ℕ) → tree_of (expr.SubroutineCall j) ≡ tree.subroutine_call j
tree_call j = ap tree_of (sym (expr.rolls-SubroutineCall j)) ∙ fold-roll-Expr Tree (ℕ → Tree) Tree absent_tree ast_tree node_tree (Expr-F.Expr::SubroutineCall j)
