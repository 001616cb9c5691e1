-- A row of trees as a list, and the view of some nodes, variant by variant.
use Rattle.std.proofs.Common.{◌≡◌, ℕ, Bool, List, [], ◌∷◌, refl, ap, sym, ◌∙◌, map, option_map, Option, Vec, Box, String, Global, chars, string_bytes}
use Rattle.fancy_regex_tree.specs.Tree.{Tree, trees, concat, alt, group, look_around, repeat, atomic_group, conditional, define_group, absent_repeater, absent_expression, absent_stopper}
use Rattle.fancy_regex_tree.specs.Tree.{ast_group, tree_of, absent_tree_of, ast_tree_of, absent_tree, ast_tree, node_tree}
use Rattle.fancy_regex_tree.specs.Traversal.{listed, children}
use Rattle.fancy_regex_tree.specs.declared.expr.Expr.{Expr}
use Rattle.fancy_regex_tree.specs.declared.expr.LookAround as look
use Rattle.fancy_regex_tree.specs.declared.expr.Expr.TheVariants.{Concat, Alt, Group, LookAround, Repeat, AtomicGroup, Conditional, DefineGroup, rolls-Concat, rolls-Alt, rolls-Group}
use Rattle.fancy_regex_tree.specs.declared.expr.Expr.TheVariants.{rolls-LookAround, rolls-Repeat, rolls-AtomicGroup, rolls-Conditional, rolls-DefineGroup}
use Rattle.fancy_regex_tree.specs.declared.expr.Absent.TheVariants.{Repeater, Expression, Stopper, rolls-Repeater, rolls-Expression, rolls-Stopper}
use Rattle.fancy_regex_tree.specs.declared.expr.AstNode.TheVariants.{AstGroup, rolls-AstGroup}
use Rattle.fancy_regex_tree.specs.declared.expr.Absent.TheFolds.{fold-roll-Expr, fold-roll-Absent, fold-roll-AstNode}
use Rattle.fancy_regex_tree.specs.declared.expr.Absent.TheOpen.{Expr-F, Absent-F, AstNode-F}

pub listed_trees : (ts : List Tree) → listed (trees ts) ≡ ts
listed_trees [] = refl
listed_trees (t ∷ ts) = ap (λ xs. t ∷ xs) (listed_trees ts)

pub tree_of_concat : (v : Vec Expr Global) → tree_of (Concat v) ≡ concat (trees (map tree_of v.items))
tree_of_concat v = ap tree_of (sym (rolls-Concat v)) ∙ fold-roll-Expr Tree (ℕ → Tree) Tree absent_tree ast_tree node_tree (Expr-F.Concat v)

pub tree_of_alt : (v : Vec Expr Global) → tree_of (Alt v) ≡ alt (trees (map tree_of v.items))
tree_of_alt v = ap tree_of (sym (rolls-Alt v)) ∙ fold-roll-Expr Tree (ℕ → Tree) Tree absent_tree ast_tree node_tree (Expr-F.Alt v)

pub children_of_concat : (v : Vec Expr Global) → map tree_of v.items ≡ children (tree_of (Concat v))
children_of_concat v = sym (ap children (tree_of_concat v) ∙ listed_trees (map tree_of v.items))

pub children_of_alt : (v : Vec Expr Global) → map tree_of v.items ≡ children (tree_of (Alt v))
children_of_alt v = sym (ap children (tree_of_alt v) ∙ listed_trees (map tree_of v.items))

pub tree_of_conditional : (c a b : Box Expr Global) → tree_of (Conditional c a b) ≡ conditional (tree_of c.value) (tree_of a.value) (tree_of b.value)
tree_of_conditional c a b =
    ap tree_of (sym (rolls-Conditional c a b)) ∙ fold-roll-Expr Tree (ℕ → Tree) Tree absent_tree ast_tree node_tree (Expr-F.Conditional c a b)

pub tree_of_expression : (a b : Box Expr Global) → absent_tree_of (Expression a b) ≡ absent_expression (tree_of a.value) (tree_of b.value)
tree_of_expression a b =
    ap absent_tree_of (sym (rolls-Expression a b)) ∙ fold-roll-Absent Tree (ℕ → Tree) Tree absent_tree ast_tree node_tree (Absent-F.Expression a b)

pub tree_of_group : (child : Box Expr Global) → tree_of (Group child) ≡ group (tree_of child.value)
tree_of_group child =
    ap tree_of (sym (rolls-Group child)) ∙ fold-roll-Expr Tree (ℕ → Tree) Tree absent_tree ast_tree node_tree (Expr-F.Group child)

pub tree_of_look_around : (child : Box Expr Global) (k : look.LookAround) → tree_of (LookAround child k) ≡ look_around (tree_of child.value) k
tree_of_look_around child k =
    ap tree_of (sym (rolls-LookAround child k)) ∙ fold-roll-Expr Tree (ℕ → Tree) Tree absent_tree ast_tree node_tree (Expr-F.LookAround child k)

pub tree_of_repeat : (child : Box Expr Global) (lo hi : ℕ) (greedy : Bool) → tree_of (Repeat child lo hi greedy) ≡ repeat (tree_of child.value) lo hi greedy
tree_of_repeat child lo hi greedy =
    ap tree_of (sym (rolls-Repeat child lo hi greedy)) ∙ fold-roll-Expr Tree (ℕ → Tree) Tree absent_tree ast_tree node_tree (Expr-F.Repeat child lo hi greedy)

pub tree_of_atomic_group : (child : Box Expr Global) → tree_of (AtomicGroup child) ≡ atomic_group (tree_of child.value)
tree_of_atomic_group child =
    ap tree_of (sym (rolls-AtomicGroup child)) ∙ fold-roll-Expr Tree (ℕ → Tree) Tree absent_tree ast_tree node_tree (Expr-F.AtomicGroup child)

pub tree_of_define_group : (child : Box Expr Global) → tree_of (DefineGroup child) ≡ define_group (tree_of child.value)
tree_of_define_group child =
    ap tree_of (sym (rolls-DefineGroup child)) ∙ fold-roll-Expr Tree (ℕ → Tree) Tree absent_tree ast_tree node_tree (Expr-F.DefineGroup child)

pub tree_of_repeater : (child : Box Expr Global) → absent_tree_of (Repeater child) ≡ absent_repeater (tree_of child.value)
tree_of_repeater child =
    ap absent_tree_of (sym (rolls-Repeater child)) ∙ fold-roll-Absent Tree (ℕ → Tree) Tree absent_tree ast_tree node_tree (Absent-F.Repeater child)

pub tree_of_stopper : (child : Box Expr Global) → absent_tree_of (Stopper child) ≡ absent_stopper (tree_of child.value)
tree_of_stopper child =
    ap absent_tree_of (sym (rolls-Stopper child)) ∙ fold-roll-Absent Tree (ℕ → Tree) Tree absent_tree ast_tree node_tree (Absent-F.Stopper child)

pub ast_group_is : (name : Option (String Global)) (inner : Box Expr Global) (position : ℕ)
    → ast_tree_of (AstGroup name inner) position ≡ ast_group (option_map (λ s. chars (string_bytes s)) name) (tree_of inner.value) position
ast_group_is name inner position =
    ap (λ node. ast_tree_of node position) (sym (rolls-AstGroup name inner))
    ∙ ap (λ f. f position) (fold-roll-AstNode Tree (ℕ → Tree) Tree absent_tree ast_tree node_tree (AstNode-F.AstGroup name inner))
