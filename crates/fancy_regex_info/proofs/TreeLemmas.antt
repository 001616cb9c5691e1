-- What each kind of node is in mathematics.
use Rattle.std.proofs.Common.{◌≡◌, ℕ, ℤ, Bool, Option, map, Box, Vec, String, Global, ap, sym, ◌∙◌}
use Rattle.std.specs.Prelude.{chars, string_bytes, option_map}
use Rattle.fancy_regex_tree.specs.declared.expr.BacktrackingControlVerb.{BacktrackingControlVerb}
use Rattle.fancy_regex_tree.specs.declared.expr.CaptureGroupTarget.{CaptureGroupTarget}
use Rattle.fancy_regex_tree.specs.declared.expr.Expr.{Expr}
use Rattle.fancy_regex_tree.specs.declared.expr.LookAround.{LookAround}
use Rattle.fancy_regex_tree.specs.declared.expr.Expr.TheVariants as view
use Rattle.fancy_regex_tree.specs.declared.expr.Absent.TheVariants as absent
use Rattle.fancy_regex_tree.specs.declared.expr.AstNode.TheVariants as ast
use Rattle.fancy_regex_tree.specs.declared.expr.Absent.TheOpen.{Expr-F, Absent-F, AstNode-F}
use Rattle.fancy_regex_tree.specs.declared.expr.Absent.TheFolds.{fold-roll-Expr, fold-roll-Absent, fold-roll-AstNode}
use Rattle.fancy_regex_tree.specs.Tree.{Tree, absent_tree, ast_tree, node_tree, tree_of, absent_tree_of, ast_tree_of, target_of, trees, concat, alt, group, look_around, repeat, atomic_group}
use Rattle.fancy_regex_tree.specs.Tree.{conditional, verb, define_group, absent_repeater, absent_expression, absent_stopper, absent_clear, ast_group, ast_backref, ast_call, ast_condition}

pub tree_concat : (ts : Vec Expr Global) → tree_of (view.Concat ts) ≡ concat (trees (map tree_of ts.items))
tree_concat ts = ap tree_of (sym (view.rolls-Concat ts)) ∙ fold-roll-Expr Tree (ℕ → Tree) Tree absent_tree ast_tree node_tree (Expr-F.Concat ts)

pub tree_alt : (ts : Vec Expr Global) → tree_of (view.Alt ts) ≡ alt (trees (map tree_of ts.items))
tree_alt ts = ap tree_of (sym (view.rolls-Alt ts)) ∙ fold-roll-Expr Tree (ℕ → Tree) Tree absent_tree ast_tree node_tree (Expr-F.Alt ts)

pub tree_group : (t : Box Expr Global) → tree_of (view.Group t) ≡ group (tree_of t.value)
tree_group t = ap tree_of (sym (view.rolls-Group t)) ∙ fold-roll-Expr Tree (ℕ → Tree) Tree absent_tree ast_tree node_tree (Expr-F.Group t)

pub tree_look_around : (t : Box Expr Global) (how : LookAround) → tree_of (view.LookAround t how) ≡ look_around (tree_of t.value) how
tree_look_around t how = ap tree_of (sym (view.rolls-LookAround t how)) ∙ fold-roll-Expr Tree (ℕ → Tree) Tree absent_tree ast_tree node_tree (Expr-F.LookAround t how)

pub tree_repeat : (t : Box Expr Global) (lo hi : ℕ) (greedy : Bool) → tree_of (view.Repeat t lo hi greedy) ≡ repeat (tree_of t.value) lo hi greedy
tree_repeat t lo hi greedy = ap tree_of (sym (view.rolls-Repeat t lo hi greedy)) ∙ fold-roll-Expr Tree (ℕ → Tree) Tree absent_tree ast_tree node_tree (Expr-F.Repeat t lo hi greedy)

pub tree_atomic : (t : Box Expr Global) → tree_of (view.AtomicGroup t) ≡ atomic_group (tree_of t.value)
tree_atomic t = ap tree_of (sym (view.rolls-AtomicGroup t)) ∙ fold-roll-Expr Tree (ℕ → Tree) Tree absent_tree ast_tree node_tree (Expr-F.AtomicGroup t)

pub tree_conditional : (c a b : Box Expr Global) →
    tree_of (view.Conditional c a b) ≡ conditional (tree_of c.value) (tree_of a.value) (tree_of b.value)
tree_conditional c a b = ap tree_of (sym (view.rolls-Conditional c a b)) ∙ fold-roll-Expr Tree (ℕ → Tree) Tree absent_tree ast_tree node_tree (Expr-F.Conditional c a b)

pub tree_verb : (v : BacktrackingControlVerb) → tree_of (view.BacktrackingControlVerb v) ≡ verb v
tree_verb v = ap tree_of (sym (view.rolls-BacktrackingControlVerb v)) ∙ fold-roll-Expr Tree (ℕ → Tree) Tree absent_tree ast_tree node_tree (Expr-F.BacktrackingControlVerb v)

pub tree_define : (t : Box Expr Global) → tree_of (view.DefineGroup t) ≡ define_group (tree_of t.value)
tree_define t = ap tree_of (sym (view.rolls-DefineGroup t)) ∙ fold-roll-Expr Tree (ℕ → Tree) Tree absent_tree ast_tree node_tree (Expr-F.DefineGroup t)

pub tree_repeater : (t : Box Expr Global) → absent_tree_of (absent.Repeater t) ≡ absent_repeater (tree_of t.value)
tree_repeater t = ap absent_tree_of (sym (absent.rolls-Repeater t)) ∙ fold-roll-Absent Tree (ℕ → Tree) Tree absent_tree ast_tree node_tree (Absent-F.Repeater t)

pub tree_stopper : (t : Box Expr Global) → absent_tree_of (absent.Stopper t) ≡ absent_stopper (tree_of t.value)
tree_stopper t = ap absent_tree_of (sym (absent.rolls-Stopper t)) ∙ fold-roll-Absent Tree (ℕ → Tree) Tree absent_tree ast_tree node_tree (Absent-F.Stopper t)

pub tree_expression : (a t : Box Expr Global) → absent_tree_of (absent.Expression a t) ≡ absent_expression (tree_of a.value) (tree_of t.value)
tree_expression a t = ap absent_tree_of (sym (absent.rolls-Expression a t)) ∙ fold-roll-Absent Tree (ℕ → Tree) Tree absent_tree ast_tree node_tree (Absent-F.Expression a t)

pub tree_clear : absent_tree_of absent.Clear ≡ absent_clear
tree_clear = ap absent_tree_of (sym absent.rolls-Clear) ∙ fold-roll-Absent Tree (ℕ → Tree) Tree absent_tree ast_tree node_tree Absent-F.Clear

pub tree_ast_group : (name : Option (String Global)) (t : Box Expr Global) (position : ℕ) →
    ast_tree_of (ast.AstGroup name t) position ≡ ast_group (option_map (λ s. chars (string_bytes s)) name) (tree_of t.value) position
tree_ast_group name t position =
    ap (λ n. ast_tree_of n position) (sym (ast.rolls-AstGroup name t))
    ∙ ap (λ f. f position) (fold-roll-AstNode Tree (ℕ → Tree) Tree absent_tree ast_tree node_tree (AstNode-F.AstGroup name t))

pub tree_ast_backref : (target : CaptureGroupTarget) (casei : Bool) (level : Option ℤ) (position : ℕ) →
    ast_tree_of (ast.Backref target casei level) position ≡ ast_backref (target_of target) casei level position
tree_ast_backref target casei level position =
    ap (λ n. ast_tree_of n position) (sym (ast.rolls-Backref target casei level))
    ∙ ap (λ f. f position) (fold-roll-AstNode Tree (ℕ → Tree) Tree absent_tree ast_tree node_tree (AstNode-F.AstNode::Backref target casei level))

pub tree_ast_call : (target : CaptureGroupTarget) (position : ℕ) →
    ast_tree_of (ast.SubroutineCall target) position ≡ ast_call (target_of target) position
tree_ast_call target position =
    ap (λ n. ast_tree_of n position) (sym (ast.rolls-SubroutineCall target))
    ∙ ap (λ f. f position) (fold-roll-AstNode Tree (ℕ → Tree) Tree absent_tree ast_tree node_tree (AstNode-F.AstNode::SubroutineCall target))

pub tree_ast_condition : (target : CaptureGroupTarget) (level : Option ℤ) (position : ℕ) →
    ast_tree_of (ast.BackrefExistsCondition target level) position ≡ ast_condition (target_of target) level position
tree_ast_condition target level position =
    ap (λ n. ast_tree_of n position) (sym (ast.rolls-BackrefExistsCondition target level))
    ∙ ap (λ f. f position) (fold-roll-AstNode Tree (ℕ → Tree) Tree absent_tree ast_tree node_tree (AstNode-F.AstNode::BackrefExistsCondition target level))
