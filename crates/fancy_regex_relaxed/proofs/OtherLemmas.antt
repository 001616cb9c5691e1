-- Nodes for which a copy that is read to its end is the same as one that is not.
use Rattle.std.proofs.Common.{◌≡◌, ℕ, Box, Vec, Global, refl, sym, subst}
use Rattle.fancy_regex_tree.specs.declared.expr.Absent.{Absent}
use Rattle.fancy_regex_tree.specs.declared.expr.Absent.TheViews.{roll-Expr, roll-out-Expr, out-Expr, roll-out-Absent, out-Absent, roll-out-AstNode, out-AstNode}
use Rattle.fancy_regex_tree.specs.declared.expr.Absent.TheOpen.{Expr-F, Absent-F, AstNode-F}
use Rattle.fancy_regex_tree.specs.declared.expr.Absent.TheFolds.{fold-roll-Expr, fold-roll-Absent, fold-roll-AstNode}
use Rattle.fancy_regex_tree.specs.declared.expr.AstNode.{AstNode}
use Rattle.fancy_regex_tree.specs.declared.expr.Expr.{Expr}
use Rattle.fancy_regex_tree.specs.declared.expr.Expr.TheVariants as view
use Rattle.fancy_regex_tree.specs.declared.expr.LookAround.{LookAround}
use Rattle.fancy_regex_tree.specs.Tree.{Tree, absent_tree, ast_tree, node_tree, tree_of, absent_tree_of, ast_tree_of}
use Rattle.fancy_regex_relaxed.specs.Relaxed.{relaxed, extended}

-- none of those in which something at the end is read
pub record NoEnd (e : Expr) : Type 0 where
  pub concat : (ts : Vec Expr Global) → e ≡ view.Concat ts → ⊥
  pub alt : (ts : Vec Expr Global) → e ≡ view.Alt ts → ⊥
  pub group : (t : Box Expr Global) → e ≡ view.Group t → ⊥
  pub look_around : (t : Box Expr Global) (how : LookAround) → e ≡ view.LookAround t how → ⊥
  pub atomic : (t : Box Expr Global) → e ≡ view.AtomicGroup t → ⊥

-- the copies of the tree are the same
abbrev IsSame : Tree → Type 0
IsSame t = relaxed t ≡ extended t

ast_layer : (x : AstNode-F Tree (ℕ → Tree) Tree) (position : ℕ) → IsSame (ast_tree x position)
unfolding extended relaxed
ast_layer (AstNode-F.AstGroup name t) position = refl
ast_layer (AstNode-F.AstNode::Backref goal casei level) position = refl
ast_layer (AstNode-F.AstNode::SubroutineCall goal) position = refl
ast_layer (AstNode-F.AstNode::BackrefExistsCondition goal level) position = refl

ast_same : (a : AstNode) (position : ℕ) → IsSame (ast_tree_of a position)
ast_same a position =
    let x = out-AstNode a in
    subst (λ z. IsSame (ast_tree_of z position)) (roll-out-AstNode a)
    (subst (λ t. IsSame (t position)) (sym (fold-roll-AstNode Tree (ℕ → Tree) Tree absent_tree ast_tree node_tree x)) (ast_layer _ position))

absent_layer : (x : Absent-F Tree (ℕ → Tree) Tree) → IsSame (absent_tree x)
unfolding extended relaxed
absent_layer (Absent-F.Repeater t) = refl
absent_layer (Absent-F.Expression a t) = refl
absent_layer (Absent-F.Stopper t) = refl
absent_layer Absent-F.Clear = refl

absent_same : (a : Absent) → IsSame (absent_tree_of a)
absent_same a =
    let x = out-Absent a in
    subst (λ z. IsSame (absent_tree_of z)) (roll-out-Absent a)
    (subst IsSame (sym (fold-roll-Absent Tree (ℕ → Tree) Tree absent_tree ast_tree node_tree x)) (absent_layer _))

rolled : (x : Expr-F Absent AstNode Expr) → NoEnd (roll-Expr x) → IsSame (tree_of (roll-Expr x))
unfolding extended relaxed
rolled (Expr-F.Concat ts) h = absurd (h.concat ts (view.rolls-Concat ts))
rolled (Expr-F.Alt ts) h = absurd (h.alt ts (view.rolls-Alt ts))
rolled (Expr-F.Group t) h = absurd (h.group t (view.rolls-Group t))
rolled (Expr-F.LookAround t how) h = absurd (h.look_around t how (view.rolls-LookAround t how))
rolled (Expr-F.AtomicGroup t) h = absurd (h.atomic t (view.rolls-AtomicGroup t))
rolled (Expr-F.Absent a) h = subst IsSame (sym (fold-roll-Expr Tree (ℕ → Tree) Tree absent_tree ast_tree node_tree (Expr-F.Absent a))) (absent_same a)
rolled (Expr-F.AstNode a position) h =
    subst IsSame (sym (fold-roll-Expr Tree (ℕ → Tree) Tree absent_tree ast_tree node_tree (Expr-F.AstNode a position))) (ast_same a position)
rolled x h = subst IsSame (sym (fold-roll-Expr Tree (ℕ → Tree) Tree absent_tree ast_tree node_tree x)) refl

pub same_copies : (e : Expr) → NoEnd e → relaxed (tree_of e) ≡ extended (tree_of e)
same_copies e h =
    let back = roll-out-Expr e in
    subst (λ b. IsSame (tree_of b)) back (rolled (out-Expr e) (subst NoEnd (sym back) h))
