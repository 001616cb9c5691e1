-- A node that is neither a class nor one with children has no classes.
use Rattle.std.proofs.Common.{◌≡◌, ℕ, Bool, List, [], Box, Vec, String, Global, refl, sym, ap, ◌∙◌, subst}
use Rattle.fancy_regex_tree.specs.declared.expr.Absent.{Absent}
use Rattle.fancy_regex_tree.specs.declared.expr.Absent.TheViews.{roll-Expr, roll-out-Expr, out-Expr, roll-out-Absent, out-Absent, roll-out-AstNode, out-AstNode}
use Rattle.fancy_regex_tree.specs.declared.expr.Absent.TheOpen.{Expr-F, Absent-F, AstNode-F}
use Rattle.fancy_regex_tree.specs.declared.expr.Absent.TheFolds.{fold-roll-Expr, fold-roll-Absent, fold-roll-AstNode}
use Rattle.fancy_regex_tree.specs.declared.expr.AstNode.{AstNode}
use Rattle.fancy_regex_tree.specs.declared.expr.Expr.{Expr}
use Rattle.fancy_regex_tree.specs.declared.expr.Expr.TheVariants as view
use Rattle.fancy_regex_tree.specs.declared.expr.LookAround.{LookAround}
use Rattle.fancy_regex_tree.specs.Tree.{Tree, absent_tree, ast_tree, node_tree, tree_of, absent_tree_of, ast_tree_of}
use Rattle.fancy_regex_linear.specs.Plain.{classes}

-- none of those that have classes, or children that may have some
pub record NoClass (e : Expr) : Type 0 where
  pub delegate : (inner : String Global) (casei : Bool) → e ≡ view.Delegate inner casei → ⊥
  pub concat : (ts : Vec Expr Global) → e ≡ view.Concat ts → ⊥
  pub alt : (ts : Vec Expr Global) → e ≡ view.Alt ts → ⊥
  pub group : (t : Box Expr Global) → e ≡ view.Group t → ⊥
  pub look_around : (t : Box Expr Global) (how : LookAround) → e ≡ view.LookAround t how → ⊥
  pub repeat : (t : Box Expr Global) (lo hi : ℕ) (greedy : Bool) → e ≡ view.Repeat t lo hi greedy → ⊥
  pub atomic : (t : Box Expr Global) → e ≡ view.AtomicGroup t → ⊥
  pub conditional : (c a b : Box Expr Global) → e ≡ view.Conditional c a b → ⊥

ast_layer : (x : AstNode-F Tree (ℕ → Tree) Tree) (position : ℕ) → classes (ast_tree x position) ≡ []
unfolding classes
ast_layer (AstNode-F.AstGroup name t) position = refl
ast_layer (AstNode-F.AstNode::Backref goal casei level) position = refl
ast_layer (AstNode-F.AstNode::SubroutineCall goal) position = refl
ast_layer (AstNode-F.AstNode::BackrefExistsCondition goal level) position = refl

ast_none : (a : AstNode) (position : ℕ) → classes (ast_tree_of a position) ≡ []
ast_none a position =
    let x = out-AstNode a in
    subst (λ z. classes (ast_tree_of z position) ≡ []) (roll-out-AstNode a)
    (subst (λ t. classes (t position) ≡ []) (sym (fold-roll-AstNode Tree (ℕ → Tree) Tree absent_tree ast_tree node_tree x)) (ast_layer _ position))

absent_layer : (x : Absent-F Tree (ℕ → Tree) Tree) → classes (absent_tree x) ≡ []
unfolding classes
absent_layer (Absent-F.Repeater t) = refl
absent_layer (Absent-F.Expression a t) = refl
absent_layer (Absent-F.Stopper t) = refl
absent_layer Absent-F.Clear = refl

absent_none : (a : Absent) → classes (absent_tree_of a) ≡ []
absent_none a =
    let x = out-Absent a in
    subst (λ z. classes (absent_tree_of z) ≡ []) (roll-out-Absent a)
    (subst (λ t. classes t ≡ []) (sym (fold-roll-Absent Tree (ℕ → Tree) Tree absent_tree ast_tree node_tree x)) (absent_layer _))

rolled : (x : Expr-F Absent AstNode Expr) → NoClass (roll-Expr x) → classes (tree_of (roll-Expr x)) ≡ []
unfolding classes
rolled (Expr-F.Delegate inner casei) h = absurd (h.delegate inner casei (view.rolls-Delegate inner casei))
rolled (Expr-F.Concat ts) h = absurd (h.concat ts (view.rolls-Concat ts))
rolled (Expr-F.Alt ts) h = absurd (h.alt ts (view.rolls-Alt ts))
rolled (Expr-F.Group t) h = absurd (h.group t (view.rolls-Group t))
rolled (Expr-F.LookAround t how) h = absurd (h.look_around t how (view.rolls-LookAround t how))
rolled (Expr-F.Repeat t lo hi greedy) h = absurd (h.repeat t lo hi greedy (view.rolls-Repeat t lo hi greedy))
rolled (Expr-F.AtomicGroup t) h = absurd (h.atomic t (view.rolls-AtomicGroup t))
rolled (Expr-F.Conditional c a b) h = absurd (h.conditional c a b (view.rolls-Conditional c a b))
rolled (Expr-F.Absent a) h = ap classes (fold-roll-Expr Tree (ℕ → Tree) Tree absent_tree ast_tree node_tree (Expr-F.Absent a)) ∙ absent_none a
rolled (Expr-F.AstNode a position) h = ap classes (fold-roll-Expr Tree (ℕ → Tree) Tree absent_tree ast_tree node_tree (Expr-F.AstNode a position)) ∙ ast_none a position
rolled x h = ap classes (fold-roll-Expr Tree (ℕ → Tree) Tree absent_tree ast_tree node_tree x)

pub no_classes : (e : Expr) → NoClass e → classes (tree_of e) ≡ []
no_classes e h =
    let back = roll-out-Expr e in
    subst (λ b. classes (tree_of b) ≡ []) back (rolled (out-Expr e) (subst NoClass (sym back) h))
