-- Of a look-behind: what is one part whatever its branches are, and how long a regular tree is.
use Rattle.std.proofs.Common.{◌≡◌, ℕ, Bool, true, refl, sym, ◌∙◌, subst, Vec, Global}
use Rattle.fancy_regex_tree.specs.declared.expr.Absent.{Absent}
use Rattle.fancy_regex_tree.specs.declared.expr.Absent.TheViews.{roll-Expr, roll-out-Expr, out-Expr, roll-out-Absent, out-Absent, roll-out-AstNode, out-AstNode}
use Rattle.fancy_regex_tree.specs.declared.expr.Absent.TheOpen.{Expr-F, Absent-F, AstNode-F}
use Rattle.fancy_regex_tree.specs.declared.expr.Absent.TheFolds.{fold-roll-Expr, fold-roll-Absent, fold-roll-AstNode}
use Rattle.fancy_regex_tree.specs.declared.expr.AstNode.{AstNode}
use Rattle.fancy_regex_tree.specs.declared.expr.Expr.{Expr}
use Rattle.fancy_regex_tree.specs.declared.expr.Expr.TheVariants as view
use Rattle.fancy_regex_tree.specs.Tree.{Tree, absent_tree, ast_tree, node_tree, tree_of, absent_tree_of, ast_tree_of, alt}

-- a look-behind over the tree steps back once: it is no alternation, or its branches are equally long
abbrev pub IsOnePart : Bool → Tree → Type 0
IsOnePart always (alt ts) = always ≡ true
IsOnePart always _ = Unit {0}

ast_layer : (always : Bool) (x : AstNode-F Tree (ℕ → Tree) Tree) (position : ℕ) → IsOnePart always (ast_tree x position)
ast_layer always (AstNode-F.AstGroup name t) position = tt
ast_layer always (AstNode-F.AstNode::Backref goal casei level) position = tt
ast_layer always (AstNode-F.AstNode::SubroutineCall goal) position = tt
ast_layer always (AstNode-F.AstNode::BackrefExistsCondition goal level) position = tt

ast_part : (always : Bool) (a : AstNode) (position : ℕ) → IsOnePart always (ast_tree_of a position)
ast_part always a position =
    let x = out-AstNode a in
    subst (λ z. IsOnePart always (ast_tree_of z position)) (roll-out-AstNode a)
    (subst (λ t. IsOnePart always (t position)) (sym (fold-roll-AstNode Tree (ℕ → Tree) Tree absent_tree ast_tree node_tree x)) (ast_layer always _ position))

absent_layer : (always : Bool) (x : Absent-F Tree (ℕ → Tree) Tree) → IsOnePart always (absent_tree x)
absent_layer always (Absent-F.Repeater t) = tt
absent_layer always (Absent-F.Expression a t) = tt
absent_layer always (Absent-F.Stopper t) = tt
absent_layer always Absent-F.Clear = tt

absent_part : (always : Bool) (a : Absent) → IsOnePart always (absent_tree_of a)
absent_part always a =
    let x = out-Absent a in
    subst (λ z. IsOnePart always (absent_tree_of z)) (roll-out-Absent a)
    (subst (λ t. IsOnePart always t) (sym (fold-roll-Absent Tree (ℕ → Tree) Tree absent_tree ast_tree node_tree x)) (absent_layer always _))

rolled : (always : Bool) (x : Expr-F Absent AstNode Expr) → ((ts : Vec Expr Global) → roll-Expr x ≡ view.Alt ts → ⊥) → IsOnePart always (tree_of (roll-Expr x))
rolled always (Expr-F.Alt ts) h = absurd (h ts (view.rolls-Alt ts))
rolled always (Expr-F.Absent a) h =
    subst (IsOnePart always) (sym (fold-roll-Expr Tree (ℕ → Tree) Tree absent_tree ast_tree node_tree (Expr-F.Absent a))) (absent_part always a)
rolled always (Expr-F.AstNode a position) h =
    subst (IsOnePart always) (sym (fold-roll-Expr Tree (ℕ → Tree) Tree absent_tree ast_tree node_tree (Expr-F.AstNode a position))) (ast_part always a position)
rolled always x h = subst (IsOnePart always) (sym (fold-roll-Expr Tree (ℕ → Tree) Tree absent_tree ast_tree node_tree x)) tt

pub other_part : (always : Bool) (e : Expr) → ((ts : Vec Expr Global) → e ≡ view.Alt ts → ⊥) → IsOnePart always (tree_of e)
other_part always e h =
    subst (λ z. IsOnePart always (tree_of z)) (roll-out-Expr e) (rolled always (out-Expr e) (λ ts same. h ts (sym (roll-out-Expr e) ∙ same)))

pub long_part : (t : Tree) → IsOnePart true t
long_part (alt ts) = refl
long_part _ = tt
