-- A node of none of these kinds is one of the others.
use Rattle.std.proofs.Common.{◌≡◌, ℕ, ℤ, Bool, true, false, Option, Box, Vec, String, Global, refl, sym, ap, ◌∙◌, subst}
use Rattle.fancy_regex_tree.specs.declared.expr.Absent.{Absent}
use Rattle.fancy_regex_tree.specs.declared.expr.Absent.TheViews.{roll-Expr, roll-out-Expr, out-Expr, roll-out-Absent, out-Absent, roll-out-AstNode, out-AstNode}
use Rattle.fancy_regex_tree.specs.declared.expr.Absent.TheOpen.{Expr-F, Absent-F, AstNode-F}
use Rattle.fancy_regex_tree.specs.declared.expr.Absent.TheFolds.{fold-roll-Expr, fold-roll-Absent, fold-roll-AstNode}
use Rattle.fancy_regex_tree.specs.declared.expr.Assertion.{Assertion}
use Rattle.fancy_regex_tree.specs.declared.expr.AstNode.{AstNode}
use Rattle.fancy_regex_tree.specs.declared.expr.BacktrackingControlVerb.{BacktrackingControlVerb}
use Rattle.fancy_regex_tree.specs.declared.expr.Expr.{Expr}
use Rattle.fancy_regex_tree.specs.declared.expr.Expr.TheVariants as view
use Rattle.fancy_regex_tree.specs.declared.expr.LookAround.{LookAround}
use Rattle.fancy_regex_tree.specs.Tree.{Tree, absent_tree, ast_tree, node_tree, tree_of, absent_tree_of, ast_tree_of}
use Rattle.fancy_regex_analysis.specs.NodeErrors.{is_invalid_node}
use Rattle.fancy_regex_compiler.specs.Refusals.{is_single, is_leaf}

never : (P : Type 0) → true ≡ false → P
never P h = absurd (let wrong : true ≡ false = h in cc)

-- none of those with one instruction
pub record NoSingle (e : Expr) : Type 0 where
  pub any : (newline crlf : Bool) → e ≡ view.Any newline crlf → ⊥
  pub assertion : (a : Assertion) → e ≡ view.Assertion a → ⊥
  pub newline : (unicode : Bool) → e ≡ view.GeneralNewline unicode → ⊥
  pub bytes : (bytes : Vec ℕ Global) → e ≡ view.LiteralBytes bytes → ⊥
  pub delegate : (inner : String Global) (casei : Bool) → e ≡ view.Delegate inner casei → ⊥
  pub backref : (k : ℕ) (casei : Bool) → e ≡ view.Backref k casei → ⊥
  pub level : (k : ℕ) (level : ℤ) (casei : Bool) → e ≡ view.BackrefWithRelativeRecursionLevel k level casei → ⊥
  pub continue : e ≡ view.ContinueFromPreviousMatchEnd → ⊥
  pub exists : (k : ℕ) (level : Option ℤ) → e ≡ view.BackrefExistsCondition k level → ⊥
  pub verb : (v : BacktrackingControlVerb) → e ≡ view.BacktrackingControlVerb v → ⊥

-- none of those that are written out by their parts, or as nothing
pub record NoParts (e : Expr) : Type 0 where
  pub empty : e ≡ view.Empty → ⊥
  pub concat : (ts : Vec Expr Global) → e ≡ view.Concat ts → ⊥
  pub alt : (ts : Vec Expr Global) → e ≡ view.Alt ts → ⊥
  pub group : (t : Box Expr Global) → e ≡ view.Group t → ⊥
  pub look_around : (t : Box Expr Global) (how : LookAround) → e ≡ view.LookAround t how → ⊥
  pub repeat : (t : Box Expr Global) (lo hi : ℕ) (greedy : Bool) → e ≡ view.Repeat t lo hi greedy → ⊥
  pub atomic : (t : Box Expr Global) → e ≡ view.AtomicGroup t → ⊥
  pub conditional : (c a b : Box Expr Global) → e ≡ view.Conditional c a b → ⊥
  pub call : (k : ℕ) → e ≡ view.SubroutineCall k → ⊥
  pub absent : (a : Absent) → e ≡ view.Absent a → ⊥
  pub define : (t : Box Expr Global) → e ≡ view.DefineGroup t → ⊥

-- what a test says of every node that is not resolved, or of every absent operator
module _ (f : Tree → Bool) (b : Bool) where
  ast_all : ((x : AstNode-F Tree (ℕ → Tree) Tree) (position : ℕ) → f (ast_tree x position) ≡ b) → (a : AstNode) (position : ℕ) → f (ast_tree_of a position) ≡ b
  ast_all each a position =
      let x = out-AstNode a in
      subst (λ z. f (ast_tree_of z position) ≡ b) (roll-out-AstNode a)
      (subst (λ t. f (t position) ≡ b) (sym (fold-roll-AstNode Tree (ℕ → Tree) Tree absent_tree ast_tree node_tree x)) (each _ position))

  absent_all : ((x : Absent-F Tree (ℕ → Tree) Tree) → f (absent_tree x) ≡ b) → (a : Absent) → f (absent_tree_of a) ≡ b
  absent_all each a =
      let x = out-Absent a in
      subst (λ z. f (absent_tree_of z) ≡ b) (roll-out-Absent a)
      (subst (λ t. f t ≡ b) (sym (fold-roll-Absent Tree (ℕ → Tree) Tree absent_tree ast_tree node_tree x)) (each _))

ast_single_layer : (x : AstNode-F Tree (ℕ → Tree) Tree) (position : ℕ) → is_single (ast_tree x position) ≡ false
ast_single_layer (AstNode-F.AstGroup name t) position = refl
ast_single_layer (AstNode-F.AstNode::Backref goal casei level) position = refl
ast_single_layer (AstNode-F.AstNode::SubroutineCall goal) position = refl
ast_single_layer (AstNode-F.AstNode::BackrefExistsCondition goal level) position = refl

ast_single : (a : AstNode) (position : ℕ) → is_single (ast_tree_of a position) ≡ false
ast_single = ast_all is_single false ast_single_layer

ast_leaf_layer : (x : AstNode-F Tree (ℕ → Tree) Tree) (position : ℕ) → is_leaf (ast_tree x position) ≡ false
ast_leaf_layer (AstNode-F.AstGroup name t) position = refl
ast_leaf_layer (AstNode-F.AstNode::Backref goal casei level) position = refl
ast_leaf_layer (AstNode-F.AstNode::SubroutineCall goal) position = refl
ast_leaf_layer (AstNode-F.AstNode::BackrefExistsCondition goal level) position = refl

ast_leaf : (a : AstNode) (position : ℕ) → is_leaf (ast_tree_of a position) ≡ false
ast_leaf = ast_all is_leaf false ast_leaf_layer

ast_faulty_layer : (count : ℕ) (x : AstNode-F Tree (ℕ → Tree) Tree) (position : ℕ) → is_invalid_node count (ast_tree x position) ≡ true
ast_faulty_layer count (AstNode-F.AstGroup name t) position = refl
ast_faulty_layer count (AstNode-F.AstNode::Backref goal casei level) position = refl
ast_faulty_layer count (AstNode-F.AstNode::SubroutineCall goal) position = refl
ast_faulty_layer count (AstNode-F.AstNode::BackrefExistsCondition goal level) position = refl

ast_faulty : (count : ℕ) (a : AstNode) (position : ℕ) → is_invalid_node count (ast_tree_of a position) ≡ true
ast_faulty count = ast_all (is_invalid_node count) true (ast_faulty_layer count)

absent_single_layer : (x : Absent-F Tree (ℕ → Tree) Tree) → is_single (absent_tree x) ≡ false
absent_single_layer (Absent-F.Repeater t) = refl
absent_single_layer (Absent-F.Expression a t) = refl
absent_single_layer (Absent-F.Stopper t) = refl
absent_single_layer Absent-F.Clear = refl

absent_single : (a : Absent) → is_single (absent_tree_of a) ≡ false
absent_single = absent_all is_single false absent_single_layer

absent_leaf_layer : (x : Absent-F Tree (ℕ → Tree) Tree) → is_leaf (absent_tree x) ≡ false
absent_leaf_layer (Absent-F.Repeater t) = refl
absent_leaf_layer (Absent-F.Expression a t) = refl
absent_leaf_layer (Absent-F.Stopper t) = refl
absent_leaf_layer Absent-F.Clear = refl

absent_leaf : (a : Absent) → is_leaf (absent_tree_of a) ≡ false
absent_leaf = absent_all is_leaf false absent_leaf_layer

single_rolled : (x : Expr-F Absent AstNode Expr) → NoSingle (roll-Expr x) → is_single (tree_of (roll-Expr x)) ≡ false
single_rolled (Expr-F.Any newline crlf) h = absurd (h.any newline crlf (view.rolls-Any newline crlf))
single_rolled (Expr-F.Assertion a) h = absurd (h.assertion a (view.rolls-Assertion a))
single_rolled (Expr-F.GeneralNewline unicode) h = absurd (h.newline unicode (view.rolls-GeneralNewline unicode))
single_rolled (Expr-F.LiteralBytes bytes) h = absurd (h.bytes bytes (view.rolls-LiteralBytes bytes))
single_rolled (Expr-F.Delegate inner casei) h = absurd (h.delegate inner casei (view.rolls-Delegate inner casei))
single_rolled (Expr-F.Expr::Backref k casei) h = absurd (h.backref k casei (view.rolls-Backref k casei))
single_rolled (Expr-F.BackrefWithRelativeRecursionLevel k level casei) h = absurd (h.level k level casei (view.rolls-BackrefWithRelativeRecursionLevel k level casei))
single_rolled Expr-F.ContinueFromPreviousMatchEnd h = absurd (h.continue view.rolls-ContinueFromPreviousMatchEnd)
single_rolled (Expr-F.Expr::BackrefExistsCondition k level) h = absurd (h.exists k level (view.rolls-BackrefExistsCondition k level))
single_rolled (Expr-F.BacktrackingControlVerb v) h = absurd (h.verb v (view.rolls-BacktrackingControlVerb v))
single_rolled (Expr-F.Absent a) h = ap is_single (fold-roll-Expr Tree (ℕ → Tree) Tree absent_tree ast_tree node_tree (Expr-F.Absent a)) ∙ absent_single a
single_rolled (Expr-F.AstNode a position) h = ap is_single (fold-roll-Expr Tree (ℕ → Tree) Tree absent_tree ast_tree node_tree (Expr-F.AstNode a position)) ∙ ast_single a position
single_rolled x h = ap is_single (fold-roll-Expr Tree (ℕ → Tree) Tree absent_tree ast_tree node_tree x)

pub no_single : (e : Expr) → NoSingle e → is_single (tree_of e) ≡ false
no_single e h =
    let back = roll-out-Expr e in
    subst (λ b. is_single (tree_of b) ≡ false) back (single_rolled (out-Expr e) (subst NoSingle (sym back) h))

-- neither a literal nor a start
pub record NoText (e : Expr) : Type 0 where
  pub literal : (val : String Global) (casei : Bool) → e ≡ view.Literal val casei → ⊥
  pub keep : e ≡ view.KeepOut → ⊥

leaf_rolled : (x : Expr-F Absent AstNode Expr) → NoText (roll-Expr x) → is_leaf (tree_of (roll-Expr x)) ≡ is_single (tree_of (roll-Expr x))
leaf_rolled (Expr-F.Literal val casei) h = absurd (h.literal val casei (view.rolls-Literal val casei))
leaf_rolled Expr-F.KeepOut h = absurd (h.keep view.rolls-KeepOut)
leaf_rolled (Expr-F.Absent a) h =
    let same = fold-roll-Expr Tree (ℕ → Tree) Tree absent_tree ast_tree node_tree (Expr-F.Absent a) in
    ap is_leaf same ∙ absent_leaf a ∙ sym (ap is_single same ∙ absent_single a)
leaf_rolled (Expr-F.AstNode a position) h =
    let same = fold-roll-Expr Tree (ℕ → Tree) Tree absent_tree ast_tree node_tree (Expr-F.AstNode a position) in
    ap is_leaf same ∙ ast_leaf a position ∙ sym (ap is_single same ∙ ast_single a position)
leaf_rolled x h = ap is_leaf (fold-roll-Expr Tree (ℕ → Tree) Tree absent_tree ast_tree node_tree x) ∙ sym (ap is_single (fold-roll-Expr Tree (ℕ → Tree) Tree absent_tree ast_tree node_tree x))

pub no_leaf : (e : Expr) → NoText e → is_single (tree_of e) ≡ false → is_leaf (tree_of e) ≡ false
no_leaf e h none =
    let back = roll-out-Expr e in
    subst (λ b. is_leaf (tree_of b) ≡ is_single (tree_of b)) back (leaf_rolled (out-Expr e) (subst NoText (sym back) h)) ∙ none

module _ (count : ℕ) where
  faulty_rolled : (x : Expr-F Absent AstNode Expr) → NoParts (roll-Expr x) → is_leaf (tree_of (roll-Expr x)) ≡ false → is_invalid_node count (tree_of (roll-Expr x)) ≡ true
  faulty_rolled Expr-F.Empty h none = absurd (h.empty view.rolls-Empty)
  faulty_rolled (Expr-F.Concat ts) h none = absurd (h.concat ts (view.rolls-Concat ts))
  faulty_rolled (Expr-F.Alt ts) h none = absurd (h.alt ts (view.rolls-Alt ts))
  faulty_rolled (Expr-F.Group t) h none = absurd (h.group t (view.rolls-Group t))
  faulty_rolled (Expr-F.LookAround t how) h none = absurd (h.look_around t how (view.rolls-LookAround t how))
  faulty_rolled (Expr-F.Repeat t lo hi greedy) h none = absurd (h.repeat t lo hi greedy (view.rolls-Repeat t lo hi greedy))
  faulty_rolled (Expr-F.AtomicGroup t) h none = absurd (h.atomic t (view.rolls-AtomicGroup t))
  faulty_rolled (Expr-F.Conditional c a b) h none = absurd (h.conditional c a b (view.rolls-Conditional c a b))
  faulty_rolled (Expr-F.Expr::SubroutineCall k) h none = absurd (h.call k (view.rolls-SubroutineCall k))
  faulty_rolled (Expr-F.Absent a) h none = absurd (h.absent a (view.rolls-Absent a))
  faulty_rolled (Expr-F.DefineGroup t) h none = absurd (h.define t (view.rolls-DefineGroup t))
  faulty_rolled (Expr-F.AstNode a position) h none = ap (is_invalid_node count) (fold-roll-Expr Tree (ℕ → Tree) Tree absent_tree ast_tree node_tree (Expr-F.AstNode a position)) ∙ ast_faulty count a position
  faulty_rolled x h none = never _ (sym (ap is_leaf (fold-roll-Expr Tree (ℕ → Tree) Tree absent_tree ast_tree node_tree x)) ∙ none)

  pub faulty : (e : Expr) → NoParts e → is_leaf (tree_of e) ≡ false → is_invalid_node count (tree_of e) ≡ true
  faulty e h none =
      let back = roll-out-Expr e in
      subst (λ b. is_leaf (tree_of b) ≡ false → is_invalid_node count (tree_of b) ≡ true) back (faulty_rolled (out-Expr e) (subst NoParts (sym back) h)) none
