-- Nodes of different kinds are not equal.
use Rattle.std.proofs.Common.{◌≡◌, ℕ, ℤ, Bool, true, false, Option, Box, Vec, String, Global, chars, string_bytes, refl, sym, ap, ◌∙◌, subst}
use Rattle.fancy_regex_tree.specs.declared.expr.Absent.{Absent}
use Rattle.fancy_regex_tree.specs.declared.expr.Absent.TheViews.{roll-Expr, roll-out-Expr, out-Expr}
use Rattle.fancy_regex_tree.specs.declared.expr.Absent.TheViews.{roll-out-Absent, out-Absent, roll-out-AstNode, out-AstNode}
use Rattle.fancy_regex_tree.specs.declared.expr.Absent.TheOpen.{Expr-F, Absent-F, AstNode-F}
use Rattle.fancy_regex_tree.specs.declared.expr.Absent.TheFolds.{fold-roll-Expr, fold-roll-Absent, fold-roll-AstNode}
use Rattle.fancy_regex_tree.specs.declared.expr.Assertion.{Assertion}
use Rattle.fancy_regex_tree.specs.declared.expr.AstNode.{AstNode}
use Rattle.fancy_regex_tree.specs.declared.expr.BacktrackingControlVerb.{BacktrackingControlVerb}
use Rattle.fancy_regex_tree.specs.declared.expr.Expr.{Expr}
use Rattle.fancy_regex_tree.specs.declared.expr.Expr.TheVariants as view
use Rattle.fancy_regex_tree.specs.declared.expr.LookAround.{LookAround}
use Rattle.fancy_regex_tree.specs.Tree as tree
use Rattle.fancy_regex_tree.specs.Tree.{Tree, absent_tree, ast_tree, node_tree, tree_of, absent_tree_of, ast_tree_of}
use Rattle.fancy_regex_tree.specs.Equal.{same_tree}
use Rattle.fancy_regex_tree.specs.EqualLaws.{tree_decides}
use Rattle.fancy_regex_tree.proofs.Children.{tree_of_concat, tree_of_alt, tree_of_group, tree_of_look_around}
use Rattle.fancy_regex_tree.proofs.Children.{tree_of_repeat, tree_of_atomic_group, tree_of_conditional, tree_of_define_group}

-- that a node is not an absent operator
abbrev IsNoAbsent : Expr → Type 0
IsNoAbsent e = (a : Absent) → e ≡ view.Absent a → ⊥

-- that a node is not an unresolved one
abbrev IsNoAst : Expr → Type 0
IsNoAst e = (a : AstNode) (position : ℕ) → e ≡ view.AstNode a position → ⊥

-- that a node is not of this tree's kind
abbrev pub IsOther : Expr → Tree → Type 0
IsOther e tree.empty = e ≡ view.Empty → ⊥
IsOther e (tree.any _ _) = (newline crlf : Bool) → e ≡ view.Any newline crlf → ⊥
IsOther e (tree.assertion _) = (a : Assertion) → e ≡ view.Assertion a → ⊥
IsOther e (tree.general_newline _) = (unicode : Bool) → e ≡ view.GeneralNewline unicode → ⊥
IsOther e (tree.literal _ _) = (val : String Global) (casei : Bool) → e ≡ view.Literal val casei → ⊥
IsOther e (tree.literal_bytes _) = (bytes : Vec ℕ Global) → e ≡ view.LiteralBytes bytes → ⊥
IsOther e (tree.concat _) = (es : Vec Expr Global) → e ≡ view.Concat es → ⊥
IsOther e (tree.alt _) = (es : Vec Expr Global) → e ≡ view.Alt es → ⊥
IsOther e (tree.group _) = (child : Box Expr Global) → e ≡ view.Group child → ⊥
IsOther e (tree.look_around _ _) = (child : Box Expr Global) (look : LookAround) → e ≡ view.LookAround child look → ⊥
IsOther e (tree.repeat _ _ _ _) = (child : Box Expr Global) (lo hi : ℕ) (greedy : Bool) → e ≡ view.Repeat child lo hi greedy → ⊥
IsOther e (tree.delegate _ _) = (inner : String Global) (casei : Bool) → e ≡ view.Delegate inner casei → ⊥
IsOther e (tree.backref _ _) = (k : ℕ) (casei : Bool) → e ≡ view.Backref k casei → ⊥
IsOther e (tree.backref_with_level _ _ _) = (k : ℕ) (level : ℤ) (casei : Bool) → e ≡ view.BackrefWithRelativeRecursionLevel k level casei → ⊥
IsOther e (tree.atomic_group _) = (child : Box Expr Global) → e ≡ view.AtomicGroup child → ⊥
IsOther e tree.keep_out = e ≡ view.KeepOut → ⊥
IsOther e tree.continue = e ≡ view.ContinueFromPreviousMatchEnd → ⊥
IsOther e (tree.backref_exists _ _) = (k : ℕ) (level : Option ℤ) → e ≡ view.BackrefExistsCondition k level → ⊥
IsOther e (tree.conditional _ _ _) = (c a b : Box Expr Global) → e ≡ view.Conditional c a b → ⊥
IsOther e (tree.subroutine_call _) = (k : ℕ) → e ≡ view.SubroutineCall k → ⊥
IsOther e (tree.verb _) = (v : BacktrackingControlVerb) → e ≡ view.BacktrackingControlVerb v → ⊥
IsOther e (tree.absent_repeater _) = IsNoAbsent e
IsOther e (tree.absent_expression _ _) = IsNoAbsent e
IsOther e (tree.absent_stopper _) = IsNoAbsent e
IsOther e tree.absent_clear = IsNoAbsent e
IsOther e (tree.define_group _) = (child : Box Expr Global) → e ≡ view.DefineGroup child → ⊥
IsOther e (tree.ast_group _ _ _) = IsNoAst e
IsOther e (tree.ast_backref _ _ _ _) = IsNoAst e
IsOther e (tree.ast_call _ _) = IsNoAst e
IsOther e (tree.ast_condition _ _ _) = IsNoAst e

absent_layer : (e : Expr) (x : Absent-F Tree (ℕ → Tree) Tree) → IsOther e (absent_tree x) → IsNoAbsent e
absent_layer e (Absent-F.Repeater t) h = h
absent_layer e (Absent-F.Expression a t) h = h
absent_layer e (Absent-F.Stopper t) h = h
absent_layer e Absent-F.Clear h = h

ast_layer : (e : Expr) (x : AstNode-F Tree (ℕ → Tree) Tree) (position : ℕ) → IsOther e (ast_tree x position) → IsNoAst e
ast_layer e (AstNode-F.AstGroup name t) position h = h
ast_layer e (AstNode-F.AstNode::Backref goal casei level) position h = h
ast_layer e (AstNode-F.AstNode::SubroutineCall goal) position h = h
ast_layer e (AstNode-F.AstNode::BackrefExistsCondition goal level) position h = h

absent_kind : (e : Expr) (a : Absent) → IsOther e (absent_tree_of a) → IsNoAbsent e
absent_kind e a h =
    let x = out-Absent a in
    absent_layer e _
    (subst (IsOther e) (fold-roll-Absent Tree (ℕ → Tree) Tree absent_tree ast_tree node_tree x)
    (subst (λ z. IsOther e (absent_tree_of z)) (sym (roll-out-Absent a)) h))

ast_kind : (e : Expr) (a : AstNode) (position : ℕ) → IsOther e (ast_tree_of a position) → IsNoAst e
ast_kind e a position h =
    let x = out-AstNode a in
    ast_layer e _ position
    (subst (λ t. IsOther e (t position)) (fold-roll-AstNode Tree (ℕ → Tree) Tree absent_tree ast_tree node_tree x)
    (subst (λ z. IsOther e (ast_tree_of z position)) (sym (roll-out-AstNode a)) h))

-- the trees of nodes, variant by variant; those with children are in Children
pub tree_of_empty : tree_of view.Empty ≡ tree.empty
tree_of_empty = ap tree_of (sym view.rolls-Empty) ∙ fold-roll-Expr Tree (ℕ → Tree) Tree absent_tree ast_tree node_tree Expr-F.Empty

pub tree_of_any : (newline crlf : Bool) → tree_of (view.Any newline crlf) ≡ tree.any newline crlf
tree_of_any newline crlf =
    ap tree_of (sym (view.rolls-Any newline crlf)) ∙ fold-roll-Expr Tree (ℕ → Tree) Tree absent_tree ast_tree node_tree (Expr-F.Any newline crlf)

pub tree_of_assertion : (a : Assertion) → tree_of (view.Assertion a) ≡ tree.assertion a
tree_of_assertion a =
    ap tree_of (sym (view.rolls-Assertion a)) ∙ fold-roll-Expr Tree (ℕ → Tree) Tree absent_tree ast_tree node_tree (Expr-F.Assertion a)

pub tree_of_general_newline : (unicode : Bool) → tree_of (view.GeneralNewline unicode) ≡ tree.general_newline unicode
tree_of_general_newline unicode =
    ap tree_of (sym (view.rolls-GeneralNewline unicode))
    ∙ fold-roll-Expr Tree (ℕ → Tree) Tree absent_tree ast_tree node_tree (Expr-F.GeneralNewline unicode)

pub tree_of_literal : (val : String Global) (casei : Bool) → tree_of (view.Literal val casei) ≡ tree.literal (chars (string_bytes val)) casei
tree_of_literal val casei =
    ap tree_of (sym (view.rolls-Literal val casei)) ∙ fold-roll-Expr Tree (ℕ → Tree) Tree absent_tree ast_tree node_tree (Expr-F.Literal val casei)

pub tree_of_literal_bytes : (bytes : Vec ℕ Global) → tree_of (view.LiteralBytes bytes) ≡ tree.literal_bytes bytes.items
tree_of_literal_bytes bytes =
    ap tree_of (sym (view.rolls-LiteralBytes bytes)) ∙ fold-roll-Expr Tree (ℕ → Tree) Tree absent_tree ast_tree node_tree (Expr-F.LiteralBytes bytes)

pub tree_of_delegate : (inner : String Global) (casei : Bool) → tree_of (view.Delegate inner casei) ≡ tree.delegate (chars (string_bytes inner)) casei
tree_of_delegate inner casei =
    ap tree_of (sym (view.rolls-Delegate inner casei))
    ∙ fold-roll-Expr Tree (ℕ → Tree) Tree absent_tree ast_tree node_tree (Expr-F.Delegate inner casei)

pub tree_of_backref : (k : ℕ) (casei : Bool) → tree_of (view.Backref k casei) ≡ tree.backref k casei
tree_of_backref k casei =
    ap tree_of (sym (view.rolls-Backref k casei)) ∙ fold-roll-Expr Tree (ℕ → Tree) Tree absent_tree ast_tree node_tree (Expr-F.Expr::Backref k casei)

pub tree_of_backref_with_level : (k : ℕ) (level : ℤ) (casei : Bool)
    → tree_of (view.BackrefWithRelativeRecursionLevel k level casei) ≡ tree.backref_with_level k level casei
tree_of_backref_with_level k level casei =
    ap tree_of (sym (view.rolls-BackrefWithRelativeRecursionLevel k level casei))
    ∙ fold-roll-Expr Tree (ℕ → Tree) Tree absent_tree ast_tree node_tree (Expr-F.BackrefWithRelativeRecursionLevel k level casei)

pub tree_of_keep_out : tree_of view.KeepOut ≡ tree.keep_out
tree_of_keep_out = ap tree_of (sym view.rolls-KeepOut) ∙ fold-roll-Expr Tree (ℕ → Tree) Tree absent_tree ast_tree node_tree Expr-F.KeepOut

pub tree_of_continue : tree_of view.ContinueFromPreviousMatchEnd ≡ tree.continue
tree_of_continue =
    ap tree_of (sym view.rolls-ContinueFromPreviousMatchEnd)
    ∙ fold-roll-Expr Tree (ℕ → Tree) Tree absent_tree ast_tree node_tree Expr-F.ContinueFromPreviousMatchEnd

pub tree_of_backref_exists : (k : ℕ) (level : Option ℤ) → tree_of (view.BackrefExistsCondition k level) ≡ tree.backref_exists k level
tree_of_backref_exists k level =
    ap tree_of (sym (view.rolls-BackrefExistsCondition k level))
    ∙ fold-roll-Expr Tree (ℕ → Tree) Tree absent_tree ast_tree node_tree (Expr-F.Expr::BackrefExistsCondition k level)

pub tree_of_subroutine_call : (k : ℕ) → tree_of (view.SubroutineCall k) ≡ tree.subroutine_call k
tree_of_subroutine_call k =
    ap tree_of (sym (view.rolls-SubroutineCall k))
    ∙ fold-roll-Expr Tree (ℕ → Tree) Tree absent_tree ast_tree node_tree (Expr-F.Expr::SubroutineCall k)

pub tree_of_verb : (v : BacktrackingControlVerb) → tree_of (view.BacktrackingControlVerb v) ≡ tree.verb v
tree_of_verb v =
    ap tree_of (sym (view.rolls-BacktrackingControlVerb v))
    ∙ fold-roll-Expr Tree (ℕ → Tree) Tree absent_tree ast_tree node_tree (Expr-F.BacktrackingControlVerb v)

tree_of_absent : (a : Absent) → tree_of (view.Absent a) ≡ absent_tree_of a
tree_of_absent a = ap tree_of (sym (view.rolls-Absent a)) ∙ fold-roll-Expr Tree (ℕ → Tree) Tree absent_tree ast_tree node_tree (Expr-F.Absent a)

tree_of_ast : (a : AstNode) (position : ℕ) → tree_of (view.AstNode a position) ≡ ast_tree_of a position
tree_of_ast a position =
    ap tree_of (sym (view.rolls-AstNode a position)) ∙ fold-roll-Expr Tree (ℕ → Tree) Tree absent_tree ast_tree node_tree (Expr-F.AstNode a position)

-- that a node is not of its tree's kind, for an equal node and a known tree
at : (e d : Expr) (t : Tree) → e ≡ d → tree_of d ≡ t → IsOther e (tree_of e) → IsOther d t
at e d t is tree h = subst (IsOther d) tree (subst (λ z. IsOther z (tree_of z)) is h)

-- the same for a node that is given by its layer
layer_is_own : (x : Expr-F Absent AstNode Expr) → IsOther (roll-Expr x) (tree_of (roll-Expr x)) → ⊥
layer_is_own Expr-F.Empty h = at _ _ _ view.rolls-Empty tree_of_empty h refl
layer_is_own (Expr-F.Any n c) h = at _ _ _ (view.rolls-Any n c) (tree_of_any n c) h n c refl
layer_is_own (Expr-F.Assertion a) h = at _ _ _ (view.rolls-Assertion a) (tree_of_assertion a) h a refl
layer_is_own (Expr-F.GeneralNewline u) h = at _ _ _ (view.rolls-GeneralNewline u) (tree_of_general_newline u) h u refl
layer_is_own (Expr-F.Literal v c) h = at _ _ _ (view.rolls-Literal v c) (tree_of_literal v c) h v c refl
layer_is_own (Expr-F.LiteralBytes v) h = at _ _ _ (view.rolls-LiteralBytes v) (tree_of_literal_bytes v) h v refl
layer_is_own (Expr-F.Concat v) h = at _ _ _ (view.rolls-Concat v) (tree_of_concat v) h v refl
layer_is_own (Expr-F.Alt v) h = at _ _ _ (view.rolls-Alt v) (tree_of_alt v) h v refl
layer_is_own (Expr-F.Group t) h = at _ _ _ (view.rolls-Group t) (tree_of_group t) h t refl
layer_is_own (Expr-F.LookAround t k) h = at _ _ _ (view.rolls-LookAround t k) (tree_of_look_around t k) h t k refl
layer_is_own (Expr-F.Repeat t lo hi g) h = at _ _ _ (view.rolls-Repeat t lo hi g) (tree_of_repeat t lo hi g) h t lo hi g refl
layer_is_own (Expr-F.Delegate v c) h = at _ _ _ (view.rolls-Delegate v c) (tree_of_delegate v c) h v c refl
layer_is_own (Expr-F.Expr::Backref k c) h = at _ _ _ (view.rolls-Backref k c) (tree_of_backref k c) h k c refl
layer_is_own (Expr-F.BackrefWithRelativeRecursionLevel k l c) h =
    at _ _ _ (view.rolls-BackrefWithRelativeRecursionLevel k l c) (tree_of_backref_with_level k l c) h k l c refl
layer_is_own (Expr-F.AtomicGroup t) h = at _ _ _ (view.rolls-AtomicGroup t) (tree_of_atomic_group t) h t refl
layer_is_own Expr-F.KeepOut h = at _ _ _ view.rolls-KeepOut tree_of_keep_out h refl
layer_is_own Expr-F.ContinueFromPreviousMatchEnd h = at _ _ _ view.rolls-ContinueFromPreviousMatchEnd tree_of_continue h refl
layer_is_own (Expr-F.Expr::BackrefExistsCondition k l) h = at _ _ _ (view.rolls-BackrefExistsCondition k l) (tree_of_backref_exists k l) h k l refl
layer_is_own (Expr-F.Conditional t a b) h = at _ _ _ (view.rolls-Conditional t a b) (tree_of_conditional t a b) h t a b refl
layer_is_own (Expr-F.Expr::SubroutineCall k) h = at _ _ _ (view.rolls-SubroutineCall k) (tree_of_subroutine_call k) h k refl
layer_is_own (Expr-F.BacktrackingControlVerb v) h = at _ _ _ (view.rolls-BacktrackingControlVerb v) (tree_of_verb v) h v refl
layer_is_own (Expr-F.Absent a) h = absent_kind _ a (at _ _ _ (view.rolls-Absent a) (tree_of_absent a) h) a refl
layer_is_own (Expr-F.DefineGroup t) h = at _ _ _ (view.rolls-DefineGroup t) (tree_of_define_group t) h t refl
layer_is_own (Expr-F.AstNode a p) h = ast_kind _ a p (at _ _ _ (view.rolls-AstNode a p) (tree_of_ast a p) h) a p refl

-- no node is of another kind than its tree
is_own : (e : Expr) → IsOther e (tree_of e) → ⊥
is_own e h = subst (λ z. IsOther z (tree_of z) → ⊥) (roll-out-Expr e) (layer_is_own (out-Expr e)) h

is_false : (b : Bool) → (b ≡ true → ⊥) → false ≡ b
is_false true h = absurd (h refl)
is_false false h = refl

-- a node whose kind is not that of the other is not equal
pub unequal : (a b : Expr) (t : Tree) → tree_of a ≡ t → IsOther b t → false ≡ same_tree (tree_of a) (tree_of b)
unequal a b t is h = is_false _ (λ same. is_own b (subst (IsOther b) (sym is ∙ (tree_decides (tree_of a) (tree_of b)).0 same) h))
