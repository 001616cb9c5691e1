-- The syntax tree as a mathematical value: an `Expr` without its memory, with texts as lists of characters.
use Rattle.std.specs.Prelude.{ℕ, ℤ, Bool, List, [], ◌∷◌, Option, option_map, string_bytes, chars}
use Rattle.fancy_regex_tree.specs.declared.expr.Assertion.{Assertion}
use Rattle.fancy_regex_tree.specs.declared.expr.LookAround.{LookAround}
use Rattle.fancy_regex_tree.specs.declared.expr.BacktrackingControlVerb.{BacktrackingControlVerb}
use Rattle.fancy_regex_tree.specs.declared.expr.CaptureGroupTarget.{CaptureGroupTarget}
use Rattle.fancy_regex_tree.specs.declared.expr.CaptureGroupTarget.TheVariants.{ByNumber, ByName, Relative}
use Rattle.fancy_regex_tree.specs.declared.expr.Expr.{Expr, fold-Expr}
use Rattle.fancy_regex_tree.specs.declared.expr.Absent.{Absent, fold-Absent}
use Rattle.fancy_regex_tree.specs.declared.expr.AstNode.{AstNode, fold-AstNode}
use Rattle.fancy_regex_tree.specs.declared.expr.Absent.TheOpen.{Expr-F, Absent-F, AstNode-F}

-- characters
abbrev pub Text : Type 0
Text = List ℕ

-- the capture group that a reference names
pub data Target : Type 0 where
  by_number : ℕ → Target
  by_name : Text → Target
  relative : ℤ → Target

-- A capturing group bears no number: it is the rank of its opening among those of the whole tree.
mutual
  pub data Tree : Type 0 where
    empty : Tree
    -- newline, crlf
    any : Bool → Bool → Tree
    assertion : Assertion → Tree
    -- unicode
    general_newline : Bool → Tree
    -- val, casei
    literal : Text → Bool → Tree
    literal_bytes : List ℕ → Tree
    concat : Trees → Tree
    alt : Trees → Tree
    group : Tree → Tree
    look_around : Tree → LookAround → Tree
    -- child, lo, hi (2 ^ 64 - 1 is no bound), greedy
    repeat : Tree → ℕ → ℕ → Bool → Tree
    -- inner, casei
    delegate : Text → Bool → Tree
    -- group, casei
    backref : ℕ → Bool → Tree
    -- group, relative_level, casei
    backref_with_level : ℕ → ℤ → Bool → Tree
    atomic_group : Tree → Tree
    keep_out : Tree
    continue : Tree
    -- group, relative_recursion_level
    backref_exists : ℕ → Option ℤ → Tree
    -- condition, true_branch, false_branch
    conditional : Tree → Tree → Tree → Tree
    subroutine_call : ℕ → Tree
    verb : BacktrackingControlVerb → Tree
    absent_repeater : Tree → Tree
    -- absent, exp
    absent_expression : Tree → Tree → Tree
    absent_stopper : Tree → Tree
    absent_clear : Tree
    define_group : Tree → Tree
    -- unresolved nodes; the last field is the byte offset in the pattern
    -- name, inner
    ast_group : Option Text → Tree → ℕ → Tree
    -- target, casei, relative_recursion_level
    ast_backref : Target → Bool → Option ℤ → ℕ → Tree
    ast_call : Target → ℕ → Tree
    -- target, relative_recursion_level
    ast_condition : Target → Option ℤ → ℕ → Tree

  pub data Trees : Type 0 where
    no_trees : Trees
    more_trees : Tree → Trees → Trees

abbrev pub trees : List Tree → Trees
trees [] = no_trees
trees (t ∷ ts) = more_trees t (trees ts)

abbrev pub target_of : CaptureGroupTarget → Target
target_of (ByNumber n) = by_number n
target_of (ByName s) = by_name (chars (string_bytes s))
target_of (Relative z) = relative z

-- one level of nodes, where each child is its tree already
abbrev pub absent_tree : Absent-F Tree (ℕ → Tree) Tree → Tree
absent_tree (Absent-F.Repeater t) = absent_repeater t.value
absent_tree (Absent-F.Expression absent exp) = absent_expression absent.value exp.value
absent_tree (Absent-F.Stopper t) = absent_stopper t.value
absent_tree Absent-F.Clear = absent_clear

abbrev pub ast_tree : AstNode-F Tree (ℕ → Tree) Tree → ℕ → Tree
ast_tree (AstNode-F.AstGroup name inner) position = ast_group (option_map (λ s. chars (string_bytes s)) name) inner.value position
ast_tree (AstNode-F.AstNode::Backref target casei level) position = ast_backref (target_of target) casei level position
ast_tree (AstNode-F.AstNode::SubroutineCall target) position = ast_call (target_of target) position
ast_tree (AstNode-F.AstNode::BackrefExistsCondition target level) position = ast_condition (target_of target) level position

abbrev pub node_tree : Expr-F Tree (ℕ → Tree) Tree → Tree
node_tree Expr-F.Empty = empty
node_tree (Expr-F.Any newline crlf) = any newline crlf
node_tree (Expr-F.Assertion a) = assertion a
node_tree (Expr-F.GeneralNewline unicode) = general_newline unicode
node_tree (Expr-F.Literal val casei) = literal (chars (string_bytes val)) casei
node_tree (Expr-F.LiteralBytes bytes) = literal_bytes bytes.items
node_tree (Expr-F.Concat ts) = concat (trees ts.items)
node_tree (Expr-F.Alt ts) = alt (trees ts.items)
node_tree (Expr-F.Group t) = group t.value
node_tree (Expr-F.LookAround t look) = look_around t.value look
node_tree (Expr-F.Repeat t lo hi greedy) = repeat t.value lo hi greedy
node_tree (Expr-F.Delegate inner casei) = delegate (chars (string_bytes inner)) casei
node_tree (Expr-F.Expr::Backref number casei) = backref number casei
node_tree (Expr-F.BackrefWithRelativeRecursionLevel number level casei) = backref_with_level number level casei
node_tree (Expr-F.AtomicGroup t) = atomic_group t.value
node_tree Expr-F.KeepOut = keep_out
node_tree Expr-F.ContinueFromPreviousMatchEnd = continue
node_tree (Expr-F.Expr::BackrefExistsCondition number level) = backref_exists number level
node_tree (Expr-F.Conditional condition true_branch false_branch) = conditional condition.value true_branch.value false_branch.value
node_tree (Expr-F.Expr::SubroutineCall number) = subroutine_call number
node_tree (Expr-F.BacktrackingControlVerb v) = verb v
node_tree (Expr-F.Absent t) = t
node_tree (Expr-F.DefineGroup t) = define_group t.value
node_tree (Expr-F.AstNode t position) = t position

abbrev pub tree_of : Expr → Tree
tree_of = fold-Expr Tree (ℕ → Tree) Tree absent_tree ast_tree node_tree

abbrev pub absent_tree_of : Absent → Tree
absent_tree_of = fold-Absent Tree (ℕ → Tree) Tree absent_tree ast_tree node_tree

abbrev pub ast_tree_of : AstNode → ℕ → Tree
ast_tree_of = fold-AstNode Tree (ℕ → Tree) Tree absent_tree ast_tree node_tree
