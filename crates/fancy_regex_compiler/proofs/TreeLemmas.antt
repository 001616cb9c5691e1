-- What each kind of node is in mathematics.
use Rattle.std.proofs.Common.{◌≡◌, ℕ, ℤ, Bool, Option, map, Box, Vec, String, Global, ap, sym, ◌∙◌}
use Rattle.std.specs.Prelude.{chars, string_bytes}
use Rattle.fancy_regex_tree.specs.declared.expr.Absent.{Absent}
use Rattle.fancy_regex_tree.specs.declared.expr.Assertion.{Assertion}
use Rattle.fancy_regex_tree.specs.declared.expr.BacktrackingControlVerb.{BacktrackingControlVerb}
use Rattle.fancy_regex_tree.specs.declared.expr.Expr.{Expr}
use Rattle.fancy_regex_tree.specs.declared.expr.LookAround.{LookAround}
use Rattle.fancy_regex_tree.specs.declared.expr.Expr.TheVariants as view
use Rattle.fancy_regex_tree.specs.declared.expr.Absent.TheVariants as absent
use Rattle.fancy_regex_tree.specs.declared.expr.Absent.TheOpen.{Expr-F, Absent-F}
use Rattle.fancy_regex_tree.specs.declared.expr.Absent.TheFolds.{fold-roll-Expr, fold-roll-Absent}
use Rattle.fancy_regex_tree.specs.Tree as tree
use Rattle.fancy_regex_tree.specs.Tree.{Tree, absent_tree, ast_tree, node_tree, tree_of, absent_tree_of, trees}

pub tree_concat : (ts : Vec Expr Global) → tree_of (view.Concat ts) ≡ tree.concat (trees (map tree_of ts.items))
tree_concat ts = ap tree_of (sym (view.rolls-Concat ts)) ∙ fold-roll-Expr Tree (ℕ → Tree) Tree absent_tree ast_tree node_tree (Expr-F.Concat ts)

pub tree_alt : (ts : Vec Expr Global) → tree_of (view.Alt ts) ≡ tree.alt (trees (map tree_of ts.items))
tree_alt ts = ap tree_of (sym (view.rolls-Alt ts)) ∙ fold-roll-Expr Tree (ℕ → Tree) Tree absent_tree ast_tree node_tree (Expr-F.Alt ts)

pub tree_group : (t : Box Expr Global) → tree_of (view.Group t) ≡ tree.group (tree_of t.value)
tree_group t = ap tree_of (sym (view.rolls-Group t)) ∙ fold-roll-Expr Tree (ℕ → Tree) Tree absent_tree ast_tree node_tree (Expr-F.Group t)

pub tree_look_around : (t : Box Expr Global) (how : LookAround) → tree_of (view.LookAround t how) ≡ tree.look_around (tree_of t.value) how
tree_look_around t how = ap tree_of (sym (view.rolls-LookAround t how)) ∙ fold-roll-Expr Tree (ℕ → Tree) Tree absent_tree ast_tree node_tree (Expr-F.LookAround t how)

pub tree_repeat : (t : Box Expr Global) (lo hi : ℕ) (greedy : Bool) → tree_of (view.Repeat t lo hi greedy) ≡ tree.repeat (tree_of t.value) lo hi greedy
tree_repeat t lo hi greedy = ap tree_of (sym (view.rolls-Repeat t lo hi greedy)) ∙ fold-roll-Expr Tree (ℕ → Tree) Tree absent_tree ast_tree node_tree (Expr-F.Repeat t lo hi greedy)

pub tree_atomic : (t : Box Expr Global) → tree_of (view.AtomicGroup t) ≡ tree.atomic_group (tree_of t.value)
tree_atomic t = ap tree_of (sym (view.rolls-AtomicGroup t)) ∙ fold-roll-Expr Tree (ℕ → Tree) Tree absent_tree ast_tree node_tree (Expr-F.AtomicGroup t)

pub tree_conditional : (c a b : Box Expr Global) →
    tree_of (view.Conditional c a b) ≡ tree.conditional (tree_of c.value) (tree_of a.value) (tree_of b.value)
tree_conditional c a b = ap tree_of (sym (view.rolls-Conditional c a b)) ∙ fold-roll-Expr Tree (ℕ → Tree) Tree absent_tree ast_tree node_tree (Expr-F.Conditional c a b)

pub tree_define : (t : Box Expr Global) → tree_of (view.DefineGroup t) ≡ tree.define_group (tree_of t.value)
tree_define t = ap tree_of (sym (view.rolls-DefineGroup t)) ∙ fold-roll-Expr Tree (ℕ → Tree) Tree absent_tree ast_tree node_tree (Expr-F.DefineGroup t)

pub tree_absent : (a : Absent) → tree_of (view.Absent a) ≡ absent_tree_of a
tree_absent a = ap tree_of (sym (view.rolls-Absent a)) ∙ fold-roll-Expr Tree (ℕ → Tree) Tree absent_tree ast_tree node_tree (Expr-F.Absent a)

pub tree_repeater : (t : Box Expr Global) → absent_tree_of (absent.Repeater t) ≡ tree.absent_repeater (tree_of t.value)
tree_repeater t = ap absent_tree_of (sym (absent.rolls-Repeater t)) ∙ fold-roll-Absent Tree (ℕ → Tree) Tree absent_tree ast_tree node_tree (Absent-F.Repeater t)

pub tree_any : (newline crlf : Bool) → tree_of (view.Any newline crlf) ≡ tree.any newline crlf
tree_any newline crlf = ap tree_of (sym (view.rolls-Any newline crlf)) ∙ fold-roll-Expr Tree (ℕ → Tree) Tree absent_tree ast_tree node_tree (Expr-F.Any newline crlf)

pub tree_assertion : (a : Assertion) → tree_of (view.Assertion a) ≡ tree.assertion a
tree_assertion a = ap tree_of (sym (view.rolls-Assertion a)) ∙ fold-roll-Expr Tree (ℕ → Tree) Tree absent_tree ast_tree node_tree (Expr-F.Assertion a)

pub tree_newline : (unicode : Bool) → tree_of (view.GeneralNewline unicode) ≡ tree.general_newline unicode
tree_newline unicode = ap tree_of (sym (view.rolls-GeneralNewline unicode)) ∙ fold-roll-Expr Tree (ℕ → Tree) Tree absent_tree ast_tree node_tree (Expr-F.GeneralNewline unicode)

pub tree_literal : (val : String Global) (casei : Bool) → tree_of (view.Literal val casei) ≡ tree.literal (chars (string_bytes val)) casei
tree_literal val casei = ap tree_of (sym (view.rolls-Literal val casei)) ∙ fold-roll-Expr Tree (ℕ → Tree) Tree absent_tree ast_tree node_tree (Expr-F.Literal val casei)

pub tree_delegate : (inner : String Global) (casei : Bool) → tree_of (view.Delegate inner casei) ≡ tree.delegate (chars (string_bytes inner)) casei
tree_delegate inner casei = ap tree_of (sym (view.rolls-Delegate inner casei)) ∙ fold-roll-Expr Tree (ℕ → Tree) Tree absent_tree ast_tree node_tree (Expr-F.Delegate inner casei)

pub tree_backref : (number : ℕ) (casei : Bool) → tree_of (view.Backref number casei) ≡ tree.backref number casei
tree_backref number casei = ap tree_of (sym (view.rolls-Backref number casei)) ∙ fold-roll-Expr Tree (ℕ → Tree) Tree absent_tree ast_tree node_tree (Expr-F.Expr::Backref number casei)

pub tree_keep_out : tree_of view.KeepOut ≡ tree.keep_out
tree_keep_out = ap tree_of (sym view.rolls-KeepOut) ∙ fold-roll-Expr Tree (ℕ → Tree) Tree absent_tree ast_tree node_tree Expr-F.KeepOut

pub tree_continue : tree_of view.ContinueFromPreviousMatchEnd ≡ tree.continue
tree_continue = ap tree_of (sym view.rolls-ContinueFromPreviousMatchEnd) ∙ fold-roll-Expr Tree (ℕ → Tree) Tree absent_tree ast_tree node_tree Expr-F.ContinueFromPreviousMatchEnd

pub tree_exists : (number : ℕ) (level : Option ℤ) → tree_of (view.BackrefExistsCondition number level) ≡ tree.backref_exists number level
tree_exists number level = ap tree_of (sym (view.rolls-BackrefExistsCondition number level)) ∙ fold-roll-Expr Tree (ℕ → Tree) Tree absent_tree ast_tree node_tree (Expr-F.Expr::BackrefExistsCondition number level)

pub tree_verb : (v : BacktrackingControlVerb) → tree_of (view.BacktrackingControlVerb v) ≡ tree.verb v
tree_verb v = ap tree_of (sym (view.rolls-BacktrackingControlVerb v)) ∙ fold-roll-Expr Tree (ℕ → Tree) Tree absent_tree ast_tree node_tree (Expr-F.BacktrackingControlVerb v)

pub tree_empty : tree_of view.Empty ≡ tree.empty
tree_empty = ap tree_of (sym view.rolls-Empty) ∙ fold-roll-Expr Tree (ℕ → Tree) Tree absent_tree ast_tree node_tree Expr-F.Empty

pub tree_call : (number : ℕ) → tree_of (view.SubroutineCall number) ≡ tree.subroutine_call number
tree_call number = ap tree_of (sym (view.rolls-SubroutineCall number)) ∙ fold-roll-Expr Tree (ℕ → Tree) Tree absent_tree ast_tree node_tree (Expr-F.Expr::SubroutineCall number)
