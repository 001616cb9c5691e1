-- The classes of a printable tree are those of its nodes.
use Rattle.std.proofs.Common.{◌≡◌, ℕ, ◌+◌, ◌<◌, ◌≤◌, ◌&&◌, List, Bool, true, false, length, map, take, get_or, refl, ap, sym, ◌∙◌, is_some, chars, IsUtf8}
use Rattle.std.proofs.Math.Bool.{and-true}
use Rattle.std.proofs.lemmas.List.Folds.{list_all-append, list_all-map, list_all_at, list_all_more}
use Rattle.std.proofs.lemmas.List.{take_all}
use Rattle.std.proofs.lemmas.Str.{encodes-chars}
use Rattle.std.proofs.lemmas.Slice.Eq.{bytes_eq-Decides}
use Rattle.std.proofs.lemmas.Bool.Decides.{same_from_decides}
use Rattle.std.specs.Str.{bytes_eq, encode_utf8_all}
use Rattle.std.specs.List.{list_all}
use Rattle.std.specs.Borrow.{Bor}
use Rattle.fancy_regex_tree.specs.Tree.{Tree, Trees, no_trees, more_trees, delegate, concat, alt, group, repeat, tree_of}
use Rattle.fancy_regex_tree.specs.Traversal.{nodes, all_nodes, tree_at}
use Rattle.fancy_regex_tree.specs.NormalForm.{class_alone}
use Rattle.fancy_regex_tree.specs.Printable.{is_printable, are_printable, has_two_branches, classes_read_back, all_classes_read_back}
use Rattle.fancy_regex_tree.specs.declared.expr.Expr.{Expr}
use Rattle.fancy_regex_reprint.specs.Reprinted.{class_reads_back}

after : (a p x c : Bool) → p && x ≡ p && c → (a && p) && x ≡ (a && p) && c
after true p x c h = h
after false p x c h = refl

in_pairs : (p q x y c d : Bool) → p && x ≡ p && c → q && y ≡ q && d → (p && q) && (x && y) ≡ (p && q) && (c && d)
in_pairs true true x y c d h k = ap (λ b. b && y) h ∙ ap (λ b. c && b) k
in_pairs true false x y c d h k = refl
in_pairs false q x y c d h k = refl

mutual
  unfolding is_printable classes_read_back class_reads_back

  class_nodes : (t : Tree) → is_printable t && list_all class_reads_back (nodes t) ≡ is_printable t && classes_read_back t
  class_nodes (delegate inner casei) = ap (λ b. is_some (class_alone inner) && b) (and-true _)
  class_nodes (concat ts) = all_class_nodes ts
  class_nodes (alt ts) = after (has_two_branches ts) (are_printable ts) _ _ (all_class_nodes ts)
  class_nodes (group t) = class_nodes t
  class_nodes (repeat t lo hi greedy) = after _ (is_printable t) _ _ (class_nodes t)
  class_nodes _ = refl

  all_class_nodes : (ts : Trees) → are_printable ts && list_all class_reads_back (all_nodes ts) ≡ are_printable ts && all_classes_read_back ts
  all_class_nodes no_trees = refl
  all_class_nodes (more_trees t ts) =
      ap (λ b. (is_printable t && are_printable ts) && b) (list_all-append class_reads_back (nodes t) (all_nodes ts))
      ∙ in_pairs (is_printable t) (are_printable ts) _ _ (classes_read_back t) (all_classes_read_back ts) (class_nodes t) (all_class_nodes ts)

-- a node as the code has it
abbrev pub class_reads_back_at : Bor Expr → Bool
class_reads_back_at node = class_reads_back (tree_at node)

classes_if_all : (e : Expr) (all : List (Bor Expr)) → is_printable (tree_of e) ≡ true → map tree_at all ≡ nodes (tree_of e)
    → list_all class_reads_back_at all ≡ classes_read_back (tree_of e)
classes_if_all e all p h =
    sym (list_all-map class_reads_back tree_at all)
    ∙ ap (list_all class_reads_back) h
    ∙ sym (ap (λ b. b && list_all class_reads_back (nodes (tree_of e))) p)
    ∙ class_nodes (tree_of e)
    ∙ ap (λ b. b && classes_read_back (tree_of e)) p

-- one more class reads back
pub class_next : (all : List (Bor Expr)) (i : ℕ) (node : Bor Expr) (b : Bool) → i < length all → node ≡ get_or all i node → b ≡ class_reads_back_at node → b ≡ true
    → list_all class_reads_back_at (take i all) ≡ true → list_all class_reads_back_at (take (i + 1) all) ≡ true
class_next all i node b inside is answer good so_far =
    list_all_more class_reads_back_at all i node inside
    ∙ ap (λ b. b && class_reads_back_at (get_or all i node)) so_far
    ∙ ap class_reads_back_at (sym is)
    ∙ sym answer
    ∙ good

-- one does not
pub class_stop : (e : Expr) (all : List (Bor Expr)) (i : ℕ) (node : Bor Expr) (b : Bool) → is_printable (tree_of e) ≡ true → map tree_at all ≡ nodes (tree_of e)
    → i < length all → node ≡ get_or all i node → b ≡ class_reads_back_at node → b ≡ false → false ≡ classes_read_back (tree_of e)
class_stop e all i node b p h inside is answer bad =
    sym (list_all_at class_reads_back_at all i node inside (ap class_reads_back_at (sym is) ∙ sym answer ∙ bad)) ∙ classes_if_all e all p h

pub class_end : (e : Expr) (all : List (Bor Expr)) (i : ℕ) → is_printable (tree_of e) ≡ true → map tree_at all ≡ nodes (tree_of e) → length all ≤ i
    → list_all class_reads_back_at (take i all) ≡ true → true ≡ classes_read_back (tree_of e)
class_end e all i p h past so_far = sym so_far ∙ ap (list_all class_reads_back_at) (take_all i all past) ∙ classes_if_all e all p h

-- texts are the same where their bytes are
pub same_text_bytes : (class text : List ℕ) → IsUtf8 class → IsUtf8 text → bytes_eq class text ≡ bytes_eq (chars text) (chars class)
same_text_bytes class text uc ut =
    let there : class ≡ text → chars text ≡ chars class = λ e. ap chars (sym e) in
    let back : chars text ≡ chars class → class ≡ text = λ e. sym (encodes-chars class uc) ∙ ap encode_utf8_all (sym e) ∙ encodes-chars text ut in
    same_from_decides (bytes_eq class text) (bytes_eq (chars text) (chars class))
    ((λ h. there ((bytes_eq-Decides class text).0 h)), (λ h. (bytes_eq-Decides class text).1 (back h))) (bytes_eq-Decides (chars text) (chars class))
