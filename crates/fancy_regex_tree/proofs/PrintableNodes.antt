-- A tree is printable where each of its nodes is.
use Rattle.std.proofs.Common.{◌≡◌, ℕ, ◌+◌, ◌<◌, ◌≤◌, ◌&&◌, [], ◌∷◌, List, Bool, true, false, length, map, take, get_or, refl, ap, sym, ◌∙◌, leb, arith}
use Rattle.std.proofs.Math.Bool.{and-true}
use Rattle.std.proofs.lemmas.Bool.{le-leb}
use Rattle.std.proofs.lemmas.List.Folds.{list_all-append, list_all-map, list_all_at, list_all_more}
use Rattle.std.proofs.lemmas.List.{take_all}
use Rattle.std.specs.List.{list_all}
use Rattle.std.specs.Borrow.{Bor}
use Rattle.fancy_regex_tree.specs.Tree.{Tree, Trees, no_trees, more_trees, assertion, literal, delegate, concat, alt, group, repeat, tree_of, trees}
use Rattle.fancy_regex_tree.specs.Traversal.{nodes, all_nodes, tree_at}
use Rattle.fancy_regex_tree.specs.Printable.{is_printable, are_printable, is_printable_node, is_printable_assertion, is_one_character, has_two_branches}
use Rattle.fancy_regex_tree.specs.declared.expr.Expr.{Expr}

pub branches-leb : {X : Type 0} (f : X → Tree) (xs : List X) → leb 2 (length xs) ≡ has_two_branches (trees (map f xs))
unfolding has_two_branches
branches-leb f [] = refl
branches-leb f (x ∷ []) = refl
branches-leb f (x ∷ y ∷ xs) = le-leb 2 (length (x ∷ y ∷ xs)) (omega arith)

mutual
  unfolding is_printable is_printable_node

  printable_nodes : (t : Tree) → list_all is_printable_node (nodes t) ≡ is_printable t
  printable_nodes (assertion a) = and-true (is_printable_assertion a)
  printable_nodes (literal val casei) = and-true (is_one_character val)
  printable_nodes (delegate inner casei) = and-true _
  printable_nodes (concat ts) = all_printable_nodes ts
  printable_nodes (alt ts) = ap (λ b. has_two_branches ts && b) (all_printable_nodes ts)
  printable_nodes (group t) = printable_nodes t
  printable_nodes (repeat t lo hi greedy) = ap (λ b. is_printable_node (repeat t lo hi greedy) && b) (printable_nodes t)
  printable_nodes _ = refl

  all_printable_nodes : (ts : Trees) → list_all is_printable_node (all_nodes ts) ≡ are_printable ts
  all_printable_nodes no_trees = refl
  all_printable_nodes (more_trees t ts) =
      list_all-append is_printable_node (nodes t) (all_nodes ts)
      ∙ ap (λ b. b && list_all is_printable_node (all_nodes ts)) (printable_nodes t)
      ∙ ap (λ b. is_printable t && b) (all_printable_nodes ts)

-- a node as the code has it
abbrev pub is_printable_at : Bor Expr → Bool
is_printable_at node = is_printable_node (tree_at node)

printable_if_all : (e : Expr) (all : List (Bor Expr)) → map tree_at all ≡ nodes (tree_of e) → list_all is_printable_at all ≡ is_printable (tree_of e)
printable_if_all e all h =
    sym (list_all-map is_printable_node tree_at all) ∙ ap (list_all is_printable_node) h ∙ printable_nodes (tree_of e)

-- one more is printable
pub printable_next : (all : List (Bor Expr)) (i : ℕ) (node : Bor Expr) (b : Bool) → i < length all → node ≡ get_or all i node → b ≡ is_printable_at node → b ≡ true
    → list_all is_printable_at (take i all) ≡ true → list_all is_printable_at (take (i + 1) all) ≡ true
printable_next all i node b inside is answer good so_far =
    list_all_more is_printable_at all i node inside
    ∙ ap (λ b. b && is_printable_at (get_or all i node)) so_far
    ∙ ap is_printable_at (sym is)
    ∙ sym answer
    ∙ good

-- one is not
pub printable_stop : (e : Expr) (all : List (Bor Expr)) (i : ℕ) (node : Bor Expr) (b : Bool) → map tree_at all ≡ nodes (tree_of e) → i < length all → node ≡ get_or all i node
    → b ≡ is_printable_at node → b ≡ false → false ≡ is_printable (tree_of e)
printable_stop e all i node b h inside is answer bad =
    sym (list_all_at is_printable_at all i node inside (ap is_printable_at (sym is) ∙ sym answer ∙ bad)) ∙ printable_if_all e all h

pub printable_end : (e : Expr) (all : List (Bor Expr)) (i : ℕ) → map tree_at all ≡ nodes (tree_of e) → length all ≤ i → list_all is_printable_at (take i all) ≡ true
    → true ≡ is_printable (tree_of e)
printable_end e all i h past so_far = sym so_far ∙ ap (list_all is_printable_at) (take_all i all past) ∙ printable_if_all e all h
