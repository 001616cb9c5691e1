-- What a closure finds among the nodes of a tree, where it answers a test on trees.
use Rattle.std.proofs.Common.{◌≡◌, ⊎_elim, Bool, true, false, ◌||◌, List, [], ◌∷◌, refl, ap, sym, ◌∙◌}
use Rattle.std.specs.Borrow.{Bor}
use Rattle.std.specs.Fn.{Shared, FnReturnsAt}
use Rattle.std.specs.List.{list_any}
use Rattle.fancy_regex_tree.specs.Tree.{Tree, tree_of}
use Rattle.fancy_regex_tree.specs.Traversal.{nodes, Found, FoundNone, IsFound}
use Rattle.fancy_regex_tree.specs.declared.expr.Expr.{Expr}
use Rattle.fancy_regex_info.proofs.ReachabilityLemmas.{or_right}

module _ {F : Type 0} (g : Shared F (Bor Expr × Unit {0}) Bool) (f : F) (p : Tree → Bool)
    (answers : (node : Expr) (answer : Bool) → FnReturnsAt g f node answer → answer ≡ p (tree_of node)) where
  found_one : (ts : List Tree) → Found g f ts → list_any p ts ≡ true
  found_one [] h = absurd h
  found_one (t ∷ ts) h =
      ⊎_elim
      (λ e. ap (λ b. b || list_any p ts) (sym (ap p e.1) ∙ sym (answers e.0 true e.2)))
      (λ e. or_right (p t) (list_any p ts) (found_one ts e))
      h

  found_none : (ts : List Tree) → FoundNone g f ts → list_any p ts ≡ false
  found_none [] h = refl
  found_none (t ∷ ts) h = ap (λ b. b || list_any p ts) (sym (ap p h.0.1) ∙ sym (answers h.0.0 false h.0.2)) ∙ found_none ts h.1

  found_is : (r : Bool) (ts : List Tree) → IsFound g f r ts → r ≡ list_any p ts
  found_is true ts h = sym (found_one ts h)
  found_is false ts h = sym (found_none ts h)

-- in a whole tree
pub found_in_tree : {F : Type 0} (g : Shared F (Bor Expr × Unit {0}) Bool) (f : F) (p : Tree → Bool) (r : Bool) (t : Tree) →
    IsFound g f r (nodes t) → ((node : Expr) (answer : Bool) → FnReturnsAt g f node answer → answer ≡ p (tree_of node)) → r ≡ list_any p (nodes t)
found_in_tree g f p r t found answers = found_is g f p answers r (nodes t) found
