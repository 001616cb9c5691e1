-- A child put in the place of another.
use Rattle.std.proofs.Common.{◌≡◌, ℕ, zero, suc, List, [], ◌∷◌, map, Result, Ok, Err, option_map, slice_get, slice_set, refl, ap, sym, ◌∙◌}
use Rattle.std.proofs.lemmas.Option.{slice_get-map}
use Rattle.fancy_regex_tree.specs.Tree.{Tree, tree_of}
use Rattle.fancy_regex_tree.specs.Traversal.{children}
use Rattle.fancy_regex_tree.specs.ReplacedChild.{with_children, IsChildReplaced, IsItemReplaced}
use Rattle.fancy_regex_tree.specs.declared.expr.Expr.{Expr}

pub set_map : (xs : List Expr) (i : ℕ) (x : Expr) → map tree_of (slice_set xs i x) ≡ slice_set (map tree_of xs) i (tree_of x)
set_map [] i x = refl
set_map (y ∷ ys) zero x = refl
set_map (y ∷ ys) (suc i) x = ap (λ ts. tree_of y ∷ ts) (set_map ys i x)

-- a node over the children `before` becomes the same node over the children `after`
pub put : (whole node now : Tree) (before after : List Expr) (i : ℕ) (child : Expr) (r : Result Expr Expr)
    → whole ≡ node → now ≡ with_children node (map tree_of after) → map tree_of before ≡ children node → node ≡ with_children node (map tree_of before)
    → children (with_children node (map tree_of after)) ≡ map tree_of after → IsItemReplaced before after i child r → IsChildReplaced whole now i child r
put whole node now before after i child (Ok old) is made over same kept (there, then) =
    let others : map tree_of after ≡ slice_set (children whole) i (tree_of child) =
    ap (λ es. map tree_of es) then ∙ set_map before i child ∙ ap (λ ts. slice_set ts i (tree_of child)) (over ∙ ap children (sym is)) in (
      ap (λ t. slice_get (children t) i) is ∙ ap (λ ts. slice_get ts i) (sym over) ∙ slice_get-map tree_of before i ∙ ap (λ o. option_map tree_of o) there,
      ap children made ∙ kept ∙ others,
      made ∙ ap (λ t. with_children t (map tree_of after)) (sym is) ∙ ap (λ ts. with_children whole ts) others,
    )
put whole node now before after i child (Err back) is made over same kept (none, then, given) = (
  ap (λ t. slice_get (children t) i) is ∙ ap (λ ts. slice_get ts i) (sym over) ∙ slice_get-map tree_of before i ∙ ap (λ o. option_map tree_of o) none,
  made ∙ ap (λ es. with_children node (map tree_of es)) then ∙ sym same ∙ sym is,
  given,
)
