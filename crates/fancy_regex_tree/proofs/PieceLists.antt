-- Pieces and branches in the words of the definitions.
use Rattle.std.proofs.Common.{◌≡◌, List, [], ◌∷◌, ◌++◌, map, filter, not, Bool, true, false, cond, refl, ap, sym, ◌∙◌}
use Rattle.std.proofs.lemmas.List.{map-append}
use Rattle.fancy_regex_tree.specs.Tree.{Tree, tree_of}
use Rattle.fancy_regex_tree.specs.TreeBuilders.{is_empty_tree, without_empty, branch_of, all_branches}
use Rattle.fancy_regex_tree.specs.declared.expr.Expr.{Expr}

add_kept : (e : Expr) (xs : List Expr) (ts : List Tree) (b : Bool) → map tree_of xs ≡ ts →
    map tree_of (cond (not b) (e ∷ xs) xs) ≡ elim b [ true ↦ ts | false ↦ tree_of e ∷ ts ]
add_kept e xs ts true h = h
add_kept e xs ts false h = ap (λ us. tree_of e ∷ us) h

-- the pieces that are not `Empty`
pub without_empty-map : (es : List Expr) → map tree_of (filter (λ e. not (is_empty_tree (tree_of e))) es) ≡ without_empty (map tree_of es)
without_empty-map [] = refl
without_empty-map (e ∷ es) = add_kept e _ _ (is_empty_tree (tree_of e)) (without_empty-map es)

pub all_branches-append : (bs cs : List (List Tree)) → all_branches (bs ++ cs) ≡ all_branches bs ++ all_branches cs
all_branches-append [] cs = refl
all_branches-append (b ∷ bs) cs = ap (λ ts. branch_of b ∷ ts) (all_branches-append bs cs)

-- one more branch
pub push_branch : {V : Type 0} (f : V → List Tree) (before : List V) (x : V) (all new : List Expr) (e : Expr) → new ≡ all ++ e ∷ [] →
    tree_of e ≡ branch_of (f x) → map tree_of all ≡ all_branches (map f before) → map tree_of new ≡ all_branches (map f (before ++ x ∷ []))
push_branch f before x all new e longer is now =
    ap (λ es. map tree_of es) longer ∙ map-append tree_of all (e ∷ []) ∙ ap (λ ts. ts ++ tree_of e ∷ []) now
    ∙ ap (λ t. all_branches (map f before) ++ t ∷ []) is ∙ sym (all_branches-append (map f before) (f x ∷ []))
    ∙ ap (λ bs. all_branches bs) (sym (map-append f before (x ∷ [])))
