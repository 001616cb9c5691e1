-- Copies of trees in a row, one by one.
use Rattle.std.proofs.Common.{◌≡◌, zero, suc, ℕ, ◌+◌, ◌<◌, ◌≤◌, List, [], ◌∷◌, ◌++◌, length, map, take, get_or, refl, sym, ap, ap₂, ◌∙◌, arith}
use Rattle.std.proofs.lemmas.List.{take_more, take_all, map_more, map_push, get_or-map, length-map}
use Rattle.fancy_regex_tree.specs.Tree.{Tree, trees, tree_of}
use Rattle.fancy_regex_tree.specs.Tree as tree
use Rattle.fancy_regex_tree.specs.declared.expr.Expr.{Expr}
use Rattle.fancy_regex_relaxed.specs.Relaxed.{IsRelaxable, AreRelaxable, relaxed, relaxed_row, extended, extended_row, extended_branches}

-- the trees of the first nodes, and of one more
trees_more : (es : List Expr) (i : ℕ) (e : Expr) → i < length es → e ≡ get_or es i e → map tree_of (take (i + 1) es) ≡ map tree_of (take i es) ++ tree_of e ∷ []
trees_more es i e h is = map_more tree_of es i e h ∙ ap (λ x. map tree_of (take i es) ++ tree_of x ∷ []) (sym is)

-- a row with one more tree can be relaxed if both can
relaxable_added : (ts : List Tree) (t : Tree) → AreRelaxable (trees ts) → IsRelaxable t → AreRelaxable (trees (ts ++ t ∷ []))
relaxable_added [] t ps p = (p, tt)
relaxable_added (u ∷ ts) t ps p = (ps.0, relaxable_added ts t ps.1 p)

pub relaxable_step : (es : List Expr) (i : ℕ) (e : Expr) → i < length es → e ≡ get_or es i e → AreRelaxable (trees (map tree_of (take i es)))
    → IsRelaxable (tree_of e) → AreRelaxable (trees (map tree_of (take (i + 1) es)))
relaxable_step es i e h is done one = rw (trees_more es i e h is) (relaxable_added (map tree_of (take i es)) (tree_of e) done one)

pub relaxable_whole : (es : List Expr) (i : ℕ) → length es ≤ i → AreRelaxable (trees (map tree_of (take i es))) → AreRelaxable (trees (map tree_of es))
relaxable_whole es i h done = rw (take_all i es h) at done

-- the copies of a row that is read to its end, and of branches
row_is : (ts : List Tree) → trees (map relaxed ts) ≡ relaxed_row (trees ts)
unfolding relaxed_row
row_is [] = refl
row_is (t ∷ ts) = ap (tree.more_trees (relaxed t)) (row_is ts)

branches_are : (ts : List Tree) → trees (map extended ts) ≡ extended_branches (trees ts)
unfolding extended_branches
branches_are [] = refl
branches_are (t ∷ ts) = ap (tree.more_trees (extended t)) (branches_are ts)

-- the copies of a row of which only the last is read to its end
abbrev pub extended_list : List Tree → List Tree
extended_list [] = []
extended_list (t ∷ []) = extended t ∷ []
extended_list (t ∷ u ∷ us) = relaxed t ∷ extended_list (u ∷ us)

extended_is : (ts : List Tree) → trees (extended_list ts) ≡ extended_row (trees ts)
unfolding extended_row
extended_is [] = refl
extended_is (t ∷ []) = refl
extended_is (t ∷ u ∷ us) = ap (tree.more_trees (relaxed t)) (extended_is (u ∷ us))

length_extended : (ts : List Tree) → length (extended_list ts) ≡ length ts
length_extended [] = refl
length_extended (t ∷ []) = refl
length_extended (t ∷ u ∷ us) = ap suc (length_extended (u ∷ us))

-- one that is not the last, and the last
before_last : (ts : List Tree) (i : ℕ) (d : Tree) → i + 1 < length ts → get_or (extended_list ts) i d ≡ relaxed (get_or ts i d)
before_last [] i d h = absurd (omega arith)
before_last (t ∷ []) i d h = absurd (omega arith)
before_last (t ∷ u ∷ us) zero d h = refl
before_last (t ∷ u ∷ us) (suc i) d h = before_last (u ∷ us) i d (omega arith)

at_last : (ts : List Tree) (i : ℕ) (d : Tree) → i < length ts → length ts ≤ i + 1 → get_or (extended_list ts) i d ≡ extended (get_or ts i d)
at_last [] i d h last = absurd (omega arith)
at_last (t ∷ []) zero d h last = refl
at_last (t ∷ []) (suc i) d h last = absurd (omega arith)
at_last (t ∷ u ∷ us) zero d h last = absurd (omega arith)
at_last (t ∷ u ∷ us) (suc i) d h last = at_last (u ∷ us) i d (omega arith) (omega arith)

-- rows of copies, one more and all
pub row_step : (es row : List Expr) (i : ℕ) (e copy : Expr) → i < length es → e ≡ get_or es i e → map tree_of row ≡ map relaxed (map tree_of (take i es))
    → tree_of copy ≡ relaxed (tree_of e) → map tree_of (row ++ copy ∷ []) ≡ map relaxed (map tree_of (take (i + 1) es))
row_step es row i e copy h is done one =
    map_push tree_of row copy
    ∙ ap₂ (λ (ts : List Tree) (t : Tree). ts ++ t ∷ []) done one
    ∙ sym (ap (map relaxed) (trees_more es i e h is) ∙ map_push relaxed (map tree_of (take i es)) (tree_of e))

pub row_whole : (es row : List Expr) (i : ℕ) → length es ≤ i → map tree_of row ≡ map relaxed (map tree_of (take i es))
    → trees (map tree_of row) ≡ relaxed_row (trees (map tree_of es))
row_whole es row i h done = ap trees (done ∙ ap (λ xs. map relaxed (map tree_of xs)) (take_all i es h)) ∙ row_is (map tree_of es)

pub branches_step : (es row : List Expr) (i : ℕ) (e copy : Expr) → i < length es → e ≡ get_or es i e
    → map tree_of row ≡ map extended (map tree_of (take i es)) → tree_of copy ≡ extended (tree_of e)
    → map tree_of (row ++ copy ∷ []) ≡ map extended (map tree_of (take (i + 1) es))
branches_step es row i e copy h is done one =
    map_push tree_of row copy
    ∙ ap₂ (λ (ts : List Tree) (t : Tree). ts ++ t ∷ []) done one
    ∙ sym (ap (map extended) (trees_more es i e h is) ∙ map_push extended (map tree_of (take i es)) (tree_of e))

pub branches_whole : (es row : List Expr) (i : ℕ) → length es ≤ i → map tree_of row ≡ map extended (map tree_of (take i es))
    → trees (map tree_of row) ≡ extended_branches (trees (map tree_of es))
branches_whole es row i h done = ap trees (done ∙ ap (λ xs. map extended (map tree_of xs)) (take_all i es h)) ∙ branches_are (map tree_of es)

-- the copy of one that is not the last, and of the last
pub copy_before : (es : List Expr) (i : ℕ) (e copy : Expr) → i + 1 < length es → e ≡ get_or es i e → tree_of copy ≡ relaxed (tree_of e)
    → tree_of copy ≡ get_or (extended_list (map tree_of es)) i (tree_of e)
copy_before es i e copy more is one =
    one
    ∙ ap relaxed (ap tree_of is ∙ sym (get_or-map tree_of es i e (tree_of e) (omega arith)))
    ∙ sym (before_last (map tree_of es) i (tree_of e) (omega (arith, length-map es tree_of)))

pub copy_last : (es : List Expr) (i : ℕ) (e copy : Expr) → i < length es → length es ≤ i + 1 → e ≡ get_or es i e → tree_of copy ≡ extended (tree_of e)
    → tree_of copy ≡ get_or (extended_list (map tree_of es)) i (tree_of e)
copy_last es i e copy h end is one =
    one
    ∙ ap extended (ap tree_of is ∙ sym (get_or-map tree_of es i e (tree_of e) h))
    ∙ sym (at_last (map tree_of es) i (tree_of e) (omega (arith, length-map es tree_of)) (omega (arith, length-map es tree_of)))

pub extended_step : (es row : List Expr) (i : ℕ) (e copy : Expr) → i < length es → map tree_of row ≡ take i (extended_list (map tree_of es))
    → tree_of copy ≡ get_or (extended_list (map tree_of es)) i (tree_of e)
    → map tree_of (row ++ copy ∷ []) ≡ take (i + 1) (extended_list (map tree_of es))
extended_step es row i e copy h done one =
    map_push tree_of row copy
    ∙ ap₂ (λ (ts : List Tree) (t : Tree). ts ++ t ∷ []) done one
    ∙ sym (take_more (extended_list (map tree_of es)) i (tree_of e) (omega (arith, length-map es tree_of, length_extended (map tree_of es))))

pub extended_whole : (es row : List Expr) (i : ℕ) → length es ≤ i → map tree_of row ≡ take i (extended_list (map tree_of es))
    → trees (map tree_of row) ≡ extended_row (trees (map tree_of es))
extended_whole es row i h done =
    ap trees (done ∙ take_all i (extended_list (map tree_of es)) (omega (arith, length-map es tree_of, length_extended (map tree_of es))))
    ∙ extended_is (map tree_of es)
