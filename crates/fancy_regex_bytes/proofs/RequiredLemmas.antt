-- The required bytes of rows and alternations, part by part.
use Rattle.std.proofs.Common.{◌≡◌, ℕ, ◌+◌, ◌-◌, ◌<◌, ◌≤◌, ◌||◌, ◌&&◌, List, [], ◌∷◌, length, drop, get_or, map, refl, sym, ap, ◌∙◌, arith}
use Rattle.std.proofs.lemmas.List.{at_drop_more}
use Rattle.std.proofs.Math.ListN.{drop_of_length-le}
use Rattle.fancy_regex_tree.specs.Tree.{tree_of, trees}
use Rattle.fancy_regex_tree.specs.declared.expr.Expr.{Expr}
use Rattle.fancy_regex_info.proofs.RowLemmas.{one_before, at_last}
use Rattle.fancy_regex_bytes.specs.ByteSets.{Bytes, no_bytes, either_bytes, both_bytes}
use Rattle.fancy_regex_bytes.specs.RequiredBytes.{required_bytes, required_in_row, required_in_branches}
use Rattle.fancy_regex_bytes.proofs.ByteSetLemmas.{or_false, or_swap}

abbrev row : List Expr → Bytes
row xs = required_in_row (trees (map tree_of xs))

abbrev pub branches : List Expr → Bytes
branches xs = required_in_branches (trees (map tree_of xs))

row_of_none : row [] ≡ no_bytes
unfolding required_bytes required_in_row required_in_branches
row_of_none = refl

row_of_more : (x : Expr) (xs : List Expr) → row (x ∷ xs) ≡ either_bytes (required_bytes (tree_of x)) (row xs)
unfolding required_bytes required_in_row required_in_branches
row_of_more x xs = refl

pub branches_of_none : branches [] ≡ no_bytes
unfolding required_bytes required_in_row required_in_branches
branches_of_none = refl

branches_of_one : (x : Expr) → branches (x ∷ []) ≡ required_bytes (tree_of x)
unfolding required_bytes required_in_row required_in_branches
branches_of_one x = refl

branches_of_more : (x y : Expr) (xs : List Expr) → branches (x ∷ y ∷ xs) ≡ both_bytes (required_bytes (tree_of x)) (branches (y ∷ xs))
unfolding required_bytes required_in_row required_in_branches
branches_of_more x y xs = refl

-- what the rest of a row adds to f is the answer r
pub row_goes_on : (xs : List Expr) (i : ℕ) (x : Expr) (f h r : Bytes) (b : ℕ) → i < length xs → x ≡ get_or xs i x →
    (row (drop i xs) b || f b) ≡ r b → h b ≡ (required_bytes (tree_of x) b || f b) → (row (drop (i + 1) xs) b || h b) ≡ r b
row_goes_on xs i x f h r b inside is so_far added =
    ap (λ z. row (drop (i + 1) xs) b || z) added ∙ or_swap (row (drop (i + 1) xs) b) (required_bytes (tree_of x) b) (f b)
    ∙ ap (λ z. z || f b)
    (sym (ap (λ z. z b) (row_of_more x (drop (i + 1) xs))) ∙ ap (λ y. row (y ∷ drop (i + 1) xs) b) is ∙ sym (at_drop_more (λ ys. row ys b) xs i x inside))
    ∙ so_far

pub row_ends : (xs : List Expr) (i : ℕ) (f r : Bytes) (b : ℕ) → length xs ≤ i → (row (drop i xs) b || f b) ≡ r b → f b ≡ r b
row_ends xs i f r b past so_far =
    sym (ap (λ z. z || f b) (ap (λ ys. row ys b) (drop_of_length-le xs past) ∙ ap (λ z. z b) row_of_none)) ∙ so_far

-- what a tree adds to nothing
pub after_nothing : (f g h : Bytes) (b : ℕ) → h b ≡ (f b || g b) → g ≡ no_bytes → h b ≡ f b
after_nothing f g h b added nothing = added ∙ ap (λ k. f b || k b) nothing ∙ or_false (f b)

pub branches_last : (xs : List Expr) (x : Expr) (b : ℕ) → 0 < length xs → x ≡ get_or xs (length xs - 1) x →
    branches (drop (length xs - 1) xs) b ≡ required_bytes (tree_of x) b
branches_last xs x b some is = at_last (λ ys. branches ys b) xs x some is ∙ ap (λ z. z b) (branches_of_one x)

pub branches_step : (xs : List Expr) (i : ℕ) (x : Expr) (b : ℕ) → 0 < i → i < length xs → x ≡ get_or xs (i - 1) x →
    branches (drop (i - 1) xs) b ≡ (required_bytes (tree_of x) b && branches (drop i xs) b)
branches_step xs i x b some inside is =
    one_before (λ ys. branches ys b) xs i x some (omega arith) is
    ∙ at_drop_more (λ ys. branches (x ∷ ys) b) xs i x inside
    ∙ ap (λ z. z b) (branches_of_more x (get_or xs i x) (drop (i + 1) xs))
    ∙ ap (λ z. required_bytes (tree_of x) b && z) (sym (at_drop_more (λ ys. branches ys b) xs i x inside))
