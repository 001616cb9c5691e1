-- The children of a row, lent for writing.
use Rattle.std.proofs.Common.{◌≡◌, ℕ, zero, suc, ◌<◌, Option, Some, None, IsSome, IfSome, List, [], ◌∷◌, length, map, option_map, get_or, slice_get, refl, ap, sym, ◌∙◌, subst, arith, Vec, Global}
use Rattle.std.proofs.lemmas.Bool.{false≢true}
use Rattle.std.specs.Borrow.{MutBor}
use Rattle.fancy_regex_tree.specs.Tree.{tree_of}
use Rattle.fancy_regex_tree.specs.BorrowedChild.{borrowed_tree}
use Rattle.fancy_regex_tree.specs.declared.expr.Expr.{Expr}
use Rattle.fancy_regex_tree.specs.declared.expr.Expr.TheVariants.{Concat, Alt}
use Rattle.fancy_regex_tree.specs.Traversal.{children}
use Rattle.fancy_regex_tree.proofs.Children.{children_of_concat, children_of_alt}

some_at : (xs : List Expr) (i : ℕ) (x : Expr) → i < length xs → x ≡ get_or xs i x → Some (tree_of x) ≡ slice_get (map tree_of xs) i
some_at [] i x inside is = absurd (omega (arith, inside))
some_at (y ∷ ys) zero x inside is = ap (λ e. Some (tree_of e)) is
some_at (y ∷ ys) (suc i) x inside is = some_at ys i x (omega (arith, inside)) is

none_at : (xs : List Expr) (i : ℕ) → (i < length xs → ⊥) → None ≡ slice_get (map tree_of xs) i
none_at [] i h = refl
none_at (y ∷ ys) zero h = absurd (h (omega arith))
none_at (y ∷ ys) (suc i) h = none_at ys i (λ k. h (omega (arith, k)))

pub lent : (xs : List Expr) (n i : ℕ) (r : Option (MutBor Expr)) → n ≡ length xs → (IsSome r → i < n) × (i < n → IsSome r) → IfSome r (λ x. x.now ≡ get_or xs i x.now)
    → option_map borrowed_tree r ≡ slice_get (map tree_of xs) i
lent xs n i None e v h = none_at xs i (λ k. false≢true (v.1 (subst (λ m. i < m) (sym e) k)))
lent xs n i (Some x) e v h = some_at xs i x.now (subst (λ m. i < m) e (v.0 refl)) h

pub in_concat : (e : Expr) (v : Vec Expr Global) (i : ℕ) (r : Option (MutBor Expr)) → e ≡ Concat v → option_map borrowed_tree r ≡ slice_get (map tree_of v.items) i
    → option_map borrowed_tree r ≡ slice_get (children (tree_of e)) i
in_concat e v i r is h = h ∙ ap (λ ts. slice_get ts i) (children_of_concat v) ∙ ap (λ x. slice_get (children (tree_of x)) i) (sym is)

pub in_alt : (e : Expr) (v : Vec Expr Global) (i : ℕ) (r : Option (MutBor Expr)) → e ≡ Alt v → option_map borrowed_tree r ≡ slice_get (map tree_of v.items) i
    → option_map borrowed_tree r ≡ slice_get (children (tree_of e)) i
in_alt e v i r is h = h ∙ ap (λ ts. slice_get ts i) (children_of_alt v) ∙ ap (λ x. slice_get (children (tree_of x)) i) (sym is)
