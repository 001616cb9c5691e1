-- Greatest counts that fit, of one tree after another.
use Rattle.std.proofs.Common.{◌≡◌, ◌+◌, ◌<◌, ◌≤◌, [], ◌∷◌, ◌++◌, List, ℕ, length, map, take, get_or, sym, ap, subst, ◌∙◌, take_all}
use Rattle.std.proofs.lemmas.List.{map_more}
use Rattle.fancy_regex_tree.specs.Tree.{Tree, trees}
use Rattle.fancy_regex_print_laws.specs.ReprintLaws.{CountsFit, AllCountsFit}

fit_more : (ts : List Tree) (t : Tree) → AllCountsFit (trees ts) → CountsFit t → AllCountsFit (trees (ts ++ t ∷ []))
unfolding CountsFit
fit_more [] t fit last = (last, tt)
fit_more (u ∷ ts) t fit last = (fit.0, fit_more ts t fit.1 last)

pub fit_step : {X : Type 0} (f : X → Tree) (xs : List X) (i : ℕ) (x : X) → i < length xs → x ≡ get_or xs i x →
    AllCountsFit (trees (map f (take i xs))) → CountsFit (f x) → AllCountsFit (trees (map f (take (i + 1) xs)))
fit_step f xs i x inside is so_far now =
    subst (λ (ts : List Tree). AllCountsFit (trees ts)) (sym (map_more f xs i x inside ∙ ap (λ y. map f (take i xs) ++ f y ∷ []) (sym is)))
    (fit_more (map f (take i xs)) (f x) so_far now)

pub none_fit : AllCountsFit (trees [])
unfolding CountsFit
none_fit = tt

pub fit_end : {X : Type 0} (f : X → Tree) (xs : List X) (i : ℕ) → length xs ≤ i → AllCountsFit (trees (map f (take i xs))) → AllCountsFit (trees (map f xs))
fit_end {X = X} f xs i past so_far = subst (λ (ys : List X). AllCountsFit (trees (map f ys))) (take_all i xs past) so_far
