-- The first of all ways, part by part.
use Rattle.std.proofs.Common.{◌≡◌, List, [], ◌∷◌, ◌++◌, Option, Some, None, refl, sym, ap, ◌∙◌}
use Rattle.std.specs.List.{flat_map}
use Rattle.fancy_regex_meaning.specs.Ways.{all_of}
use Rattle.fancy_regex_meaning.specs.Searches.{first_some}
use Rattle.fancy_regex_meaning.specs.WayLaws.{FirstGoesByParts}
use Rattle.fancy_regex_meaning.proofs.WayProofs.{row_splits}

-- the first value, else the other one
or_else : {B : Type 0} → Option B → Option B → Option B
or_else None p = p
or_else (Some x) p = Some x

first-cons : {A B : Type 0} (f : A → Option B) (x : A) (xs : List A) → first_some f (x ∷ xs) ≡ or_else (f x) (first_some f xs)
unfolding or_else
first-cons f x xs = by_value (f x)
  where
    by_value : (o : _) → (elim o [ None ↦ first_some f xs | Some y ↦ Some y ]) ≡ or_else o (first_some f xs)
    by_value None = refl
    by_value (Some y) = refl

or_else_assoc : {B : Type 0} (o p q : Option B) → or_else o (or_else p q) ≡ or_else (or_else o p) q
unfolding or_else
or_else_assoc None p q = refl
or_else_assoc (Some x) p q = refl

first-append : {A B : Type 0} (f : A → Option B) (xs ys : List A) → first_some f (xs ++ ys) ≡ or_else (first_some f xs) (first_some f ys)
unfolding or_else
first-append f [] ys = refl
first-append f (x ∷ xs) ys =
    first-cons f x (xs ++ ys) ∙ ap (or_else (f x)) (first-append f xs ys) ∙ or_else_assoc (f x) (first_some f xs) (first_some f ys)
    ∙ ap (λ o. or_else o (first_some f ys)) (sym (first-cons f x xs))

first-flat_map : {A B C : Type 0} (f : B → Option C) (g : A → List B) (xs : List A) →
    first_some f (flat_map g xs) ≡ first_some (λ x. first_some f (g x)) xs
first-flat_map f g [] = refl
first-flat_map f g (x ∷ xs) =
    first-append f (g x) (flat_map g xs) ∙ ap (or_else (first_some f (g x))) (first-flat_map f g xs) ∙ sym (first-cons (λ y. first_some f (g y)) x xs)

pub first_goes_by_parts : FirstGoesByParts
first_goes_by_parts ms ns next w = ap (first_some next) (row_splits ms ns w) ∙ first-flat_map next (all_of ns) (all_of ms w)
