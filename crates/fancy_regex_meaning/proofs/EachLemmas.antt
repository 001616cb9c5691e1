-- Facts that hold of each element of a list.
use Rattle.std.proofs.Common.{◌≡◌, ℕ, zero, suc, ◌+◌, ◌-◌, ◌<◌, ◌≤◌, arith, reverse, Bool, true, false, cond, List, [], ◌∷◌, ◌++◌, map, Option, Some, None, refl}
use Rattle.std.specs.List.{flat_map, filter}
use mathlib.Core.List.{reverse_aux}
use Rattle.regex_hir.specs.Text.{is_boundary}
use Rattle.fancy_regex_meaning.specs.Positions.{numbers_from, boundaries}
use Rattle.fancy_regex_meaning.specs.WayLaws.{Each}
use Rattle.fancy_regex_meaning.specs.Ways.{for_some}

pub Each-weaker : {A : Type 0} (P Q : A → Type 0) → ((x : A) → P x → Q x) → (xs : List A) → Each P xs → Each Q xs
Each-weaker P Q f [] h = tt
Each-weaker P Q f (x ∷ xs) h = (f x h.0, Each-weaker P Q f xs h.1)

pub Each-append : {A : Type 0} (P : A → Type 0) (xs ys : List A) → Each P xs → Each P ys → Each P (xs ++ ys)
Each-append P [] ys h k = k
Each-append P (x ∷ xs) ys h k = (h.0, Each-append P xs ys h.1 k)

pub Each-map : {A B : Type 0} (P : A → Type 0) (Q : B → Type 0) (f : A → B) → ((x : A) → P x → Q (f x)) → (xs : List A) →
    Each P xs → Each Q (map f xs)
Each-map P Q f h [] e = tt
Each-map P Q f h (x ∷ xs) e = (h x e.0, Each-map P Q f h xs e.1)

pub Each-flat_map : {A B : Type 0} (P : A → Type 0) (Q : B → Type 0) (f : A → List B) → ((x : A) → P x → Each Q (f x)) →
    (xs : List A) → Each P xs → Each Q (flat_map f xs)
Each-flat_map P Q f h [] e = tt
Each-flat_map P Q f h (x ∷ xs) e = Each-append Q (f x) (flat_map f xs) (h x e.0) (Each-flat_map P Q f h xs e.1)

pub Each-filter : {A : Type 0} (P : A → Type 0) (test : A → Bool) (xs : List A) → Each P xs → Each P (filter test xs)
Each-filter P test [] e = tt
Each-filter P test (x ∷ xs) e =
    let rest = Each-filter P test xs e.1 in
    elim (test x) as (λ b. Each P (cond b (x ∷ filter test xs) (filter test xs))) [ true ↦ (e.0, rest) | false ↦ rest ]

pub Each-cond : {A : Type 0} (P : A → Type 0) (b : Bool) (xs ys : List A) → Each P xs → Each P ys → Each P (cond b xs ys)
Each-cond P true xs ys h k = h
Each-cond P false xs ys h k = k

pub Each-for_some : {A B : Type 0} (P : B → Type 0) (f : A → List B) (o : Option A) → ((x : A) → o ≡ Some x → Each P (f x)) →
    Each P (for_some f o)
Each-for_some P f None h = tt
Each-for_some P f (Some x) h = h x refl

Each-reverse_onto : {A : Type 0} (P : A → Type 0) (xs ys : List A) → Each P xs → Each P ys → Each P (reverse_aux xs ys)
Each-reverse_onto P [] ys h k = k
Each-reverse_onto P (x ∷ xs) ys h k = Each-reverse_onto P xs (x ∷ ys) h.1 (h.0, k)

pub Each-reverse : {A : Type 0} (P : A → Type 0) (xs : List A) → Each P xs → Each P (reverse xs)
Each-reverse P xs h = Each-reverse_onto P xs [] h tt

-- the numbers from i on are at least i, and below i + n
pub numbers_within : (n i : ℕ) → Each (λ q. (i ≤ q) × (q < i + n)) (numbers_from n i)
numbers_within zero i = tt
numbers_within (suc n) i =
    ((omega arith, omega arith), Each-weaker _ _ (λ q h. (omega arith, omega arith)) (numbers_from n (i + 1)) (numbers_within n (i + 1)))

pub boundaries_within : (text : List ℕ) (p q : ℕ) → Each (λ b. (p ≤ b) × (b ≤ q)) (boundaries text p q)
boundaries_within text p q =
    Each-filter _ (is_boundary text) _ (Each-weaker _ _ (λ b h. (h.0, omega arith)) (numbers_from (q + 1 - p) p) (numbers_within (q + 1 - p) p))

-- what is left of a filter passes it
pub Each-filter_passes : {A : Type 0} (P : A → Type 0) (test : A → Bool) (xs : List A) → Each P xs →
    Each (λ x. P x × (test x ≡ true)) (filter test xs)
Each-filter_passes P test [] e = tt
Each-filter_passes P test (x ∷ xs) e = passes_first P test x xs (test x) refl e.0 (Each-filter_passes P test xs e.1)
  where
    passes_first : {A : Type 0} (P : A → Type 0) (test : A → Bool) (x : A) (xs : List A) (b : Bool) → test x ≡ b → P x →
        Each (λ y. P y × (test y ≡ true)) (filter test xs) →
        Each (λ y. P y × (test y ≡ true)) (cond b (x ∷ filter test xs) (filter test xs))
    passes_first P test x xs true e p rest = ((p, e), rest)
    passes_first P test x xs false e p rest = rest

pub boundaries_pass : (text : List ℕ) (p q : ℕ) →
    Each (λ b. ((p ≤ b) × (b ≤ q)) × (is_boundary text b ≡ true)) (boundaries text p q)
boundaries_pass text p q =
    Each-filter_passes _ (is_boundary text) _ (Each-weaker _ _ (λ b h. (h.0, omega arith)) (numbers_from (q + 1 - p) p) (numbers_within (q + 1 - p) p))
