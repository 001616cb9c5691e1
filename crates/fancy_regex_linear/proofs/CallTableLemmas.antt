-- Tables of what is known of the groups that are called.
use Rattle.std.proofs.Common.{◌≡◌, ◌⊎◌, ◌∙◌, ℕ, zero, suc, ◌+◌, ◌<◌, ◌≤◌, Bool, false, List, [], ◌∷◌, ◌++◌, length, get_or, slice_get, Option, Some, None, refl, sym, ⊎_elim, arith}
use Rattle.std.specs.Prelude.{is_some}
use Rattle.std.proofs.lemmas.Bool.{cases_lt}
use Rattle.std.proofs.lemmas.Option.{none-some}
use Rattle.fancy_regex_tree.specs.Tree.{Tree, Text}
use Rattle.fancy_regex_meaning.specs.Sizes.{target}
use Rattle.fancy_regex_info.specs.AnalysisRelations.{mark_at}
use Rattle.fancy_regex_linear.specs.Re.{Re}
use Rattle.fancy_regex_linear.specs.Plain.{classes}
use Rattle.fancy_regex_linear.specs.Calls.{AreAt, IsOfBody, IsCalled}
use Rattle.fancy_regex_linear.specs.Translation.{is_made}
use Rattle.fancy_regex_linear.specs.declared.callee.Callee.{Callee}
use Rattle.fancy_regex_linear.proofs.PlainLemmas.{regular_into}
use Rattle.fancy_regex_linear.proofs.ApartLemmas.{body_into}

mark_left : (xs : List Bool) (y : Bool) (k : ℕ) → k < length xs → mark_at (xs ++ y ∷ []) k ≡ mark_at xs k
mark_left [] y k h = absurd (omega arith)
mark_left (x ∷ xs) y zero h = refl
mark_left (x ∷ xs) y (suc k) h = mark_left xs y k (omega arith)

mark_last : (xs : List Bool) (y : Bool) (k : ℕ) → k ≡ length xs → mark_at (xs ++ y ∷ []) k ≡ y
mark_last [] y zero h = refl
mark_last [] y (suc k) h = absurd (omega arith)
mark_last (x ∷ xs) y zero h = absurd (omega arith)
mark_last (x ∷ xs) y (suc k) h = mark_last xs y k (omega arith)

pub no_mark : (xs : List Bool) (k : ℕ) → length xs ≤ k → mark_at xs k ≡ false
no_mark [] k h = refl
no_mark (x ∷ xs) zero h = absurd (omega arith)
no_mark (x ∷ xs) (suc k) h = no_mark xs k (omega arith)

-- tables of what is known
made_at : (called : List (Option Callee)) (i : ℕ) (o : Option Callee) → i < length called → o ≡ get_or called i o → is_made called i ≡ is_some o
made_at [] i o h is = absurd (omega arith)
made_at (x ∷ xs) zero o h is = here x o is
  where
    here : (x o : Option Callee) → o ≡ x → is_made (x ∷ xs) zero ≡ is_some o
    here None o is = rw is refl
    here (Some y) o is = rw is refl
made_at (x ∷ xs) (suc i) o h is = made_at xs i o (omega (arith, h)) is

none_made : (called : List (Option Callee)) (j : ℕ) → length called ≤ j → is_made called j ≡ false
none_made [] j h = refl
none_made (x ∷ xs) zero h = absurd (omega arith)
none_made (x ∷ xs) (suc j) h = none_made xs j (omega arith)

pub known_more : (called : List (Option Callee)) (xs ys : List Bool) (i : ℕ) (o : Option Callee) (y : Bool) → length xs ≡ i → i < length called
    → o ≡ get_or called i o → y ≡ is_some o → ys ≡ xs ++ y ∷ [] → ((j : ℕ) → j < i → mark_at xs j ≡ is_made called j)
    → (j : ℕ) → j < i + 1 → mark_at ys j ≡ is_made called j
known_more called xs ys i o y long inside is some made before j lt =
    rw made
    (⊎_elim (λ (below : j < i). mark_left xs y j (omega (arith, long)) ∙ before j below)
    (λ (above : i ≤ j).
    let here : j ≡ i = omega (arith, lt, above) in rw here (mark_last xs y i (sym long) ∙ some ∙ sym (made_at called i o inside is)))
    (cases_lt j i))

pub known_all : (called : List (Option Callee)) (xs : List Bool) (i : ℕ) → length xs ≡ i → length called ≤ i
    → ((j : ℕ) → j < i → mark_at xs j ≡ is_made called j) → (j : ℕ) → mark_at xs j ≡ is_made called j
known_all called xs i long past before j =
    ⊎_elim (λ (below : j < i). before j below)
    (λ (above : i ≤ j). no_mark xs j (omega (arith, long, above)) ∙ sym (none_made called j (omega (arith, past, above))))
    (cases_lt j i)

-- what a call becomes stays so where classes are appended
append_get : {A : Type 0} (xs ys : List A) (j : ℕ) (x : A) → slice_get xs j ≡ Some x → slice_get (xs ++ ys) j ≡ Some x
append_get [] ys j x e = absurd (none-some x e)
append_get (y ∷ xs) ys zero x e = e
append_get (y ∷ xs) ys (suc j) x e = append_get xs ys j x e

some_at : {A : Type 0} (xs : List A) (j : ℕ) → j < length xs → (x : A) × (slice_get xs j ≡ Some x)
some_at [] j h = absurd (omega arith)
some_at (y ∷ xs) zero h = (y, refl)
some_at (y ∷ xs) (suc j) h = some_at xs j (omega arith)

pub stand_on : (cs ds : List (Text × Bool)) (k : ℕ) (xs : List (Text × Bool)) → AreAt cs k xs → AreAt (cs ++ ds) k xs
stand_on cs ds k xs at j h =
    let found = some_at xs j h in append_get cs ds (k + j) found.0 (at j h ∙ found.1) ∙ sym found.1

pub called_on : (groups : List Tree) (unicode : Bool) (cs ds : List (Text × Bool)) (depth j : ℕ) (x : Re) → IsCalled groups unicode cs depth j x
    → IsCalled groups unicode (cs ++ ds) depth j x
unfolding IsCalled
called_on groups unicode cs ds zero j x h = h
called_on groups unicode cs ds (suc depth) j x h =
    body_into (IsOfBody groups unicode cs (IsCalled groups unicode cs depth) j x) (IsOfBody groups unicode (cs ++ ds) (IsCalled groups unicode (cs ++ ds) depth) j x) (target groups j)
    (λ t e b. (
      b.0,
      b.1,
      regular_into (λ i. IsCalled groups unicode cs depth i (b.0 i)) (λ i. IsCalled groups unicode (cs ++ ds) depth i (b.0 i))
          (λ i. called_on groups unicode cs ds depth i (b.0 i)) false t b.2,
      b.3,
      stand_on cs ds b.1 (classes t) b.4,
    )) h
