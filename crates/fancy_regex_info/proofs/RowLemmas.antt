-- Rows that are walked from their end.
use Rattle.std.proofs.Common.{◌≡◌, ℕ, ◌+◌, ◌-◌, ◌<◌, ◌≤◌, List, [], ◌∷◌, ◌++◌, length, take, drop, get_or, ap, ap₂, sym, ◌∙◌, arith, append_assoc}
use Rattle.std.proofs.lemmas.List.{append-nil, at_drop_more, take_more}
use Rattle.std.proofs.Math.Seq.{drop-length}

-- one item further to the front
pub one_before : {X Y : Type 0} (F : List X → Y) (xs : List X) (i : ℕ) (x : X) → 0 < i → i ≤ length xs → x ≡ get_or xs (i - 1) x →
    F (drop (i - 1) xs) ≡ F (x ∷ drop i xs)
one_before F xs i x some inside is =
    let one : i - 1 + 1 ≡ i = omega arith in
    at_drop_more F xs (i - 1) x (omega arith) ∙ ap₂ (λ y k. F (y ∷ drop k xs)) (sym is) one

-- none is left after the last
pub at_end : {X Y : Type 0} (F : List X → Y) (xs : List X) → F (drop (length xs) xs) ≡ F []
at_end F xs = ap F (drop-length xs)

-- the last alone
pub at_last : {X Y : Type 0} (F : List X → Y) (xs : List X) (x : X) → 0 < length xs → x ≡ get_or xs (length xs - 1) x →
    F (drop (length xs - 1) xs) ≡ F (x ∷ [])
at_last F xs x some is = one_before F xs (length xs) x some (omega arith) is ∙ at_end (λ ys. F (x ∷ ys)) xs

-- A list that is made part by part, in the order of the parts.
module _ {X Y : Type 0} (one : X → List Y) (row : List X → List Y) (none : row [] ≡ [])
    (more : (x : X) (xs : List X) → row (x ∷ xs) ≡ one x ++ row xs) where
  following : (xs : List X) (y : X) → row (xs ++ y ∷ []) ≡ row xs ++ one y
  following [] y = more y [] ∙ ap (λ zs. one y ++ zs) none ∙ append-nil (one y) ∙ sym (ap (λ zs. zs ++ one y) none)
  following (x ∷ xs) y =
      more x (xs ++ y ∷ []) ∙ ap (λ zs. one x ++ zs) (following xs y) ∙ sym (append_assoc (one x) (row xs) (one y))
      ∙ sym (ap (λ zs. zs ++ one y) (more x xs))

  -- before the first
  pub walk_begins : (start : List Y) (xs : List X) → start ≡ start ++ row (take 0 xs)
  walk_begins start xs = sym (ap (λ zs. start ++ zs) none ∙ append-nil start)

  -- one further
  pub walk_goes_on : (start now next : List Y) (xs : List X) (i : ℕ) (x : X) → i < length xs → x ≡ get_or xs i x →
      now ≡ start ++ row (take i xs) → next ≡ now ++ one x → next ≡ start ++ row (take (i + 1) xs)
  walk_goes_on start now next xs i x inside is was step =
      step ∙ ap (λ zs. zs ++ one x) was ∙ append_assoc start (row (take i xs)) (one x)
      ∙ ap (λ zs. start ++ zs) (sym (following (take i xs) x))
      ∙ ap (λ y. start ++ row (take i xs ++ y ∷ [])) is
      ∙ ap (λ zs. start ++ row zs) (sym (take_more xs i x inside))
