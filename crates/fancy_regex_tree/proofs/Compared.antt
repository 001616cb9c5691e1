-- Texts and rows of trees, compared.
use Rattle.std.proofs.Common.{◌≡◌, ℕ, ◌+◌, ◌<◌, ◌≤◌, ◌&&◌, Bool, true, false, List, [], ◌∷◌, length, map, drop, get_or, refl, ap, sym, ◌∙◌, chars, IsUtf8, arith}
use Rattle.std.proofs.lemmas.List.{drop_more, drop_all}
use Rattle.std.proofs.lemmas.Str.{encodes-chars}
use Rattle.std.proofs.lemmas.Slice.Eq.{bytes_eq-Decides}
use Rattle.std.proofs.lemmas.Bool.Decides.{same_from_decides}
use Rattle.std.proofs.lemmas.Bool.{and_right}
use Rattle.std.specs.Str.{bytes_eq, encode_utf8_all}
use Rattle.fancy_regex_tree.specs.Tree.{Tree, trees}
use Rattle.fancy_regex_tree.specs.Equal.{same_list, same_tree, same_trees}

-- texts are the same where their bytes are
pub same_chars : (q name : List ℕ) → IsUtf8 q → IsUtf8 name → bytes_eq q name ≡ same_list (chars q) (chars name)
same_chars q name uq un =
    let there : same_list (chars q) (chars name) ≡ true → q ≡ name = λ h.
    sym (encodes-chars q uq) ∙ ap encode_utf8_all ((bytes_eq-Decides (chars q) (chars name)).0 h) ∙ encodes-chars name un in
    let back : q ≡ name → same_list (chars q) (chars name) ≡ true = λ e. (bytes_eq-Decides (chars q) (chars name)).1 (ap chars e) in
    same_from_decides (bytes_eq q name) (same_list (chars q) (chars name)) (bytes_eq-Decides q name) (there, back)

pub and_true : (b : Bool) → b ≡ (b && true)
and_true true = refl
and_true false = refl

module _ {X : Type 0} (f : X → Tree) where
  abbrev pub rows_same : List X → List X → Bool
  rows_same xs ys = same_trees (trees (map f xs)) (trees (map f ys))

  at_both : (xs ys : List X) (i : ℕ) (x y : X) → i < length xs → i < length ys → x ≡ get_or xs i x → y ≡ get_or ys i y
      → rows_same (drop i xs) (drop i ys) ≡ (same_tree (f x) (f y) && rows_same (drop (i + 1) xs) (drop (i + 1) ys))
  at_both xs ys i x y hx hy ex ey =
      let p : drop i xs ≡ x ∷ drop (i + 1) xs = drop_more xs i x hx ∙ ap (λ z. z ∷ drop (i + 1) xs) (sym ex) in
      let q : drop i ys ≡ y ∷ drop (i + 1) ys = drop_more ys i y hy ∙ ap (λ z. z ∷ drop (i + 1) ys) (sym ey) in
      λ j. rows_same (p j) (q j)

  -- one more of each is the same
  pub row_step : (xs ys : List X) (i : ℕ) (x y : X) (whole b : Bool) → i < length xs → i < length ys → x ≡ get_or xs i x → y ≡ get_or ys i y
      → rows_same (drop i xs) (drop i ys) ≡ whole → b ≡ same_tree (f x) (f y) → b ≡ true → rows_same (drop (i + 1) xs) (drop (i + 1) ys) ≡ whole
  row_step xs ys i x y whole b hx hy ex ey so_far answer good =
      ap (λ p. p && rows_same (drop (i + 1) xs) (drop (i + 1) ys)) (sym good ∙ answer) ∙ sym (at_both xs ys i x y hx hy ex ey) ∙ so_far

  -- one of each is not
  pub row_stop : (xs ys : List X) (i : ℕ) (x y : X) (whole b : Bool) → i < length xs → i < length ys → x ≡ get_or xs i x → y ≡ get_or ys i y
      → rows_same (drop i xs) (drop i ys) ≡ whole → b ≡ same_tree (f x) (f y) → b ≡ false → false ≡ whole
  row_stop xs ys i x y whole b hx hy ex ey so_far answer bad =
      ap (λ p. p && rows_same (drop (i + 1) xs) (drop (i + 1) ys)) (sym bad ∙ answer) ∙ sym (at_both xs ys i x y hx hy ex ey) ∙ so_far

  -- both end
  pub row_end : (xs ys : List X) (i : ℕ) (whole : Bool) → length xs ≤ i → length ys ≤ i → rows_same (drop i xs) (drop i ys) ≡ whole → true ≡ whole
  row_end xs ys i whole px py so_far =
      let p : [] ≡ drop i xs = sym (drop_all i xs px) in let q : [] ≡ drop i ys = sym (drop_all i ys py) in
      (λ j. rows_same (p j) (q j)) ∙ so_far

  -- rows of different lengths are different
  pub lengths_differ : (xs ys : List X) → (length xs ≡ length ys → ⊥) → false ≡ rows_same xs ys
  lengths_differ [] [] h = absurd (h refl)
  lengths_differ [] (y ∷ ys) h = refl
  lengths_differ (x ∷ xs) [] h = refl
  lengths_differ (x ∷ xs) (y ∷ ys) h = sym (and_right (same_tree (f x) (f y)) (rows_same xs ys) (sym (lengths_differ xs ys (λ e. h (omega (arith, e))))))
