-- Lines, one after another.
use Rattle.std.proofs.Common.{◌≡◌, ℕ, zero, suc, ◌<◌, ◌≤◌, List, [], ◌∷◌, ◌++◌, None, length, get_or, take, ap, sym, ◌∙◌, append_assoc, append-nil, arith}
use Rattle.std.specs.Prelude.{codes}
use Rattle.std.specs.List.{flat_map, join_by}
use Rattle.fancy_regex.specs.Searches.{Match}
use Rattle.fancy_regex.specs.Ways.{Pairs}
use Rattle.fancy_search_text.specs.Lines.{lines_of, groups_text, group_text}

-- a line more is out, and one less is left
pub line_more : (text_of : Match → List ℕ) (out told : List ℕ) (m : Match) (before after : List Match) → before ≡ m ∷ after → told ≡ text_of m →
    ((out ++ told) ++ codes "\n") ++ lines_of text_of after ≡ out ++ lines_of text_of before
line_more text_of out told m before after e f = rw (e, f) (simp append_assoc)

-- all are out
pub lines_all : (text_of : Match → List ℕ) (out all : List ℕ) (left : List Match) → left ≡ [] → out ++ lines_of text_of left ≡ all → out ≡ all
lines_all text_of out all left e f = sym (append-nil out) ∙ ap (λ ms. out ++ lines_of text_of ms) (sym e) ∙ f

-- a piece more
flat_map_next : {X : Type 0} (g : X → List ℕ) (xs : List X) (j : ℕ) (d : X) → j < length xs → flat_map g (take j xs) ++ g (get_or xs j d) ≡ flat_map g (take (suc j) xs)
flat_map_next g [] j d h = absurd (omega arith)
flat_map_next g (x ∷ xs) zero d h = sym (append-nil (g x))
flat_map_next g (x ∷ xs) (suc j) d h = append_assoc (g x) _ _ ∙ ap (λ ys. g x ++ ys) (flat_map_next g xs j d (omega arith))

module _ {X : Type 0} (f : X → List ℕ) (sep : List ℕ) where
  joined_first : (xs : List X) (i : ℕ) (d : X) → i ≤ 0 → i < length xs → join_by f sep (take i xs) ++ f (get_or xs i d) ≡ join_by f sep (take (suc i) xs)
  joined_first [] i d none h = absurd (omega arith)
  joined_first (x ∷ xs) zero d none h = sym (append-nil (f x))
  joined_first (x ∷ xs) (suc i) d none h = absurd (omega arith)

  joined_more : (xs : List X) (i : ℕ) (d : X) → 0 < i → i < length xs → (join_by f sep (take i xs) ++ sep) ++ f (get_or xs i d) ≡ join_by f sep (take (suc i) xs)
  joined_more [] i d some h = absurd (omega arith)
  joined_more (x ∷ xs) zero d some h = absurd (omega arith)
  joined_more (x ∷ xs) (suc j) d some h =
      append_assoc (f x ++ flat_map (λ y. sep ++ f y) (take j xs)) sep (f (get_or xs j d))
      ∙ append_assoc (f x) _ _
      ∙ ap (λ ys. f x ++ ys) (flat_map_next (λ y. sep ++ f y) xs j d (omega arith))

-- the first group
pub group_first : (out line : List ℕ) (spans : Pairs) (k : ℕ) → k ≤ 0 → k < length spans → line ≡ out ++ groups_text (take k spans) →
    line ++ group_text (get_or spans k None) ≡ out ++ groups_text (take (suc k) spans)
group_first out line spans k none within e =
    ap (λ xs. xs ++ group_text (get_or spans k None)) e ∙ append_assoc out _ _ ∙ ap (λ xs. out ++ xs) (joined_first group_text (codes " ") spans k None none within)

-- and one more
pub group_more : (out line : List ℕ) (spans : Pairs) (k : ℕ) → 0 < k → k < length spans → line ≡ out ++ groups_text (take k spans) →
    (line ++ codes " ") ++ group_text (get_or spans k None) ≡ out ++ groups_text (take (suc k) spans)
group_more out line spans k some within e =
    ap (λ xs. (xs ++ codes " ") ++ group_text (get_or spans k None)) e
    ∙ ap (λ xs. xs ++ group_text (get_or spans k None)) (append_assoc out _ _)
    ∙ append_assoc out _ _
    ∙ ap (λ xs. out ++ xs) (joined_more group_text (codes " ") spans k None some within)
