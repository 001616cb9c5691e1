-- Where a text occurs in another, and what it is to replace it there.
use Rattle.std.specs.Prelude.{◌≡◌, ◌≢◌, ℕ, zero, suc, ◌-◌, false, List, [], ◌∷◌, ◌++◌, length, Option, Some, None, option_map, nat_eq, if◌then◌else◌}
use Rattle.std.specs.List.{starts_with}

-- the offset of the first place at which the needle occurs in the text
unfoldable pub first_occurrence : List ℕ → List ℕ → Option ℕ
first_occurrence needle [] = if starts_with nat_eq [] needle then Some 0 else None
first_occurrence needle (b ∷ rest) =
    if starts_with nat_eq (b ∷ rest) needle then Some 0 else option_map (λ k. suc k) (first_occurrence needle rest)

-- The text with each occurrence of the needle replaced, from the left and without overlap. The number says how many bytes of an
-- occurrence that was replaced are still to be passed over.
unfoldable pub replaced_past : List ℕ → List ℕ → ℕ → List ℕ → List ℕ
replaced_past needle replacement n [] = []
replaced_past needle replacement (suc n) (b ∷ rest) = replaced_past needle replacement n rest
replaced_past needle replacement zero (b ∷ rest) =
    if starts_with nat_eq (b ∷ rest) needle then replacement ++ replaced_past needle replacement (length needle - 1) rest
    else b ∷ replaced_past needle replacement zero rest

abbrev pub plain_replaced : List ℕ → List ℕ → List ℕ → List ℕ
plain_replaced needle replacement text = replaced_past needle replacement 0 text

-- What the replacement of a needle that is not empty is, case by case: of an empty text, of a text that begins with the needle, and of
-- one that does not.
pub record IsByCases (needle replacement : List ℕ) : Type 0 where
  pub at_end : plain_replaced needle replacement [] ≡ []
  pub occurrence : (rest : List ℕ) → plain_replaced needle replacement (needle ++ rest) ≡ replacement ++ plain_replaced needle replacement rest
  pub other_byte : (b : ℕ) (rest : List ℕ) → starts_with nat_eq (b ∷ rest) needle ≡ false →
      plain_replaced needle replacement (b ∷ rest) ≡ b ∷ plain_replaced needle replacement rest

abbrev pub PlainReplacementIsByCases : Type 0
PlainReplacementIsByCases = (needle replacement : List ℕ) → needle ≢ [] → IsByCases needle replacement
