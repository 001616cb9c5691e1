-- What a map from names to numbers has for the characters of a name.
use Rattle.std.proofs.Common.{◌≡◌, ℕ, ◌-◌, Option, Some, None, List, [], ◌∷◌, length, refl, ap, sym, ◌∙◌, Vec, Global, chars, IsUtf8, slice_get, String, suc, arith}
use Rattle.std.specs.BTreeMap.{BTreeMap, get_by_text}
use Rattle.std.proofs.lemmas.Str.{scalars-chars, encodes-chars}
use Rattle.fancy_regex_tree.specs.Numbering.{last_number, lookup_in}

pub last_of_slice : (xs : List ℕ) → slice_get xs (length xs - 1) ≡ last_number xs
last_of_slice [] = refl
last_of_slice (x ∷ []) = refl
last_of_slice (x ∷ y ∷ xs) =
    let e : length (x ∷ y ∷ xs) - 1 ≡ suc (length (y ∷ xs) - 1) = omega arith in
    ap (slice_get (x ∷ y ∷ xs)) e ∙ last_of_slice (y ∷ xs)

module _ (m : BTreeMap (String Global) (Vec ℕ Global)) (bs : List ℕ) (text : IsUtf8 bs) where
  pub lookup_none : None ≡ get_by_text m bs → None ≡ lookup_in m (chars bs)
  unfolding lookup_in
  lookup_none h = rw (scalars-chars bs text, encodes-chars bs text, sym h) refl

  pub lookup_some : (v : Vec ℕ Global) (r : Option ℕ) → Some v ≡ get_by_text m bs → r ≡ last_number v.items → r ≡ lookup_in m (chars bs)
  unfolding lookup_in
  lookup_some v r h last = rw (scalars-chars bs text, encodes-chars bs text, sym h) last
