-- The bytes of a single character.
use Rattle.std.proofs.Common.{◌≡◌, ◌≢◌, ℕ, List, [], ◌∷◌, ◌++◌, length, Some, None, sym, ap, ◌∙◌, append-nil, arith, subst}
use Rattle.std.specs.Prelude.{slice_get}
use Rattle.std.specs.Char.{IsScalar, encode_utf8}
use Rattle.std.specs.Str.{chars, IsUtf8}
use Rattle.std.proofs.lemmas.Str.{chars-append, chars_from_encodes, IsUtf8-encode, length-encode, len_utf8_bounds}

chars_alone : (c : ℕ) → IsScalar c → chars (encode_utf8 c) ≡ c ∷ []
chars_alone c scalar = sym (chars_from_encodes (c ∷ []) (encode_utf8 c) (IsUtf8-encode c scalar) (append-nil (encode_utf8 c)))

-- what is no text is no character
pub no_text : (bytes : List ℕ) → (IsUtf8 bytes → ⊥) → (c : ℕ) → IsScalar c → bytes ≢ encode_utf8 c
no_text bytes none c scalar is = none (subst IsUtf8 (sym is) (IsUtf8-encode c scalar))

-- nor is the empty text
pub no_bytes : (bytes : List ℕ) → length bytes ≡ 0 → (c : ℕ) → IsScalar c → bytes ≢ encode_utf8 c
no_bytes bytes none c scalar is = omega (arith, none, ap length is, length-encode c, (len_utf8_bounds c).0)

-- nor are two characters and more
pub two_chars : (bytes tail : List ℕ) (first second : ℕ) → IsScalar first → bytes ≡ encode_utf8 first ++ tail → Some second ≡ slice_get (chars tail) 0 →
    (c : ℕ) → IsScalar c → bytes ≢ encode_utf8 c
two_chars bytes tail first second scalar is more c other same =
    let all : c ∷ [] ≡ first ∷ chars tail =
    sym (chars_alone c other) ∙ ap chars (sym same ∙ is) ∙ chars-append (encode_utf8 first) tail (IsUtf8-encode first scalar)
    ∙ ap (λ (l : List ℕ). l ++ chars tail) (chars_alone first scalar) in
    let none : chars tail ≡ [] = cc in
    let never : Some second ≡ None = more ∙ ap (λ (l : List ℕ). slice_get l 0) none in
    absurd cc
