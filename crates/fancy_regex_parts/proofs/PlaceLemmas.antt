-- Where the character before a place begins.
use Rattle.std.proofs.Common.{◌≡◌, ◌∙◌, ℕ, ◌+◌, ◌-◌, ◌≤◌, Bool, true, false, cond, List, length, Option, Some, None, refl, sym, ap, subst, arith, ⊎_elim, inl, inr, nat_le, leb-true, ◌==◌, ◌&&◌}
use Rattle.std.specs.Prelude.{slice_index, IfSome, IsCharBoundary}
use Rattle.std.specs.Char.{len_utf8}
use Rattle.std.proofs.lemmas.Bool.{eqb-true}
use Rattle.std.proofs.lemmas.Option.{none-some, same_Some}
use Rattle.std.proofs.lemmas.Str.{len_utf8_bounds}
use Rattle.regex_hir.specs.Text.{is_some_and, char_at, char_before, char_of_len_before}
use Rattle.regex_hir.proofs.TextLemmas.{char_at_fits}
use Rattle.regex_hir.proofs.Utf8Lemmas.{char_at_cases, IsOneByteAt, IsTwoBytesAt, IsThreeBytesAt, IsFourBytesAt}
use Rattle.regex_hir.proofs.OptionLemmas.{option_or_cases}

-- the lead byte of a character is no continuation byte
is_lead : (hay : List ℕ) (i c : ℕ) → char_at hay i ≡ Some c → 128 ≤ slice_index hay i → 192 ≤ slice_index hay i
is_lead hay i c e high =
    ⊎_elim (λ (x : IsOneByteAt hay i c). absurd (omega (arith, x.0, x.2)))
    (⊎_elim (λ (x : IsTwoBytesAt hay i c). omega (arith, x.3))
    (⊎_elim (λ (x : IsThreeBytesAt hay i c). omega (arith, x.3)) (λ (x : IsFourBytesAt hay i c). omega (arith, x.2))))
    (char_at_cases hay i c e).1

-- the text may be cut where a character begins
starts_character : (hay : List ℕ) (i c : ℕ) → char_at hay i ≡ Some c → IsCharBoundary hay i
starts_character hay i c e = (omega (arith, char_at_fits hay i c e), λ lt high. is_lead hay i c e high)

-- a character of so many bytes that ends at i
ends_there : (hay : List ℕ) (n i c : ℕ) → char_of_len_before hay n i ≡ Some c → (n ≤ i) × (len_utf8 c ≡ n) × (char_at hay (i - n) ≡ Some c)
ends_there hay n i c e = let parts = passes (nat_le n i) (char_at hay (i - n)) e in (leb-true n i parts.0, parts.1, parts.2)
  where
    tested : (b : Bool) (x : ℕ) → cond b (Some x) None ≡ Some c → (b ≡ true) × (x ≡ c)
    tested true x e = (refl, same_Some x c e)
    tested false x e = absurd (none-some c e)

    passes : (b : Bool) (o : Option ℕ) → cond (b && is_some_and o (λ x. len_utf8 x == n)) o None ≡ Some c → (b ≡ true) × (len_utf8 c ≡ n) × (o ≡ Some c)
    passes false o e = absurd (none-some c e)
    passes true None e = absurd (none-some c e)
    passes true (Some x) e =
        let both = tested (len_utf8 x == n) x e in
        (refl, ap len_utf8 (sym both.1) ∙ eqb-true (len_utf8 x) n both.0, ap Some both.1)

-- where a character that ends at i begins
abbrev pub Begins : List ℕ → ℕ → ℕ → Type 0
Begins hay i c = (len_utf8 c ≤ i) × (char_at hay (i - len_utf8 c) ≡ Some c)

at_length : (hay : List ℕ) (n i c : ℕ) → char_of_len_before hay n i ≡ Some c → Begins hay i c
at_length hay n i c e =
    let parts = ends_there hay n i c e in
    (omega (arith, parts.0, parts.1), subst (λ m. char_at hay (i - m) ≡ Some c) (sym parts.1) parts.2)

begins_before : (hay : List ℕ) (i c : ℕ) → char_before hay i ≡ Some c → Begins hay i c
unfolding char_before
begins_before hay i c e =
    ⊎_elim (λ x. at_length hay 1 i c x)
    (λ x. ⊎_elim (λ y. at_length hay 2 i c y)
    (λ y. ⊎_elim (λ z. at_length hay 3 i c z) (λ z. at_length hay 4 i c z.1) (option_or_cases _ _ c y.1))
    (option_or_cases _ _ c x.1))
    (option_or_cases _ _ c e)

-- the character before a place begins at a place, four bytes before at most
abbrev pub IsPrior : List ℕ → ℕ → ℕ → Type 0
IsPrior text i c = IsCharBoundary text (i - len_utf8 c) × (len_utf8 c ≤ i) × (len_utf8 c ≤ 4)

pub place_back : (text : List ℕ) (i : ℕ) (o : Option ℕ) → char_before text i ≡ o → IfSome o (IsPrior text i)
place_back text i None is = tt
place_back text i (Some c) is =
    let begins = begins_before text i c is in
    let bounds = len_utf8_bounds c in
    (starts_character text (i - len_utf8 c) c begins.1, begins.0, omega arith)

-- it fits before the place
pub fits_before : (text : List ℕ) (i : ℕ) (o : Option ℕ) → IfSome o (IsPrior text i) → IfSome o (λ c. len_utf8 c ≤ i)
fits_before text i None prior = tt
fits_before text i (Some c) prior = prior.1
