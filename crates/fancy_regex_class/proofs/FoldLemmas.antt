-- Characters that fold to ASCII characters.
use Rattle.std.proofs.Common.{◌≡◌, ℕ, ◌<◌, ◌≤◌, Bool, true, false, List, [], ◌∷◌, not, ◌||◌, ◌==◌, nat_le, nat_lt, slice_index_or, refl, sym, ap, ◌∙◌, arith, ⊎_elim, eqb-true, eq-eqb}
use Rattle.std.proofs.lemmas.Bool.{cases_lt, false≢true, ltb-true}
use Rattle.std.specs.Prelude.{if◌then◌else◌}
use Rattle.std.proofs.lemmas.Bool.Decides.{nat_tests}
use Rattle.ucd_table.specs.Rows.{in_ranges}
use Rattle.ucd_table.proofs.Computing.{tables}
use Rattle.ucd_table.proofs.Stepped.{Stepped, of_ranges, zip_stepped}
use Rattle.ucd_table.proofs.Facts.{Stepped-always, Stepped-beyond}
use Rattle.ucd_case.specs.CaseFolding.{simple_folding, simple_fold}
use Rattle.ucd_case.proofs.CaseFoldingLemmas.{simple_folding_stepped}
use Rattle.fancy_regex_class.specs.Classes.{ascii_lower, folded, folds_ascii}

abbrev wide : List (ℕ × ℕ)
wide = (128, 0x10_FFFF) ∷ []

-- a character that is not ASCII has no folding, or one that is not ASCII either, or one of two
abbrev fits : List ℕ → Bool → Bool
fits folding is_wide = not is_wide || (nat_le 128 (slice_index_or folding 0 128) || (slice_index_or folding 0 128 == 115 || slice_index_or folding 0 128 == 107))

all_fit : (c : ℕ) → c ≤ 0x10_FFFF → fits (simple_folding c) (in_ranges wide c) ≡ true
unfolding tables simple_folding_stepped
all_fit c le =
    let steps : Stepped (λ x. fits (simple_folding x) (in_ranges wide x)) =
    zip_stepped fits simple_folding (in_ranges wide) simple_folding_stepped (of_ranges wide refl) in
    Stepped-always (λ x. fits (simple_folding x) (in_ranges wide x)) steps refl c le

beyond : (c : ℕ) → 0x10_FFFF < c → simple_folding c ≡ []
unfolding tables simple_folding_stepped
beyond c more = Stepped-beyond simple_folding simple_folding_stepped refl c more

is_wide : (c : ℕ) → 128 ≤ c → c ≤ 0x10_FFFF → in_ranges wide c ≡ true
unfolding in_ranges
is_wide c low high = grind (arith, nat_tests)

-- what a fitting character folds to
of_folding : (c d : ℕ) (folding : List ℕ) → 128 ≤ c → d < 128 → (d ≡ 115 → ⊥) → (d ≡ 107 → ⊥) → fits folding true ≡ true → slice_index_or folding 0 c ≡ d → ⊥
of_folding c d [] low small s k fit is = omega (arith, low, small, is)
of_folding c d (x ∷ xs) low small s k fit is =
    let large : nat_le 128 x ≡ false = grind (arith, nat_tests) in
    let no_s : (x == 115) ≡ false = grind (arith, s, is) in
    let no_k : (x == 107) ≡ false = grind (arith, k, is) in
    false≢true (sym (ap (λ b. b || ((x == 115) || (x == 107))) large ∙ ap (λ b. b || (x == 107)) no_s ∙ no_k) ∙ fit)

-- no character that is not ASCII folds to an ASCII character but these two
pub wide_folds_wide : (c d : ℕ) → 128 ≤ c → d < 128 → (d ≡ 115 → ⊥) → (d ≡ 107 → ⊥) → simple_fold c ≡ d → ⊥
wide_folds_wide c d low small s k is =
    ⊎_elim
    (λ (far : 0x10_FFFF < c). omega (arith, low, small, sym (ap (λ v. slice_index_or v 0 c) (beyond c far)) ∙ is))
    (λ (near : c ≤ 0x10_FFFF). of_folding c d (simple_folding c) low small s k (sym (ap (fits (simple_folding c)) (is_wide c low near)) ∙ all_fit c near) is)
    (cases_lt 0x10_FFFF c)

lower_wide : (c d : ℕ) → 128 ≤ c → d < 128 → ascii_lower c ≡ d → ⊥
lower_wide c d low small is = grind (arith, nat_tests)

pub not_yes : (b : Bool) → (b ≡ true → ⊥) → b ≡ false
not_yes true never = absurd (never refl)
not_yes false never = refl

-- no character that is not ASCII has this folding
no_fold : (unicode : Bool) (c d : ℕ) → 128 ≤ c → d < 128 → (unicode ≡ true → (d ≡ 115 → ⊥) × (d ≡ 107 → ⊥)) → (folded unicode c == d) ≡ false
no_fold true c d low small other =
    not_yes (folded true c == d) (λ same. wide_folds_wide c d low small (other refl).0 (other refl).1 (eqb-true _ _ same))
no_fold false c d low small other = not_yes (folded false c == d) (λ same. lower_wide c d low small (eqb-true _ _ same))

by_tests : (unicode : Bool) (d : ℕ) (s k : Bool) → (d == 115) ≡ s → (d == 107) ≡ k → (if s || k then not unicode else nat_lt d 128) ≡ true
    → (c : ℕ) → 128 ≤ c → (folded unicode c == d) ≡ false
by_tests unicode d true k es ek said c low =
    let is = eqb-true d 115 es in
    no_fold unicode c d low (omega (arith, is)) (λ u. absurd (false≢true (sym (ap not u) ∙ said)))
by_tests unicode d false true es ek said c low =
    let is = eqb-true d 107 ek in
    no_fold unicode c d low (omega (arith, is)) (λ u. absurd (false≢true (sym (ap not u) ∙ said)))
by_tests unicode d false false es ek said c low =
    no_fold unicode c d low (ltb-true d 128 said) (λ _. ((λ e. false≢true (sym es ∙ eq-eqb d 115 e)), (λ e. false≢true (sym ek ∙ eq-eqb d 107 e))))

-- no character that is not ASCII has this folding
pub ascii_folding : (unicode : Bool) (d : ℕ) → folds_ascii unicode d ≡ true → (c : ℕ) → 128 ≤ c → (folded unicode c == d) ≡ false
ascii_folding unicode d said c low = by_tests unicode d (d == 115) (d == 107) refl refl said c low
