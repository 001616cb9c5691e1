-- Characters with one folding, and ranges of them.
use Rattle.std.proofs.Common.{◌≡◌, ℕ, zero, suc, ◌+◌, ◌<◌, ◌≤◌, Bool, true, false, not, ◌&&◌, ◌||◌, ◌==◌, List, [], ◌∷◌, ◌++◌, length, take, get_or, Contains, refl, sym, ap, ap₂, ◌∙◌, arith, inl, inr, ⊎_elim, eqb-true, eq-eqb, zero-lt-suc, suc-le-suc, le_of_suc-le-suc, not-suc-le-zero}
use Rattle.std.proofs.lemmas.Bool.{and_parts, and_from, or_cases, false_from_ne_true, ne_eqb, both_ways, cases_Bool}
use Rattle.std.proofs.lemmas.Bool.Decides.{same_from_decides, nat_tests}
use Rattle.regex_class.specs.Ranges.{Range, in_range, in_ranges}
use Rattle.std.proofs.lemmas.List.{take_more}
use Rattle.regex_class.proofs.RangesLemmas.{in_range_tells, in_ranges-push, in_ranges-nil, or_assoc, or-false}
use Rattle.ucd_table.specs.Rows.{in_ranges as in_rows}
use Rattle.ucd_case.specs.CaseFolding.{simple_fold, IsFoldPairs}
use Rattle.ucd_case.proofs.BoundLemmas.{simple_fold_idem}
use Rattle.fancy_regex_class.specs.Classes.{ascii_lower, folded}

-- the range of one number
pub in_single : (n c : ℕ) → in_range (n, n) c ≡ (c == n)
in_single n c = grind (arith, nat_tests, in_range_tells (n, n) c)

-- the two readings of ranges agree
pub same_ranges : (rs : List Range) (c : ℕ) → in_ranges rs c ≡ in_rows rs c
unfolding in_ranges in_rows in_range
same_ranges [] c = refl
same_ranges (r ∷ rs) c = ap (λ b. in_range r c || b) (same_ranges rs c)

-- a pair leads from one number to the other
abbrev pub has_pair : ℕ → List (ℕ × ℕ) → ℕ → Bool
has_pair w [] c = false
has_pair w (p ∷ ps) c = ((p.0 == w) && (p.1 == c)) || has_pair w ps c

pub has_pair-push : (w : ℕ) (ps : List (ℕ × ℕ)) (p : ℕ × ℕ) (c : ℕ) → has_pair w (ps ++ p ∷ []) c ≡ (has_pair w ps c || ((p.0 == w) && (p.1 == c)))
has_pair-push w [] p c = elim ((p.0 == w) && (p.1 == c)) as (λ b. (b || false) ≡ b) [ true ↦ refl | false ↦ refl ]
has_pair-push w (q ∷ ps) p c =
    elim ((q.0 == w) && (q.1 == c)) as (λ b. (b || has_pair w (ps ++ p ∷ []) c) ≡ ((b || has_pair w ps c) || ((p.0 == w) && (p.1 == c)))) [
      | true ↦ refl
      | false ↦ has_pair-push w ps p c
    ]

to_contains : (w : ℕ) (ps : List (ℕ × ℕ)) (c : ℕ) → has_pair w ps c ≡ true → Contains {X = ℕ × ℕ} ps (w, c)
to_contains w [] c h = cc
to_contains w (p ∷ ps) c h =
    ⊎_elim
    (λ here. let both = and_parts (p.0 == w) (p.1 == c) here in
    (zero, zero-lt-suc _, ap₂ (λ a b. (a, b)) (eqb-true p.0 w both.0) (eqb-true p.1 c both.1)))
    (λ later. let rest = to_contains w ps c later in (suc rest.0, suc-le-suc rest.1, rest.2))
    (or_cases ((p.0 == w) && (p.1 == c)) (has_pair w ps c) h)

from_contains : (w : ℕ) (ps : List (ℕ × ℕ)) (c : ℕ) → Contains {X = ℕ × ℕ} ps (w, c) → has_pair w ps c ≡ true
from_contains w [] c (k, lt, at) = absurd (not-suc-le-zero lt)
from_contains w (p ∷ ps) c (zero, lt, at) =
    rw (and_from (p.0 == w) (p.1 == c) (eq-eqb p.0 w (ap (λ (q : ℕ × ℕ). q.0) at)) (eq-eqb p.1 c (ap (λ (q : ℕ × ℕ). q.1) at))) refl
from_contains w (p ∷ ps) c (suc k, lt, at) =
    rw (from_contains w ps c (k, le_of_suc-le-suc lt, at)) (elim ((p.0 == w) && (p.1 == c)) as (λ b. (b || true) ≡ true) [ true ↦ refl | false ↦ refl ])

-- another number with the same folding
abbrev pub is_partner : ℕ → ℕ → Bool
is_partner w c = not (c == w) && (simple_fold c == simple_fold w)

pub partner_pairs : (ps : List (ℕ × ℕ)) (w c : ℕ) → IsFoldPairs ps → has_pair w ps c ≡ is_partner w c
partner_pairs ps w c is =
    same_from_decides {P = Contains {X = ℕ × ℕ} ps (w, c)} (has_pair w ps c) (is_partner w c)
    (to_contains w ps c, from_contains w ps c) (
      (λ h. let both = and_parts (not (c == w)) (simple_fold c == simple_fold w) h in
          (is w c).1 ((λ e. both_ways (not (c == w)) (ap not (eq-eqb c w (sym e))) both.0), sym (eqb-true (simple_fold c) (simple_fold w) both.1))),
      (λ h. let both = (is w c).0 h in
          and_from (not (c == w)) (simple_fold c == simple_fold w) (ap not (ne_eqb c w (λ e. both.0 (sym e)))) (eq-eqb (simple_fold c) (simple_fold w) (sym both.1))),
    )

lower_idem : (c : ℕ) → ascii_lower (ascii_lower c) ≡ ascii_lower c
lower_idem c = grind (arith, nat_tests)

folded_idem : (unicode : Bool) (c : ℕ) → folded unicode (folded unicode c) ≡ folded unicode c
folded_idem true c = simple_fold_idem c
folded_idem false c = lower_idem c

-- no character has a folding that folds to another character
pub no_folding : (unicode : Bool) (w c : ℕ) → (folded unicode w == w) ≡ false → (folded unicode c == w) ≡ false
no_folding unicode w c other =
    false_from_ne_true (folded unicode c == w) (λ same.
    let is = eqb-true (folded unicode c) w same in
    both_ways (folded unicode w == w) other (eq-eqb (folded unicode w) w (ap (folded unicode) (sym is) ∙ folded_idem unicode c ∙ is)))

-- a character and its partners have its folding
pub with_partners : (w c : ℕ) → simple_fold w ≡ w → ((c == w) || is_partner w c) ≡ (simple_fold c == w)
with_partners w c own =
    elim (cases_Bool (c == w)) [
      | inl same ↦ let is = eqb-true c w same in rw same (sym (eq-eqb (simple_fold c) w (ap simple_fold is ∙ own)))
      | inr other ↦ rw (other, own) refl
    ]

-- a wide character is its own folding outside Unicode mode
pub lower_wide : (w c : ℕ) → 128 ≤ c → (ascii_lower c == w) ≡ (c == w)
lower_wide w c low = ap (λ n. n == w) (let own : ascii_lower c ≡ c = grind (arith, nat_tests) in own)

equal_either_way : (a b : ℕ) → (a == b) ≡ (b == a)
equal_either_way a b = grind (arith, nat_tests)

module _ (w : ℕ) (ps : List (ℕ × ℕ)) (i d : ℕ) (start : Bool) (inside : i < length ps) where
  abbrev p : ℕ × ℕ
  p = get_or ps i (0, 0)

  abbrev so_far : Bool
  so_far = has_pair w (take i ps) d

  next : has_pair w (take (i + 1) ps) d ≡ (so_far || ((p.0 == w) && (p.1 == d)))
  next = ap (λ l. has_pair w l d) (take_more ps i (0, 0) inside) ∙ has_pair-push w (take i ps) p d

  -- a pair of the number is added
  pub added : (before after : List Range) → in_ranges before d ≡ (start || so_far) → p.0 ≡ w → after ≡ before ++ (p.1, p.1) ∷ []
      → in_ranges after d ≡ (start || has_pair w (take (i + 1) ps) d)
  added before after inv is made =
      ap (λ l. in_ranges l d) made ∙ in_ranges-push before (p.1, p.1) d ∙ ap₂ ◌||◌ inv (in_single p.1 d)
      ∙ sym (or_assoc start so_far (d == p.1))
      ∙ ap (λ b. start || (so_far || b)) (equal_either_way d p.1 ∙ ap (λ b. b && (p.1 == d)) (sym (eq-eqb p.0 w is)))
      ∙ ap (λ b. start || b) (sym next)

  -- a pair of another number is not
  pub passed : (before after : List Range) → in_ranges before d ≡ (start || so_far) → (p.0 ≡ w → ⊥) → after ≡ before
      → in_ranges after d ≡ (start || has_pair w (take (i + 1) ps) d)
  passed before after inv other same =
      ap (λ l. in_ranges l d) same ∙ inv
      ∙ ap (λ b. start || b) (sym (or-false so_far) ∙ ap (λ b. so_far || (b && (p.1 == d))) (sym (ne_eqb p.0 w other)) ∙ sym next)

module _ (unicode : Bool) (w d : ℕ) (pushed : List Range) (made : pushed ≡ (w, w) ∷ []) where
  here : in_ranges pushed d ≡ (d == w)
  here = ap (λ l. in_ranges l d) made ∙ in_ranges-push [] (w, w) d ∙ ap (λ b. b || in_range (w, w) d) (in_ranges-nil d) ∙ in_single w d

  pub found_with : (final : List Range) → unicode ≡ true → folded unicode w ≡ w → in_ranges final d ≡ (in_ranges pushed d || is_partner w d)
      → in_ranges final d ≡ (folded unicode d == w)
  found_with final on own all =
      all ∙ ap (λ b. b || is_partner w d) here ∙ with_partners w d (ap (λ u. folded u w) (sym on) ∙ own) ∙ ap (λ u. folded u d == w) (sym on)

  pub found_alone : unicode ≡ false → 128 ≤ d → in_ranges pushed d ≡ (folded unicode d == w)
  found_alone off low = here ∙ sym (lower_wide w d low) ∙ ap (λ u. folded u d == w) (sym off)
