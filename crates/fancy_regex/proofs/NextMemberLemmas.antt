-- The members that a table passes over may not match.
use Rattle.std.proofs.Common.{◌≡◌, ℕ, zero, suc, ◌+◌, ◌-◌, ◌<◌, ◌≤◌, Bool, true, false, List, [], ◌∷◌, length, drop, Option, Some, None, refl, sym, ap, ◌∙◌, ⊎_elim, arith, if◌then◌else◌}
use Rattle.std.specs.Prelude.{slice_get}
use Rattle.std.proofs.lemmas.Bool.{cases_lt}
use Rattle.fancy_regex.specs.MemberStarts.{may_start_with, next_member}
use Rattle.fancy_regex.specs.StartTables.{next_of, Serves}
use Rattle.fancy_regex.specs.declared.start_table.StartTable.{StartTable}

abbrev Starts : Type 0
Starts = Option (List Bool)

slice_get_drop : {A : Type 0} (xs : List A) (k i : ℕ) → slice_get (drop k xs) i ≡ slice_get xs (k + i)
slice_get_drop xs zero i = let same : i ≡ 0 + i = omega arith in ap (slice_get xs) same
slice_get_drop [] (suc k) i = refl
slice_get_drop (x ∷ xs) (suc k) i = let same : suc (k + i) ≡ suc k + i = omega arith in slice_get_drop xs k i ∙ ap (slice_get (x ∷ xs)) same

module _ (byte : Option ℕ) where
  abbrev IsWithin : ℕ → ℕ → ℕ → Type 0
  IsWithin k n next = (k ≤ next) × (next ≤ k + n)

  -- the next member is no earlier one, and at most that after the last
  pub next_within : (ms : List Starts) (k : ℕ) → IsWithin k (length ms) (next_member byte k ms)
  next_within [] k = (omega arith, omega arith)
  next_within (m ∷ ms) k = by_test (may_start_with m byte) (next_within ms (k + 1))
    where
      by_test : (b : Bool) → IsWithin (k + 1) (length ms) (next_member byte (k + 1) ms) →
          IsWithin k (length (m ∷ ms)) (if b then k else next_member byte (k + 1) ms)
      by_test true rest = (omega arith, omega arith)
      by_test false rest = (omega (arith, rest.0), omega (arith, rest.1))

  -- the member with this place in a list may not match
  abbrev IsPassed : List Starts → ℕ → Type 0
  IsPassed ms i = (m : Starts) × (slice_get ms i ≡ Some m) × (may_start_with m byte ≡ false)

  -- a member before the next one may not match
  passed : (ms : List Starts) (k j : ℕ) → k ≤ j → j < next_member byte k ms → IsPassed ms (j - k)
  passed [] k j low high = absurd (omega (arith, low, high))
  passed (m ∷ ms) k j low high = by_test (passed ms (k + 1) j) (may_start_with m byte) refl high
    where
      by_place : (k + 1 ≤ j → IsPassed ms (j - (k + 1))) → may_start_with m byte ≡ false → IsPassed (m ∷ ms) (j - k)
      by_place rest barred =
          ⊎_elim (λ (past : k < j).
          let later = rest (omega (arith, past)) in
          let step : j - k ≡ suc (j - (k + 1)) = omega (arith, past) in
          (later.0, ap (slice_get (m ∷ ms)) step ∙ later.1, later.2))
          (λ (here : j ≤ k). let first : j - k ≡ 0 = omega (arith, here) in (m, ap (slice_get (m ∷ ms)) first, barred))
          (cases_lt k j)

      by_test : (k + 1 ≤ j → j < next_member byte (k + 1) ms → IsPassed ms (j - (k + 1))) → (b : Bool) → may_start_with m byte ≡ b →
          j < (if b then k else next_member byte (k + 1) ms) → IsPassed (m ∷ ms) (j - k)
      by_test rest true e lt = absurd (omega (arith, low, lt))
      by_test rest false e lt = by_place (λ le. rest le lt) e

module _ (table : StartTable) (members : List Starts) (serves : Serves table members) where
  -- what a table gives for a number: no earlier one, and the members between may not match
  abbrev pub Passes : Option ℕ → ℕ → Type 0
  Passes byte k =
      (k ≤ next_of table byte k)
      × ((j : ℕ) → k ≤ j → j < next_of table byte k → (m : Starts) × (slice_get members j ≡ Some m) × (may_start_with m byte ≡ false))

  passes_by : (byte : Option ℕ) (k : ℕ) → next_of table byte k ≡ next_member byte k (drop k members) → Passes byte k
  passes_by byte k is =
      let within = next_within byte (drop k members) k in (
        omega (arith, is, within.0),
        λ j low high.
            let m = passed byte (drop k members) k j low (omega (arith, is, high)) in
            let place : k + (j - k) ≡ j = omega (arith, low) in
            (m.0, ap (slice_get members) (sym place) ∙ sym (slice_get_drop members k (j - k)) ∙ m.1, m.2),
      )

  pub passes : (byte : Option ℕ) (k : ℕ) → Passes byte k
  passes None k = passes_by None k (serves.at_end k)
  passes (Some b) k =
      ⊎_elim (λ (lt : b < 256). passes_by (Some b) k (serves.at_byte b k lt))
      (λ (ge : 256 ≤ b). let same : next_of table (Some b) k ≡ k = serves.beyond b k ge in (omega (arith, same), λ j low high. absurd (omega (arith, same, low, high))))
      (cases_lt b 256)
