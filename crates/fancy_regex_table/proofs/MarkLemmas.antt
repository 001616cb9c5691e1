-- Marks of classes and of characters, and cells that are replaced.
use Rattle.std.proofs.Common.{◌≡◌, ◌∙◌, ◌≢◌, inl, inr, ℕ, zero, suc, ◌+◌, ◌<◌, ◌≤◌, Bool, true, false, List, length, Some, refl, sym, ap, subst, arith, ⊎_elim, get_or, get_or-set_other, get_or-set_same, length-set, replicate}
use Rattle.std.specs.Prelude.{set}
use Rattle.std.proofs.lemmas.Bool.{cases_lt, false≢true}
use Rattle.std.proofs.lemmas.List.{get_or_past}
use Rattle.std.proofs.lemmas.Option.{slice_get_within, get_or_from_slice_get, slice_get-get_or}
use Rattle.std.specs.Prelude.{slice_get, slice_index_or}
use Rattle.fancy_regex_table.specs.Needed.{HasCell, Resets, IsEnded, AreEnded}
use Rattle.fancy_regex_table.specs.declared.row.Cell.{Cell}
use Rattle.fancy_regex_table.specs.declared.row.Cell.TheVariants.{Idle}
use Rattle.fancy_regex_table.specs.declared.rows.FreshRow.{FreshRow}

-- a place is this one, or another
same_or_other : (i k : ℕ) (P : Type 0) → (i ≡ k → P) → (i ≢ k → P) → P
same_or_other i k P same other =
    ⊎_elim (λ (less : i < k). other (omega (arith, less)))
    (λ (ge : k ≤ i). ⊎_elim (λ (more : k < i). other (omega (arith, more))) (λ (le : i ≤ k). same (omega (arith, ge, le))) (cases_lt k i))
    (cases_lt i k)

pub none_marked : (n k : ℕ) → slice_index_or (replicate n false) k false ≡ true → ⊥
none_marked zero k e = false≢true e
none_marked (suc n) zero e = false≢true e
none_marked (suc n) (suc k) e = none_marked n k e

-- one more mark
pub marked_more : (P : ℕ → Type 0) (marks : List Bool) (k : ℕ) (b : Bool) → k < length marks → ((i : ℕ) → get_or marks i false ≡ true → P i) → (b ≡ true → P k)
    → (i : ℕ) → get_or (set marks k b) i false ≡ true → P i
marked_more P marks k b within all one i e =
    same_or_other i k (P i)
    (λ (same : i ≡ k). subst P (sym same) (one (sym (get_or-set_same marks k b false within) ∙ ap (λ (j : ℕ). get_or (set marks k b) j false) (sym same) ∙ e)))
    (λ (other : i ≢ k). all i (sym (get_or-set_other marks k i b false other) ∙ e))

-- one more cell says that nothing is under way
pub ended_more : (fresh : List FreshRow) (old cells : List Cell) (i : ℕ) (d : Cell) → i < length cells → AreEnded fresh old cells → Resets fresh (get_or cells i d)
    → AreEnded fresh old (set cells i Idle)
ended_more fresh old cells i d within is resets = record {
  long = length-set cells i Idle ∙ is.long;
  each = λ k cell there.
      same_or_other k i (IsEnded fresh old k cell)
      (λ (same : k ≡ i).
      let idle : cell ≡ Idle =
      sym (get_or_from_slice_get (set cells i Idle) k cell d there) ∙ ap (λ (j : ℕ). get_or (set cells i Idle) j d) same ∙ get_or-set_same cells i Idle d within in
      let before : HasCell old i (Resets fresh) =
      ⊎_elim (λ (stays : slice_get old i ≡ Some (get_or cells i d)). record { cell = get_or cells i d; is_there = stays; is_so = resets })
      (λ (ended : (get_or cells i d ≡ Idle) × HasCell old i (Resets fresh)). ended.1)
      (is.each i (get_or cells i d) (slice_get-get_or cells i d within)) in
      inr (idle, subst (λ (j : ℕ). HasCell old j (Resets fresh)) (sym same) before))
      (λ (other : k ≢ i).
      let long = length-set cells i Idle in
      let inside : k < length cells = omega (arith, slice_get_within (set cells i Idle) k cell there, long) in
      is.each k cell (slice_get-get_or cells k cell inside ∙ ap Some (sym (get_or-set_other cells i k Idle cell other) ∙ get_or_from_slice_get (set cells i Idle) k cell cell there)));
}

-- the same up to a place
pub marked_at : (P : ℕ → Type 0) (marks : List Bool) (k : ℕ) (b : Bool) → k < length marks → ((i : ℕ) → i < k → get_or marks i false ≡ true → P i) → (b ≡ true → P k)
    → (i : ℕ) → i < k + 1 → get_or (set marks k b) i false ≡ true → P i
marked_at P marks k b within all one i low e =
    same_or_other i k (P i)
    (λ (same : i ≡ k). subst P (sym same) (one (sym (get_or-set_same marks k b false within) ∙ ap (λ (j : ℕ). get_or (set marks k b) j false) (sym same) ∙ e)))
    (λ (other : i ≢ k). all i (omega (arith, low, other)) (sym (get_or-set_other marks k i b false other) ∙ e))

-- marks that are all this one
pub all_as : (n : ℕ) (mark : Bool) (k : ℕ) → slice_index_or (replicate n mark) k false ≡ true → mark ≡ true
all_as zero mark k e = absurd (false≢true e)
all_as (suc n) mark zero e = e
all_as (suc n) mark (suc k) e = all_as n mark k e

-- marks that stay where one is added
pub mark_kept : (marks : List Bool) (k i : ℕ) → k < length marks → get_or marks i false ≡ true → get_or (set marks k true) i false ≡ true
mark_kept marks k i within is =
    same_or_other i k (get_or (set marks k true) i false ≡ true)
    (λ (same : i ≡ k). ap (λ (j : ℕ). get_or (set marks k true) j false) same ∙ get_or-set_same marks k true false within)
    (λ (other : i ≢ k). get_or-set_other marks k i true false other ∙ is)

-- the marks of some are among those of others
pub among_marks : (used marked : List Bool) → length used ≡ 256 → ((k : ℕ) → k < 256 → get_or used k false ≡ true → get_or marked k false ≡ true)
    → (k : ℕ) → get_or used k false ≡ true → get_or marked k false ≡ true
among_marks used marked long all k is =
    ⊎_elim (λ (less : k < 256). all k less is)
    (λ (over : 256 ≤ k). absurd (false≢true (sym (get_or_past used k false (omega (arith, over, long))) ∙ is)))
    (cases_lt k 256)
