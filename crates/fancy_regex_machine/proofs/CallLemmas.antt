-- The slots that a call copies.
use Rattle.std.proofs.Common.{◌≡◌, ℕ, zero, suc, ◌+◌, List, length, refl, sym, ◌∙◌, subst}
use Rattle.std.specs.Prelude.{All, slice_index}
use Rattle.std.proofs.lemmas.List.{length-set}
use Rattle.fancy_regex_slots.specs.Memory.{Memory, Thread}
use Rattle.fancy_regex_program.specs.Machine.{copied}
use Rattle.fancy_regex_loops.specs.Threads.{KeepsSlotCount}

pub length-copied : (from to n : ℕ) (slots : List ℕ) → length (copied from to n slots) ≡ length slots
length-copied from to zero slots = refl
length-copied from to (suc n) slots =
    let before = copied from to n slots in
    length-set before (to + n) (slice_index before (from + n)) ∙ length-copied from to n slots

-- as many slots, and the same branches
pub keeps_slots : (old new : Memory) → length new.slots ≡ length old.slots → new.stack ≡ old.stack → KeepsSlotCount old new
keeps_slots old new same stack count has = record {
  current = same ∙ has.current;
  branches = subst (λ (ts : List Thread). All (λ (t : Thread). length t.slots ≡ count) ts) (sym stack) has.branches;
}
