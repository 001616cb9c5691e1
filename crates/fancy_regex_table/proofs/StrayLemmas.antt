-- Characters that are of no string.
use Rattle.std.proofs.Common.{◌≡◌, ◌⊎◌, ℕ, ◌+◌, ◌<◌, List, length, Some, subst, arith, ⊎_elim}
use Rattle.std.specs.Prelude.{slice_get}
use Rattle.fancy_regex_table.specs.Needed.{HasCell, IsDone, IsStray}
use Rattle.fancy_regex_table.specs.declared.needed_choice.Reached.{Reached}
use Rattle.fancy_regex_table.specs.declared.row.Cell.{Cell}

-- after a character that is of no string the cell is as it is said of it
pub stray_cell : (cells : List Cell) (string : List ℕ) (class : ℕ) (it : Reached) (P : ℕ → Cell → Type 0) → IsStray string class → IsDone cells string class it P
    → HasCell cells (it.row + class) (P 0)
stray_cell cells string class it P stray done =
    let some = stray.some in
    ⊎_elim
    (λ (next : (done.after ≡ it.matched + 1) × (slice_get string it.matched ≡ Some class)). absurd (stray.none it.matched next.1))
    (λ (rest : ((done.after ≡ 1) × (slice_get string 0 ≡ Some class)) ⊎ (done.after ≡ 0)).
    ⊎_elim (λ (first : (done.after ≡ 1) × (slice_get string 0 ≡ Some class)). absurd (stray.none 0 first.1))
    (λ (none : done.after ≡ 0).
    ⊎_elim (λ (all : done.after ≡ length string). absurd (omega (arith, all, none, some)))
    (λ (has : HasCell cells (it.row + class) (P done.after)). subst (λ (k : ℕ). HasCell cells (it.row + class) (P k)) none has) done.done)
    rest)
    done.is_after
