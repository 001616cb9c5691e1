-- The cells of a table in one list.
use Rattle.std.proofs.Common.{◌≡◌, ℕ, ◌+◌, ◌*◌, ◌/◌, ◌<◌, ◌==◌, Bool, true, false, List, [], ◌∷◌, ◌++◌, length, Option, Some, None, refl, sym, ap, subst, ◌∙◌, arith, Vec, eq-eqb, eqb-true}
use Rattle.std.proofs.Math.Nat.{div-eq_of_lt, mul-add-div_right, mul-div_cancel}
use Rattle.std.specs.Prelude.{slice_get}
use Rattle.std.specs.declared.alloc.Global.{Global}
use Rattle.fancy_regex_table.specs.Cells.{Search, Tells, TellsBy}
use Rattle.fancy_regex_table.specs.Flat.{placed_cell, IsFlatCell, AreFlat, IsPlacedRow, ArePlaced}
use Rattle.fancy_regex_table.specs.Made.{AreFresh, AreFreshBy}
use Rattle.fancy_regex_table.specs.declared.row.Cell.{Cell}
use Rattle.fancy_regex_table.specs.declared.row.Cell.TheVariants.{Next, Unknown, Empty, EndsHere, EndsEarlier, Idle}
use Rattle.fancy_regex_table.specs.declared.row.Row.{Row}
use Rattle.fancy_regex_table.specs.declared.row.Row.TheVariants.{Fresh}
use Rattle.fancy_regex_table.specs.declared.rows.FreshRow.{FreshRow}
use Rattle.fancy_regex_table.specs.declared.sort.Sort.{Sort}
use Rattle.fancy_regex_table.proofs.Adding.{pushed}

row_of_place : (classes number class : ℕ) → class < classes → (number * classes + class) / classes ≡ number
row_of_place classes number class lt =
    let many : 0 < classes = omega arith in
    let none : class / classes ≡ 0 = div-eq_of_lt lt in
    mul-add-div_right many number class ∙ (let e : number + class / classes ≡ number = omega (arith, none) in e)

-- a place is of one row and of one class
pub one_place : (classes number class n k : ℕ) → class < classes → k < classes → number * classes + class ≡ n * classes + k → (number ≡ n) × (class ≡ k)
one_place classes number class n k lt less same =
    let row : number ≡ n = sym (row_of_place classes number class lt) ∙ ap (λ (p : ℕ). p / classes) same ∙ row_of_place classes n k less in
    let begin : number * classes ≡ n * classes = ap (λ (r : ℕ). r * classes) row in
    (row, omega (arith, same, begin))

-- one more cell
pub flat_pushed : (rows : List (Vec Cell Global)) (classes : ℕ) (cells : List Cell) (number class : ℕ) (cell : Cell) → AreFlat rows classes cells
    → class < classes → length cells ≡ number * classes + class → IsFlatCell rows classes number class cell → AreFlat rows classes (cells ++ cell ∷ [])
flat_pushed rows classes cells number class cell right lt long is =
    pushed (λ (place : ℕ) (x : Cell). (n k : ℕ) → k < classes → place ≡ n * classes + k → IsFlatCell rows classes n k x) cells cell right
    (λ n k less at.
    let same = one_place classes number class n k lt less (sym long ∙ at) in
    subst (λ (r : ℕ). IsFlatCell rows classes r k cell) same.0 (subst (λ (j : ℕ). IsFlatCell rows classes number j cell) same.1 is))

-- one more row for searches that begin
pub placed_pushed : (classes : ℕ) (fresh placed : List FreshRow) (it : FreshRow) → ArePlaced classes fresh placed → IsPlacedRow classes fresh it
    → ArePlaced classes fresh (placed ++ it ∷ [])
placed_pushed classes fresh placed it all is = pushed (λ (i : ℕ) (x : FreshRow). IsPlacedRow classes fresh x) placed it all is

if_row : Bool → Option Row → Option Row
if_row true row = row
if_row false row = None

-- the row that begins at this place of the list of cells
pub row_at : List Row → ℕ → ℕ → Option Row
row_at rows classes place = if_row (place / classes * classes == place) (slice_get rows (place / classes))

pub row_begins : (rows : List Row) (classes number : ℕ) → 0 < classes → row_at rows classes (number * classes) ≡ slice_get rows number
unfolding if_row row_at
row_begins rows classes number many =
    let back : number * classes / classes ≡ number = mul-div_cancel number many in
    let same : (number * classes / classes * classes == number * classes) ≡ true =
    eq-eqb (number * classes / classes * classes) (number * classes) (ap (λ (n : ℕ). n * classes) back) in
    ap (λ (b : Bool). if_row b (slice_get rows (number * classes / classes))) same ∙ ap (slice_get rows) back

-- the row that begins at a place has a number
pub record HasNumber (rows : List Row) (classes place : ℕ) (row : Row) : Type 0 where
  pub number : ℕ
  pub place_is : place ≡ number * classes
  pub is_there : slice_get rows number ≡ Some row

numbered : (rows : List Row) (classes place : ℕ) (row : Row) (b : Bool) → (place / classes * classes == place) ≡ b
    → if_row b (slice_get rows (place / classes)) ≡ Some row → HasNumber rows classes place row
unfolding if_row
numbered rows classes place row true same is = record {
  number = place / classes;
  place_is = sym (eqb-true (place / classes * classes) place same);
  is_there = is;
}
numbered rows classes place row false same is = absurd (let e : None ≡ Some row = is in cc)

pub has_number : (rows : List Row) (classes place : ℕ) (row : Row) → row_at rows classes place ≡ Some row → HasNumber rows classes place row
unfolding if_row row_at
has_number rows classes place row is = numbered rows classes place row (place / classes * classes == place) refl is

-- a cell tells the same by places
pub tells_placed : (s : Search) (rows : List Row) (classes : ℕ) → 0 < classes → (after : Sort) (at next start last : ℕ) (cell : Cell)
    → Tells s rows after at next start last cell → TellsBy s (row_at rows classes) after at next start last (placed_cell classes cell)
tells_placed s rows classes many after at next start last (Next b e row) h =
    record { row = h.row; is_there = row_begins rows classes row many ∙ h.is_there; goes = h.goes }
tells_placed s rows classes many after at next start last Unknown h = tt
tells_placed s rows classes many after at next start last Empty h = h
tells_placed s rows classes many after at next start last EndsHere h = h
tells_placed s rows classes many after at next start last EndsEarlier h = h
tells_placed s rows classes many after at next start last Idle h = h

pub fresh_placed : (rows : List Row) (classes : ℕ) (fresh placed : List FreshRow) → 0 < classes → AreFresh rows fresh → ArePlaced classes fresh placed
    → AreFreshBy (row_at rows classes) placed
fresh_placed rows classes fresh placed many all are i it there =
    let is = are i it there in
    ap (row_at rows classes) is.place ∙ row_begins rows classes is.row.row many ∙ all is.i is.row is.is_there
    ∙ ap (λ (b : Sort). Some (Fresh b)) (sym is.before)
