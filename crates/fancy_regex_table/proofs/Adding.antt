-- Rows that are added, and what stays as it was.
use Rattle.std.proofs.Common.{◌≡◌, ℕ, ◌<◌, Bool, List, [], ◌∷◌, ◌++◌, length, Option, Some, refl, sym, ap, subst, ◌∙◌, inl, inr, arith, get_or, length-append}
use Rattle.std.proofs.lemmas.Bool.{cases_lt}
use Rattle.std.specs.Prelude.{slice_get}
use Rattle.std.proofs.lemmas.Option.{slice_get_within, get_or_from_slice_get, slice_get-get_or}
use Rattle.std.proofs.lemmas.List.{get_or_append_left}
use Rattle.std.proofs.Math.Seq.{get_or-append_seam}
use Rattle.fancy_regex_table.specs.Cells.{Search, GoesTo, GoesToRow, Tells, IsIn, IsOpen, IsRight, Parts, sort_before, begun_at}
use Rattle.fancy_regex_table.specs.Making.{BeginsWith}
use Rattle.fancy_regex_table.specs.Rows.{SameRow, IsNumberOf}
use Rattle.fancy_regex_table.specs.declared.row.Cell.{Cell}
use Rattle.fancy_regex_table.specs.declared.row.Cell.TheVariants.{Next, Unknown, Empty, EndsHere, EndsEarlier, Idle}
use Rattle.fancy_regex_table.specs.declared.row.Row.{Row}
use Rattle.fancy_regex_table.specs.declared.row.Row.TheVariants.{Fresh, Open}
use Rattle.fancy_regex_table.specs.declared.sort.Sort.{Sort}

pub slice_get_append : {X : Type 0} (xs ys : List X) (r : ℕ) (x : X) → slice_get xs r ≡ Some x → slice_get (xs ++ ys) r ≡ Some x
slice_get_append xs ys r x e =
    let lt : r < length xs = slice_get_within xs r x e in
    let long = length-append xs ys in
    slice_get-get_or (xs ++ ys) r x (omega arith) ∙ ap Some (get_or_append_left xs ys x r lt ∙ get_or_from_slice_get xs r x x e)

pub slice_get_last : {X : Type 0} (xs : List X) (x : X) → slice_get (xs ++ x ∷ []) (length xs) ≡ Some x
slice_get_last xs x =
    let long = length-append xs (x ∷ []) in
    slice_get-get_or (xs ++ x ∷ []) (length xs) x (omega arith) ∙ ap Some (get_or-append_seam xs x [] x)

-- what holds of each element and of one more
pub pushed : {X : Type 0} (P : ℕ → X → Type 0) (xs : List X) (y : X) → ((k : ℕ) (x : X) → slice_get xs k ≡ Some x → P k x) → P (length xs) y
    → (k : ℕ) (x : X) → slice_get (xs ++ y ∷ []) k ≡ Some x → P k x
pushed P xs y old here k x e =
    elim (cases_lt k (length xs)) [
      | inl less ↦
          let same : get_or xs k x ≡ x = sym (get_or_append_left xs (y ∷ []) x k less) ∙ get_or_from_slice_get (xs ++ y ∷ []) k x x e in
          old k x (slice_get-get_or xs k x less ∙ ap Some same)
      | inr ge ↦
          let within = slice_get_within (xs ++ y ∷ []) k x e in
          let long = length-append xs (y ∷ []) in
          let at : k ≡ length xs = omega arith in
          let is : y ≡ x = sym (get_or-append_seam xs y [] x) ∙ ap (λ (n : ℕ). get_or (xs ++ y ∷ []) n x) (sym at) ∙ get_or_from_slice_get (xs ++ y ∷ []) k x x e in
          subst (λ (n : ℕ). P n x) (sym at) (subst (P (length xs)) is here)
    ]

pub begins_same : (rows : List Row) → BeginsWith rows rows
begins_same rows r row e = e

pub begins_more : (rows more : List Row) → BeginsWith (rows ++ more) rows
begins_more rows more r row e = slice_get_append rows more r row e

pub begins_both : (one two three : List Row) → BeginsWith two one → BeginsWith three two → BeginsWith three one
begins_both one two three a b r row e = b r row (a r row e)

pub same_row : (row : Row) → SameRow row row
same_row (Fresh before) = refl
same_row (Open before own later found) = (refl, refl, refl, refl)

pub number_of_last : (rows : List Row) (row : Row) → IsNumberOf (rows ++ row ∷ []) row (length rows)
number_of_last rows row = record { same = row; is_there = slice_get_last rows row; says = same_row row }

pub fresh_row_is : (row : Row) (before : Sort) → SameRow row (Fresh before) → row ≡ Fresh before
fresh_row_is (Fresh it) before e = ap Fresh e
fresh_row_is (Open it own later found) before e = absurd e

-- a row that says the same is as good
pub is_in_same : (s : Search) (one two : Row) (at start last : ℕ) → SameRow two one → IsIn s one at start last → IsIn s two at start last
is_in_same s (Fresh a) (Fresh b) at start last same h = h
is_in_same s (Fresh a) (Open b own2 later2 found2) at start last same h = absurd same
is_in_same s (Open a own later found) (Fresh b) at start last same h = absurd same
is_in_same s (Open a own later found) (Open b own2 later2 found2) at start last same h =
    subst (IsOpen s at start last own2.items later2.items) (sym same.3)
    (subst (λ (xs : List ℕ). IsOpen s at start last xs later2.items found) (sym same.1)
    (subst (λ (xs : List ℕ). IsOpen s at start last own.items xs found) (sym same.2) h))

sort_same : (one two : Row) → SameRow two one → sort_before two ≡ sort_before one
sort_same (Fresh a) (Fresh b) same = same
sort_same (Fresh a) (Open b own2 later2 found2) same = absurd same
sort_same (Open a own later found) (Fresh b) same = absurd same
sort_same (Open a own later found) (Open b own2 later2 found2) same = same.0

pub goes_to_number : {s : Search} {after : Sort} {at next start last : ℕ} {begins ends : Bool} {row : Row} (rows : List Row) (number : ℕ)
    → IsNumberOf rows row number → GoesTo s after at next start last begins ends row → GoesToRow s (slice_get rows) after at next start last begins ends number
goes_to_number {s} {after} {at} {next} {start} {last} {begins} {ends} {row} rows number is goes = record {
  row = is.same;
  is_there = is.is_there;
  goes = record {
    sort = sort_same row is.same is.says ∙ goes.sort;
    is_in = is_in_same s row is.same next (begun_at begins at start) (begun_at ends at last) is.says goes.is_in;
    sign = goes.sign;
  };
}

-- what a cell says is so with more rows
pub tells_more : (s : Search) (rows more : List Row) → BeginsWith more rows → (after : Sort) (at next start last : ℕ) (cell : Cell)
    → Tells s rows after at next start last cell → Tells s more after at next start last cell
tells_more s rows more begins after at next start last (Next b e row) h =
    record { row = h.row; is_there = begins row h.row h.is_there; goes = h.goes }
tells_more s rows more begins after at next start last Unknown h = tt
tells_more s rows more begins after at next start last Empty h = h
tells_more s rows more begins after at next start last EndsHere h = h
tells_more s rows more begins after at next start last EndsEarlier h = h
tells_more s rows more begins after at next start last Idle h = h

pub right_more : (parts : Parts) (rows more : List Row) (row : Row) (after : Sort) (c : Option ℕ) (cell : Cell) → BeginsWith more rows
    → IsRight parts rows row after c cell → IsRight parts more row after c cell
right_more parts rows more row after c cell begins right s at next start last place is_in =
    tells_more s rows more begins after at next start last cell (right s at next start last place is_in)
