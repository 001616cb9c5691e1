-- The table that is made of its parts.
use Rattle.std.proofs.Common.{◌≡◌, ◌∙◌, ℕ, ◌+◌, ◌*◌, ◌<◌, ◌≤◌, Bool, List, ◌∷◌, ◌++◌, [], length, Option, Some, None, refl, sym, ap, subst, inl, inr, Vec}
use Rattle.std.specs.Prelude.{slice_index, slice_get, IfSome}
use Rattle.std.proofs.lemmas.Option.{slice_get_within}
use Rattle.std.specs.declared.alloc.Global.{Global}
use Rattle.fancy_regex_class.specs.declared.class.CharClassMatcher.{CharClassMatcher}
use Rattle.fancy_regex_states.specs.First.{state_at}
use Rattle.fancy_regex_states.specs.declared.state.State.{State}
use Rattle.fancy_regex_states.specs.declared.state.State.TheVariants as S
use Rattle.fancy_regex_table.specs.Alphabets.{IsAlphabetOf}
use Rattle.fancy_regex_table.specs.Cells.{Parts, IsRight, IsRightBy, TellsBy}
use Rattle.fancy_regex_table.specs.Flat.{IsFlatCell, AreFlat, ArePlaced}
use Rattle.fancy_regex_table.specs.Made.{IsMadeOf}
use Rattle.fancy_regex_table.specs.Making.{AreColumnsOf, ReadsAlike}
use Rattle.fancy_regex_table.specs.Needed.{AreEnded, IsNeededOf}
use Rattle.fancy_regex_table.specs.Tables.{IsTable, HasColumn, IsFreshRow, AreBegins}
use Rattle.fancy_regex_table.specs.Wides.{class_of}
use Rattle.std.specs.Char.{IsScalar}
use Rattle.fancy_regex_table.proofs.Adding.{pushed}
use Rattle.fancy_regex_table.proofs.FlatLemmas.{row_at, has_number, tells_placed, fresh_placed}
use Rattle.fancy_regex_table.specs.declared.alphabet.Alphabet.{Alphabet}
use Rattle.fancy_regex_table.specs.declared.columns.Column.{Column}
use Rattle.fancy_regex_table.specs.declared.needed.Needed.{Needed}
use Rattle.fancy_regex_table.proofs.NeededLemmas.{ended_cells}
use Rattle.fancy_regex_table.specs.declared.row.Cell.{Cell}
use Rattle.fancy_regex_table.specs.declared.row.Row.{Row}
use Rattle.fancy_regex_table.specs.declared.rows.FreshRow.{FreshRow}

alike_same : (unicode : Bool) (matchers : List CharClassMatcher) (c : Option ℕ) (state : State) → ReadsAlike unicode matchers c c state
alike_same unicode matchers c (S.Read leaf next) = refl
alike_same unicode matchers c (S.Look test next) = tt
alike_same unicode matchers c (S.Split first second) = tt
alike_same unicode matchers c (S.Enter g next) = tt
alike_same unicode matchers c (S.Leave g next) = tt
alike_same unicode matchers c (S.Back next) = tt
alike_same unicode matchers c (S.Ask part negated next) = tt
alike_same unicode matchers c (S.Atomic part same moved) = tt
alike_same unicode matchers c S.Match = tt

module _ (parts : Parts) (columns : List Column) (alphabet : Alphabet) (is_alphabet : IsAlphabetOf parts.unicode parts.matchers parts.states alphabet)
    (are_columns : AreColumnsOf parts.matchers alphabet.asked parts.unicode alphabet.samples.items columns) where
  ascii_column : (c : ℕ) → c < 128 → HasColumn parts columns alphabet.asked (Some c) (slice_index alphabet.ascii c)
  ascii_column c lt =
      let class = is_alphabet.classes c lt in
      let it = are_columns (slice_index alphabet.ascii c) class.sample class.is_there in
      record {
        column = it.column;
        is_there = it.is_there;
        sort = it.is_of.1 ∙ sym class.alike.sorts;
        alike = λ q below.
            subst (λ (o : Option ℕ). ReadsAlike parts.unicode parts.matchers (Some c) o (state_at parts.states q)) (sym it.is_of.0) (class.alike.alike q below);
      }

  end_column : HasColumn parts columns alphabet.asked None 0
  end_column =
      let it = are_columns 0 None is_alphabet.end in
      record {
        column = it.column;
        is_there = it.is_there;
        sort = it.is_of.1;
        alike = λ q below.
            subst (λ (o : Option ℕ). ReadsAlike parts.unicode parts.matchers None o (state_at parts.states q)) (sym it.is_of.0)
            (alike_same parts.unicode parts.matchers None (state_at parts.states q));
      }

  wide_column : (c : ℕ) → IsScalar c → 128 ≤ c → 0 < class_of parts.unicode parts.matchers alphabet.wide c
      → HasColumn parts columns alphabet.asked (Some c) (class_of parts.unicode parts.matchers alphabet.wide c)
  wide_column c scalar low pos =
      let class = is_alphabet.wide c scalar low pos in
      let it = are_columns (class_of parts.unicode parts.matchers alphabet.wide c) class.sample class.is_there in
      record {
        column = it.column;
        is_there = it.is_there;
        sort = it.is_of.1 ∙ sym class.alike.sorts;
        alike = λ q below.
            subst (λ (o : Option ℕ). ReadsAlike parts.unicode parts.matchers (Some c) o (state_at parts.states q)) (sym it.is_of.0) (class.alike.alike q below);
      }

  many : 0 < length columns
  many = slice_get_within columns 0 end_column.column end_column.is_there

  -- a cell of the list is right
  cell_is : (made_cells : List (Vec Cell Global)) (fresh : List FreshRow) (made : IsMadeOf parts columns made_cells fresh) (number class : ℕ) (row : Row) (column : Column) (cell : Cell)
      → slice_get made.rows number ≡ Some row → slice_get columns class ≡ Some column → IsFlatCell made_cells (length columns) number class cell
      → IsRightBy parts (row_at made.rows (length columns)) row column.sort column.sample cell
  cell_is made_cells fresh made number class row column cell there column_is (inl none) s at next start last place is_in =
      subst (λ (x : Cell). TellsBy s (row_at made.rows (length columns)) column.sort at next start last x) (sym none) tt
  cell_is made_cells fresh made number class row column cell there column_is (inr is) s at next start last place is_in =
      let it = made.right number is.row is.is_there in
      let two : Some it.row ≡ Some row = sym it.is_there ∙ there in
      let one : it.row ≡ row = cc in
      let right = subst (λ (r : Row). IsRight parts made.rows r column.sort column.sample is.made) one (it.right class column is.made column_is is.is_made) in
      subst (λ (x : Cell). TellsBy s (row_at made.rows (length columns)) column.sort at next start last x) (sym is.is_placed)
      (tells_placed s made.rows (length columns) many column.sort at next start last is.made (right s at next start last place is_in))

  pub table_is : (made_flat : List Cell) (cells : Vec Cell Global) (classes : List ℕ) (made_cells : List (Vec Cell Global)) (made_fresh : List FreshRow) (fresh : Vec FreshRow Global)
      (begins : Vec (Option ℕ) Global) (is_whole : Bool) (needed : Option Needed) (beyond : (b : ℕ) → 128 ≤ b → b < 256 → length cells.items ≤ slice_index classes b)
      → IsMadeOf parts columns made_cells made_fresh → AreFlat made_cells (length columns) made_flat → ArePlaced (length columns) made_fresh fresh.items
      → AreEnded fresh.items made_flat cells.items → IfSome needed (IsNeededOf cells.items fresh.items begins.items classes alphabet.wide)
      → AreBegins columns fresh.items begins.items → ((c : ℕ) → c < 128 → slice_index classes c ≡ slice_index alphabet.ascii c)
      → IsTable parts (record { cells = cells; classes = classes; wide = alphabet.wide; asked = alphabet.asked; unicode = parts.unicode; fresh = fresh; begins = begins; is_whole = is_whole; needed = needed; beyond = beyond })
  table_is made_flat cells classes made_cells made_fresh fresh begins is_whole needed beyond made flat placed ended are_needed are_begins small = record {
    rows = row_at made.rows (length columns);
    columns = columns;
    unicode = refl;
    asks = is_alphabet.asks;
    cells = ended_cells parts (row_at made.rows (length columns)) columns fresh.items made_flat cells.items
        (fresh_placed made.rows (length columns) made_fresh fresh.items many made.fresh_rows placed) ended
        (λ place class row column cell row_is column_is there.
        let has = has_number made.rows (length columns) place row row_is in
        let at : place + class ≡ has.number * length columns + class = ap (λ (p : ℕ). p + class) has.place_is in
        cell_is made_cells made_fresh made has.number class row column cell has.is_there column_is
        (flat (place + class) cell there has.number class (slice_get_within columns class column column_is) at));
    fresh = fresh_placed made.rows (length columns) made_fresh fresh.items many made.fresh_rows placed;
    needed = are_needed;
    begins = are_begins;
    ascii = λ c lt. subst (HasColumn parts columns alphabet.asked (Some c)) (sym (small c lt)) (ascii_column c lt);
    end = end_column;
    wide = wide_column;
  }

-- one more class
pub begins_more : (columns : List Column) (fresh : List FreshRow) (begins : List (Option ℕ)) (found : Option ℕ) (column : Column) → AreBegins columns fresh begins
    → slice_get columns (length begins) ≡ Some column → IfSome found (IsFreshRow fresh column.sort) → AreBegins columns fresh (begins ++ found ∷ [])
begins_more columns fresh begins found column right there is class number other at column_is =
    pushed (λ (k : ℕ) (x : Option ℕ). (n : ℕ) (col : Column) → x ≡ Some n → slice_get columns k ≡ Some col → IsFreshRow fresh col.sort n) begins found
    (λ k x e n col same col_is. right k n col (e ∙ ap Some same) col_is)
    (λ n col same col_is.
    let two : Some column ≡ Some col = sym there ∙ col_is in
    let one : column ≡ col = cc in
    subst (λ (o : Option ℕ). IfSome o (IsFreshRow fresh col.sort)) same (subst (λ (x : Column). IfSome found (IsFreshRow fresh x.sort)) one is))
    class (Some number) at number other refl column_is
