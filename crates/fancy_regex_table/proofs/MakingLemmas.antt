-- The parts of a table in the making, one after another.
use Rattle.std.proofs.Common.{None, ◌≡◌, ℕ, ◌+◌, ◌<◌, Bool, List, [], ◌∷◌, ◌++◌, length, Option, Some, sym, ap, subst, ◌∙◌, arith, get_or}
use Rattle.std.specs.Prelude.{slice_get, IfSome}
use Rattle.std.proofs.lemmas.Option.{get_or_from_slice_get}
use Rattle.fancy_regex_states.specs.declared.state.State.{State}
use Rattle.fancy_regex_table.specs.Ends.{or_else, end_if, end_at, first_end}
use Rattle.fancy_regex_table.specs.Meanings.{IsClosing, IsStep}
use Rattle.fancy_regex_table.specs.Cells.{Parts}
use Rattle.fancy_regex_table.specs.Making.{IsBegun, IsReading, AreReadings, IsHome, AreHomes}
use Rattle.fancy_regex_table.specs.declared.begun.Begun.{Begun}
use Rattle.fancy_regex_table.specs.declared.begun.Home.{Home}
use Rattle.fancy_regex_table.specs.declared.begun.Reading.{Reading}
use Rattle.fancy_regex_table.specs.declared.close.Closed.{Closed}
use Rattle.fancy_regex_table.specs.declared.columns.Column.{Column}
use Rattle.fancy_regex_table.specs.declared.sort.Sort.{Sort}
use Rattle.fancy_regex_table.proofs.EndLemmas.{or_else_none}
use Rattle.std.proofs.Common.{inl, inr}
use Rattle.std.proofs.lemmas.Bool.{cases_lt}
use Rattle.fancy_regex_table.specs.Making.{HasColumnOf}
use Rattle.fancy_regex_class.specs.declared.class.CharClassMatcher.{CharClassMatcher}
use Rattle.fancy_regex_table.specs.Sorts.{sort_at}
use Rattle.fancy_regex_table.specs.declared.sort.Asked.{Asked}
use Rattle.fancy_regex_table.proofs.Adding.{pushed, slice_get_append, slice_get_last}
use Rattle.fancy_regex_table.proofs.TargetLemmas.{stepped}

-- an attempt begins in the entry
pub begun_is : (parts : Parts) (before after : Sort) (c : Option ℕ) (closed : Closed) (begun : Begun) → IsClosing parts.states before after (parts.entry ∷ []) closed
    → IsStep parts.unicode parts.matchers parts.states c closed.reads.items begun.nexts.items → begun.is_end ≡ closed.is_end
    → IsBegun parts before after c begun
begun_is parts before after c closed begun closing step same s at next place =
    ap (end_at s.go at) place.entry ∙ sym (or_else_none (end_at s.go at parts.entry))
    ∙ stepped place (parts.entry ∷ []) begun.nexts.items closed closing step
    ∙ ap (λ (b : Bool). or_else (first_end s.go next begun.nexts.items) (end_if b at)) (sym same)

pub readings_more : (states : List State) (before : Sort) (own later : List ℕ) (readings : List Reading) (reading : Reading)
    → AreReadings states before own later readings → IsReading states before own later reading
    → AreReadings states before own later (readings ++ reading ∷ [])
readings_more states before own later readings reading old new =
    pushed (λ (k : ℕ) (r : Reading). IsReading states before own later r) readings reading old new

-- what attempts come to before the first columns
abbrev pub AreBegun : Parts → List Column → Sort → List (Option Begun) → Type 0
AreBegun parts columns before begun = (k : ℕ) (found : Option Begun) → slice_get begun k ≡ Some found
    → (column : Column) → slice_get columns k ≡ Some column → IfSome found (IsBegun parts before column.sort column.sample)

pub begun_more : (parts : Parts) (columns : List Column) (before : Sort) (begun : List (Option Begun)) (found : Option Begun) (d column : Column) (k : ℕ)
    → length begun ≡ k → column ≡ get_or columns k d → AreBegun parts columns before begun
    → IfSome found (IsBegun parts before column.sort column.sample)
    → AreBegun parts columns before (begun ++ found ∷ [])
begun_more parts columns before begun found d column k long is old new =
    pushed (λ (n : ℕ) (f : Option Begun). (it : Column) → slice_get columns n ≡ Some it → IfSome f (IsBegun parts before it.sort it.sample)) begun found old
    (λ it there.
    let same : column ≡ it = is ∙ sym (ap (λ (n : ℕ). get_or columns n d) long) ∙ get_or_from_slice_get columns (length begun) it d there in
    subst (λ (c : Column). IfSome found (IsBegun parts before c.sort c.sample)) same new)

pub home_is : (parts : Parts) (columns : List Column) (home : Home) → AreBegun parts columns home.before home.begun.items → IsHome parts columns home
home_is parts columns home all k column begun there is =
    all k (Some begun) is column there

pub homes_more : (parts : Parts) (columns : List Column) (homes : List Home) (home : Home) → AreHomes parts columns homes → IsHome parts columns home
    → AreHomes parts columns (homes ++ home ∷ [])
homes_more parts columns homes home old new = pushed (λ (k : ℕ) (h : Home). IsHome parts columns h) homes home old new

-- one more column
pub columns_more : (matchers : List CharClassMatcher) (asked : Asked) (unicode : Bool) (samples : List (Option ℕ)) (columns : List Column) (column : Column) (i : ℕ) → length columns ≡ i
    → ((k : ℕ) (sample : Option ℕ) → k < i → slice_get samples k ≡ Some sample → HasColumnOf matchers asked unicode columns k sample)
    → column.sample ≡ get_or samples i column.sample → column.sort ≡ sort_at matchers asked unicode column.sample
    → (k : ℕ) (sample : Option ℕ) → k < i + 1 → slice_get samples k ≡ Some sample → HasColumnOf matchers asked unicode (columns ++ column ∷ []) k sample
columns_more matchers asked unicode samples columns column i long old is sort k sample lt there =
    elim (cases_lt k i) [
      | inl less ↦
          let it = old k sample less there in
          record { column = it.column; is_there = slice_get_append columns (column ∷ []) k it.column it.is_there; is_of = it.is_of }
      | inr ge ↦
          let at : k ≡ length columns = omega arith in
          let same_i : k ≡ i = omega arith in
          let same : column.sample ≡ sample =
          is ∙ ap (λ (n : ℕ). get_or samples n column.sample) (sym same_i) ∙ get_or_from_slice_get samples k sample column.sample there in
          record {
            column = column;
            is_there = subst (λ (n : ℕ). slice_get (columns ++ column ∷ []) n ≡ Some column) (sym at) (slice_get_last columns column);
            is_of = (same, sort ∙ ap (sort_at matchers asked unicode) same);
          }
    ]

-- what is known of an attempt, by what the entry leads to
pub some_begun : (parts : Parts) (before after : Sort) (c : Option ℕ) (readings : List Reading) (found : Option Begun)
    → IfSome found (λ begun. (b : Sort) → AreReadings parts.states b (parts.entry ∷ []) [] readings → IsBegun parts b after c begun)
    → AreReadings parts.states before (parts.entry ∷ []) [] readings → IfSome found (IsBegun parts before after c)
some_begun parts before after c readings None h read = h
some_begun parts before after c readings (Some begun) h read = h before read
