-- What the table tells of the matches of a search.
use Rattle.std.proofs.Common.{◌≡◌, ℕ, zero, suc, ◌+◌, ◌-◌, ◌<◌, ◌≤◌, ◌⊎◌, Bool, true, false, List, ◌∷◌, Option, Some, None, length, inl, inr, refl, sym, ap, subst, ◌∙◌, arith, IsUtf8, IsCharBoundary, true≢false}
use Rattle.std.specs.Prelude.{is_some, option_map}
use Rattle.std.specs.List.{filter}
use Rattle.std.proofs.Math.Bool.{Bool-set}
use mathlib.Core.Logic.{∥∥₁_elim}
use Rattle.std.proofs.lemmas.Bool.{cases_lt, cond-true, cond-false}
use Rattle.regex_hir.specs.Text.{is_boundary}
use Rattle.fancy_regex_class.specs.declared.input.RunInput.{RunInput}
use Rattle.fancy_regex_meaning.specs.Groups.{Pattern}
use Rattle.fancy_regex_meaning.specs.Positions.{numbers_from}
use Rattle.fancy_regex_meaning.proofs.NextBoundaryLemmas.{test_of_IsCharBoundary}
use Rattle.fancy_regex_states.specs.Attempts.{View, Trace, Continuation}
use Rattle.fancy_regex_table.specs.Ends.{end_of}
use Rattle.fancy_regex_table.specs.Signs.{HasMatch}
use Rattle.fancy_regex_table.specs.Tables.{IsTable}
use Rattle.fancy_regex_linear.specs.Meaning.{Spot}
use Rattle.fancy_regex_linear.specs.Attempt.{trace_end}
use Rattle.fancy_regex_linear.specs.Find.{earliest, places}
use Rattle.fancy_regex_linear.specs.Search.{Explains, HasMarks}
use Rattle.fancy_regex_linear.specs.Settled.{FailBetween, IsTableSearch, parts_of}
use Rattle.fancy_regex_linear.specs.Starts.{IsSkippedAt, spot_from}
use Rattle.fancy_regex_linear.specs.Verdicts.{GoesOnIn, IsVerdictFor, IsVerdictAt, IsVerdictInRange, has_match}
use Rattle.fancy_regex_linear.specs.declared.by_table.TableSearch.{TableSearch}
use Rattle.fancy_regex_linear.specs.declared.easy.Easy.{Easy}
use Rattle.fancy_regex_linear.specs.declared.search.SearchContext.{SearchContext}
use Rattle.fancy_regex_linear.specs.declared.verdict.Verdict.{Verdict}
use Rattle.fancy_regex_linear.specs.declared.verdict.Verdict.TheVariants.{Match, NoMatch, NoneBefore}
use Rattle.fancy_regex_linear.proofs.DfsLemmas.{trace_end_none}
use Rattle.fancy_regex_linear.proofs.RefusalLemmas.{skipped_fails}
use Rattle.fancy_regex_linear.proofs.SettleLemmas.{search_of, skip_to}
use Rattle.fancy_regex_linear.proofs.StartLemmas.{earliest_here, earliest_next, none_from}

true_or_not : (b : Bool) → (b ≡ true) ⊎ (b ≡ false)
true_or_not true = inl refl
true_or_not false = inr refl

-- a start that has a way is found, if no earlier one is
some_here : (f : ℕ → Option Spot) (p : ℕ) (ps : List ℕ) (o : Option Spot) → f p ≡ o → is_some o ≡ true → is_some (earliest f (p ∷ ps)) ≡ true
some_here f p ps None e is = absurd (true≢false (sym is))
some_here f p ps (Some w) e is = ap is_some (earliest_here f p ps w e)

some_later : (f : ℕ → Option Spot) (p : ℕ) (ps : List ℕ) (o : Option Spot) → f p ≡ o → is_some (earliest f ps) ≡ true → is_some (earliest f (p ∷ ps)) ≡ true
some_later f p ps None e is = ap is_some (earliest_next f p ps e) ∙ is
some_later f p ps (Some w) e is = ap is_some (earliest_here f p ps w e)

-- among these starts is one that has a way
some_among : (f : ℕ → Option Spot) (text : List ℕ) (n i p : ℕ) → i ≤ p → p < i + n → is_boundary text p ≡ true → is_some (f p) ≡ true
    → is_some (earliest f (filter (is_boundary text) (numbers_from n i))) ≡ true
some_among f text zero i p low high is some = absurd (omega arith)
some_among f text (suc n) i p low high is some =
    let others : List ℕ = filter (is_boundary text) (numbers_from n (i + 1)) in
    let rest : i < p → is_some (earliest f others) ≡ true = λ over. some_among f text n (i + 1) p (omega arith) (omega arith) is some in
    elim (true_or_not (is_boundary text i)) [
      | inl here ↦
          let split : filter (is_boundary text) (numbers_from (suc n) i) ≡ i ∷ others = cond-true (is_boundary text i) _ _ here in
          ap (λ ps. is_some (earliest f ps)) split
          ∙ elim (cases_lt i p) [
            | inl over ↦ some_later f i others (f i) refl (rest over)
            | inr le ↦ let same : p ≡ i = omega arith in some_here f i others (f i) refl (subst (λ (q : ℕ). is_some (f q) ≡ true) same some)
          ]
      | inr other ↦
          let split : filter (is_boundary text) (numbers_from (suc n) i) ≡ others = cond-false (is_boundary text i) _ _ other in
          ap (λ ps. is_some (earliest f ps)) split
          ∙ elim (cases_lt i p) [
            | inl over ↦ rest over
            | inr le ↦ let same : p ≡ i = omega arith in absurd (true≢false (sym (subst (λ (q : ℕ). is_boundary text q ≡ true) same is) ∙ other))
          ]
    ]

pub some_from : (f : ℕ → Option Spot) (text : List ℕ) (from stop p : ℕ) → from ≤ p → p ≤ stop → IsCharBoundary text p → is_some (f p) ≡ true
    → is_some (earliest f (places text false from stop)) ≡ true
some_from f text from stop p low high boundary some =
    some_among f text (stop + 1 - from) from p low (omega arith) (test_of_IsCharBoundary text p boundary) some

-- a way that ends has a spot
spot_of_end : (slots : List ℕ) (a : Option Trace) → is_some (end_of a) ≡ true → is_some (trace_end slots a) ≡ true
unfolding trace_end
spot_of_end slots None e = absurd (true≢false (sym e))
spot_of_end slots (Some t) e = refl

module _ (context : SearchContext) (text : List ℕ) (it : TableSearch) (by : IsTableSearch context text it) (view : View) (go : ℕ → Continuation)
    (explains : Explains context text view go) (slots : List ℕ) where
  abbrev pub spot : ℕ → Option Spot
  spot = spot_from go context.entry slots

  -- the table says that there is a match
  pub some_by : (from : ℕ) → (IsTable (parts_of context) it.table.now → HasMatch (search_of context text it by view go explains from))
      → is_some (earliest spot (places text false from context.stop)) ≡ true
  some_by from says =
      ∥∥₁_elim by.table (Bool-set _ _)
      (λ t. let m = says t in some_from spot text from context.stop m.start m.low m.high m.boundary (spot_of_end slots (go context.entry m.start).answer m.some))

  no_spot : (p : ℕ) → (go context.entry p).answer ≡ None → spot p ≡ None
  no_spot p e = ap (trace_end slots) e ∙ trace_end_none slots

  -- none starts here and later
  pub none_by : (from : ℕ) → IsCharBoundary text from → from ≤ context.stop → context.stop ≤ length text → FailBetween context text go from (context.stop + 1)
      → is_some (earliest spot (places text false from context.stop)) ≡ false
  none_by from boundary high inside fails =
      ap is_some (none_from spot text false from context.stop boundary high inside (λ i b low le. no_spot i (fails i low (omega arith) b))).0

  -- none starts before a later place
  pub on_by : (from to : ℕ) → from ≤ to → to ≤ context.stop → context.stop ≤ length text → FailBetween context text go from to
      → earliest spot (places text false from context.stop) ≡ earliest spot (places text false to context.stop)
  on_by from to low high inside fails = (skip_to spot text from to context.stop low high (λ p a b boundary. no_spot p (fails p a b boundary)) inside).0

-- starts that are refused fail
pub refused_between : (context : SearchContext) (text : List ℕ) (view : View) (go : ℕ → Continuation) → Explains context text view go → IsUtf8 text
    → context.entry < length context.states.now → HasMarks context → (from to : ℕ) → 0 < from → to ≤ context.stop
    → ((i : ℕ) → from ≤ i → i < to → IsSkippedAt context text i) → FailBetween context text go from to
refused_between context text view go explains utf8 below marks from to some high skipped i low less boundary =
    skipped_fails context text view go explains utf8 below marks i boundary (omega (arith, some, low)) (omega (arith, less, high)) (skipped i low less)

-- what is made of a value is there where the value is
pub map_some : {A B : Type 0} (f : A → B) (o : Option A) → is_some (option_map f o) ≡ is_some o
map_some f None = refl
map_some f (Some a) = refl

-- what is told of the starts is told of the matches
pub tells : (easy : Easy) (text : List ℕ) (input : RunInput) (pattern : Pattern) (entry stop : ℕ) (go : ℕ → Continuation) (slots : List ℕ)
    → ((at : ℕ) → at ≤ stop
    → has_match easy text (record input { first = at }) pattern ≡ is_some (earliest (spot_from go entry slots) (places text input.anchored at stop)))
    → input.anchored ≡ false → input.first ≤ stop → (verdict : Verdict) → IsVerdictAt text entry stop input.first go slots verdict
    → IsVerdictInRange text input.first stop verdict → IsVerdictFor easy text input verdict pattern
tells easy text input pattern entry stop go slots same none first Match said range =
    same input.first first
    ∙ ap (λ (b : Bool). is_some (earliest (spot_from go entry slots) (places text b input.first stop))) none ∙ said
tells easy text input pattern entry stop go slots same none first NoMatch said range =
    same input.first first
    ∙ ap (λ (b : Bool). is_some (earliest (spot_from go entry slots) (places text b input.first stop))) none ∙ said
tells easy text input pattern entry stop go slots same none first (NoneBefore at) said range =
    same input.first first
    ∙ ap (λ (b : Bool). is_some (earliest (spot_from go entry slots) (places text b input.first stop))) none
    ∙ ap is_some said
    ∙ sym (same at range.1 ∙ ap (λ (b : Bool). is_some (earliest (spot_from go entry slots) (places text b at stop))) none)

-- a place in the range is one of the text
pub verdict_goes_on : (text : List ℕ) (from stop : ℕ) (verdict : Verdict) → IsVerdictInRange text from stop verdict → GoesOnIn text verdict
verdict_goes_on text from stop Match range = tt
verdict_goes_on text from stop NoMatch range = tt
verdict_goes_on text from stop (NoneBefore at) range = range.2
