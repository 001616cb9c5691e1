-- Starts that are passed over together.
use Rattle.std.proofs.Common.{◌≡◌, ℕ, zero, suc, ◌+◌, ◌-◌, ◌<◌, ◌≤◌, ◌⊎◌, Bool, true, false, List, Option, Some, None, length, replicate, refl, sym, subst, ◌∙◌, arith, inl, inr, slice_index_or, IsCharBoundary, IsUtf8, ⊎_elim}
use Rattle.std.proofs.lemmas.Bool.{cases_lt, false≢true}
use Rattle.std.specs.Prelude.{IfSome}
use Rattle.std.specs.Option.{ForSome}
use Rattle.regex_hir.specs.Text.{char_at}
use Rattle.fancy_regex_class.specs.declared.class.CharClassMatcher.{CharClassMatcher}
use Rattle.fancy_regex_states.specs.First.{CannotFollow, RefusesSecond}
use Rattle.fancy_regex_states.specs.declared.state.State.{State}
use Rattle.fancy_regex_stops.specs.Stops.{IsMarked, IsMarkedAt, IsPairAt, IsBeforeMarked}
use Rattle.fancy_regex_linear.specs.Passing.{HasMarksOf, RefusesWideIf, IsStop}
use Rattle.fancy_regex_linear.specs.Before.{HasMarksBefore, IsBeforeOf}
use Rattle.fancy_regex_linear.specs.declared.passing.Passing.{Passing}
use Rattle.fancy_regex_states.specs.Before.{RefusesAfter}
use Rattle.fancy_regex_linear.specs.Starts.{IsSkippedAt, IsWideAt, HasRefusedPair}
use Rattle.fancy_regex_linear.specs.declared.search.SearchContext.{SearchContext}
use Rattle.fancy_regex_class.proofs.AdjacentCharLemmas.{ascii_at}
use Rattle.std.proofs.lemmas.Str.{IsCharBoundary-before_ascii, IsCharBoundary-after_ascii, IsCharBoundary-end}

-- what holds up to a place, and from there on
pub and_after : (P : ℕ → Type 0) (from at to : ℕ) → ((i : ℕ) → from ≤ i → i < at → P i) → ((i : ℕ) → at ≤ i → i < to → P i) → (i : ℕ) → from ≤ i → i < to → P i
and_after P from at to below here i low high =
    ⊎_elim (λ (less : i < at). below i low less) (λ (over : at ≤ i). here i over high) (cases_lt i at)

-- a byte that is passed over is ASCII, if no other character is passed over
pub ascii_or_wide : (marks : List Bool) (wide : Bool) (c : ℕ) → IsMarked marks wide c → (c < 128) ⊎ (wide ≡ true)
ascii_or_wide marks wide c is = ⊎_elim (λ ascii. inl ascii.0) (λ other. inr other.1) is

pub pair_ascii_or_wide : (text : List ℕ) (marks : List Bool) (wide : Bool) (others : List Bool) (i : ℕ) → IsPairAt text marks wide others i
    → (slice_index_or text i 0 < 128) ⊎ (wide ≡ true)
pair_ascii_or_wide text marks wide others i is = ⊎_elim (ascii_or_wide marks wide (slice_index_or text i 0)) (λ before. inl before.ascii) is

-- where such bytes end is a boundary
pub stop_boundary : (text : List ℕ) (wide : Bool) (from at : ℕ) → IsUtf8 text → IsCharBoundary text from → from ≤ at → at ≤ length text
    → ((i : ℕ) → from ≤ i → i < at → (slice_index_or text i 0 < 128) ⊎ (wide ≡ true)) → IsStop text wide at → IsCharBoundary text at
stop_boundary text wide from at u b low high passed stop =
    ⊎_elim
    (λ (inside : at < length text).
    ⊎_elim
    (λ (ascii : slice_index_or text at 0 < 128). IsCharBoundary-before_ascii text at inside ascii)
    narrow
    (stop inside))
    (λ (over : length text ≤ at). let end : length text ≡ at = omega (arith, over, high) in subst (λ (k : ℕ). IsCharBoundary text k) end (IsCharBoundary-end text))
    (cases_lt at (length text)) where
      narrow : wide ≡ false → IsCharBoundary text at
      narrow none =
          ⊎_elim
          (λ (more : from < at).
          let place : at - 1 + 1 ≡ at = omega (arith, more) in
          ⊎_elim
          (λ (ascii : slice_index_or text (at - 1) 0 < 128).
          subst (λ (k : ℕ). IsCharBoundary text k) place (IsCharBoundary-after_ascii text (at - 1) u (omega (arith, more, high)) ascii))
          (λ (all : wide ≡ true). absurd (false≢true (sym none ∙ all)))
          (passed (at - 1) (omega (arith, more)) (omega (arith, more))))
          (λ (less : at ≤ from). let same : from ≡ at = omega (arith, low, less) in subst (λ (k : ℕ). IsCharBoundary text k) same b)
          (cases_lt from at)

pub none_marked : (n k : ℕ) → slice_index_or (replicate n false) k false ≡ false
none_marked zero k = refl
none_marked (suc n) zero = refl
none_marked (suc n) (suc k) = none_marked n k

-- marks that are those of a table, or none, say what it does of second characters
pub seconds_of : (unicode : Bool) (matchers : List CharClassMatcher) (states : List State) (entry : ℕ) (known : Option (List Bool)) (marks : List Bool) → HasMarksOf known marks
    → IfSome known (RefusesSecond unicode matchers states entry) → RefusesSecond unicode matchers states entry marks
seconds_of unicode matchers states entry (Some known) marks is says c low marked = says c low (subst (λ (ms : List Bool). slice_index_or ms c false ≡ true) is marked)
seconds_of unicode matchers states entry None marks is says c low marked = absurd (false≢true (sym (is c) ∙ marked))

module _ (context : SearchContext) (text : List ℕ) (wide : Bool) (refuses : RefusesWideIf wide context.rules.unicode context.matchers.now context.states.now context.entry) where
  -- a byte that is passed over begins no match
  pub mark_skips : (i : ℕ) → i < length text → IsMarkedAt text context.refused.now wide i → IsSkippedAt context text i
  mark_skips i inside marked =
      let c : ℕ = slice_index_or text i 0 in
      ⊎_elim
      (λ (ascii : (c < 128) × (slice_index_or context.refused.now c false ≡ true)). inl (inl (c, ascii.0, ascii_at text i c 0 inside refl ascii.0, ascii.1)))
      (λ (other : (128 ≤ c) × (wide ≡ true)). let it : IsWideAt context text i = record { byte = other.0; none = refuses other.1 } in inr (inl it))
      marked

  -- nor does one before a character that is second in no match
  pub pair_skips : (others : List Bool) → context.stop ≡ length text
      → ((c : ℕ) → c < 128 → slice_index_or others c false ≡ true → CannotFollow context.rules.unicode context.matchers.now context.states.now context.entry (Some c))
      → (i : ℕ) → i < length text → IsPairAt text context.refused.now wide others i → IsSkippedAt context text i
  pair_skips others whole seconds i inside pair =
      let c : ℕ = slice_index_or text i 0 in
      let d : ℕ = slice_index_or text (i + 1) 0 in
      ⊎_elim
      (mark_skips i inside)
      (λ (before : IsBeforeMarked text others i).
      let it : HasRefusedPair context text i = record {
        inside = omega (arith, whole, inside);
        first = (c, before.ascii, ascii_at text i c 0 inside refl before.ascii);
        second = (d, before.next.0, ascii_at text (i + 1) d 0 before.inside refl before.next.0, seconds d before.next.0 before.next.1);
      } in
      inl (inr it))
      pair

-- marks of characters before starts that are those of the states say what these do
module _ (unicode : Bool) (matchers : List CharClassMatcher) (states : List State) (entry : ℕ) (firsts : List Bool) where
  before_one : (known : Option (List Bool)) (passing : Passing) → IfSome known (RefusesAfter unicode matchers states entry) → HasMarksBefore known firsts passing
      → IsBeforeOf unicode matchers states entry firsts passing
  before_one (Some marks) passing says has = record {
    refuses = ∣ subst (RefusesAfter unicode matchers states entry) (sym has.0) says ∣₁;
    wide = has.1;
    second = has.2;
  }
  before_one None passing says has = absurd has

  pub before_is : (known : Option (List Bool)) (made : Option Passing) → IfSome known (RefusesAfter unicode matchers states entry)
      → IfSome made (HasMarksBefore known firsts) → ForSome made (IsBeforeOf unicode matchers states entry firsts)
  before_is known made says has passing is = before_one known passing says (subst (λ (o : Option Passing). IfSome o (HasMarksBefore known firsts)) is has)
