-- Bytes that a search passes over, and the starts among them.
use Rattle.std.proofs.Common.{◌≡◌, ℕ, ◌+◌, ◌-◌, ◌<◌, ◌≤◌, ◌⊎◌, ◌==◌, Bool, true, false, true≢false, List, Option, Some, length, unwrap_or, refl, sym, ap, subst, ◌∙◌, arith, inl, inr, eq-eqb, ne_eqb, slice_index_or, IsCharBoundary, IsUtf8}
use Rattle.std.proofs.lemmas.Bool.{cases_lt}
use Rattle.std.proofs.lemmas.Str.{IsCharBoundary-after_ascii, IsCharBoundary-end}
use Rattle.std.proofs.lemmas.Option.{slice_get-get_or}
use Rattle.regex_hir.specs.Text.{is_some_and, byte_before, char_before}
use Rattle.regex_hir.proofs.TextLemmas.{byte_before-add-one}
use Rattle.fancy_regex_class.proofs.AdjacentCharLemmas.{ascii_at, ascii_before}
use Rattle.fancy_regex_states.specs.Before.{CannotBeginAfter}
use Rattle.fancy_regex_stops.specs.Stops.{IsMarkedAt, IsPairAt}
use Rattle.fancy_regex_linear.specs.Passing.{AreAfterPairsUntil, RefusesWideIf, IsPassedUntil, ArePairsUntil}
use Rattle.fancy_regex_linear.specs.Before.{IsBeforeOf}
use Rattle.fancy_regex_linear.specs.Settled.{IsTableSearch}
use Rattle.fancy_regex_linear.specs.Starts.{IsRefusedAfter, IsSkippedAt}
use Rattle.fancy_regex_linear.specs.declared.passing.Passing.{Passing}
use Rattle.fancy_regex_linear.specs.declared.by_table.TableSearch.{TableSearch}
use Rattle.fancy_regex_linear.specs.declared.search.SearchContext.{SearchContext}
use Rattle.fancy_regex_linear.proofs.PassingLemmas.{ascii_or_wide, pair_ascii_or_wide, stop_boundary, mark_skips, pair_skips}
use Rattle.fancy_regex_linear.proofs.RefusalLemmas.{after_say, wide_after_say, wide_says, seconds_say}
use Rattle.fancy_regex_linear.proofs.CharTestLemmas.{before_some}

-- no match starts from one offset up to another, which is a boundary
pub record AreSkipped (context : SearchContext) (text : List ℕ) (from at : ℕ) : Type 0 where
  pub range : (from ≤ at) × (at ≤ context.stop)
  pub boundary : IsCharBoundary text at
  pub passed : (i : ℕ) → from ≤ i → i < at → IsSkippedAt context text i

module _ (context : SearchContext) (text : List ℕ) (it : TableSearch) (table : IsTableSearch context text it) (u : IsUtf8 text) (from : ℕ) (b : IsCharBoundary text from) where
  refuses : RefusesWideIf it.passing.now.wide context.rules.unicode context.matchers.now context.states.now context.entry
  refuses = wide_says it.passing.now.wide context.rules.unicode context.matchers.now context.states.now context.entry table.wide

  -- the bytes of first characters
  pub firsts_skipped : (bytes : List ℕ) (at : ℕ) → bytes ≡ text → IsPassedUntil bytes it.passing.now.first it.passing.now.wide from at → AreSkipped context text from at
  firsts_skipped bytes at same until =
      let wide : Bool = it.passing.now.wide in
      let is = subst (λ (bs : List ℕ). IsPassedUntil bs it.passing.now.first it.passing.now.wide from at) same until in
      record {
        range = (is.range.0, omega (arith, is.range.1, table.whole));
        boundary = stop_boundary text wide from at u b is.range.0 is.range.1
            (λ i low less. ascii_or_wide it.passing.now.first wide (slice_index_or text i 0) (is.passed i low less)) is.stop;
        passed = λ i low less.
            mark_skips context text wide refuses i (omega (arith, less, is.range.1))
            (subst (λ (ms : List Bool). IsMarkedAt text ms it.passing.now.wide i) table.passing (is.passed i low less));
      }

  -- those of first characters, or before second ones
  pub pairs_skipped : (bytes : List ℕ) (at : ℕ) → bytes ≡ text → ArePairsUntil bytes it.passing.now.first it.passing.now.wide it.passing.now.second from at
      → AreSkipped context text from at
  pairs_skipped bytes at same until =
      let wide : Bool = it.passing.now.wide in
      let others : List Bool = it.passing.now.second in
      let is = subst (λ (bs : List ℕ). ArePairsUntil bs it.passing.now.first it.passing.now.wide it.passing.now.second from at) same until in
      record {
        range = (is.range.0, omega (arith, is.range.1, table.whole));
        boundary = stop_boundary text wide from at u b is.range.0 is.range.1
            (λ i low less. pair_ascii_or_wide text it.passing.now.first wide others i (is.passed i low less)) is.stop;
        passed = λ i low less.
            pair_skips context text wide refuses others table.whole
            (seconds_say context.rules.unicode context.matchers.now context.states.now context.entry others table.seconds)
            i (omega (arith, less, is.range.1))
            (subst (λ (ms : List Bool). IsPairAt text ms it.passing.now.wide it.passing.now.second i) table.passing (is.passed i low less));
      }

-- an ASCII character stands before a place, or another one
module _ (text : List ℕ) (i : ℕ) (u : IsUtf8 text) (b : IsCharBoundary text i) (some : 0 < i) (c : ℕ) (is : char_before text i ≡ Some c) where
  ascii_is : slice_index_or text (i - 1) 0 < 128 → slice_index_or text (i - 1) 0 ≡ c
  ascii_is low =
      let inside : i ≤ length text = b.0 in
      ap (λ o. unwrap_or o 0) (sym (ascii_before text i (slice_index_or text (i - 1) 0) 0 some inside refl low) ∙ is)

  not_ascii : 128 ≤ slice_index_or text (i - 1) 0 → c < 128 → ⊥
  not_ascii high low =
      let before = before_some text i u b some in
      let q : ℕ = i - 1 in
      let place : q + 1 ≡ i = omega (arith, some) in
      let inside : q < length text = omega (arith, b.0, some) in
      let same : before.0 ≡ c = ap (λ (o : Option ℕ). unwrap_or o 0) (sym before.1 ∙ is) in
      let byte : byte_before text i ≡ Some (slice_index_or text q 0) =
      ap (byte_before text) (sym place) ∙ byte_before-add-one text q ∙ slice_get-get_or text q 0 inside in
      let says : (slice_index_or text q 0 == c) ≡ true =
      sym (ap (λ (o : Option ℕ). is_some_and o (λ d. d == c)) byte) ∙ before.2 c low ∙ eq-eqb before.0 c same in
      let other : (slice_index_or text q 0 == c) ≡ false = ne_eqb (slice_index_or text q 0) c (omega (arith, high, low)) in
      true≢false (sym says ∙ other)

  wide_is : 128 ≤ slice_index_or text (i - 1) 0 → 128 ≤ c
  wide_is high = elim (cases_lt c 128) [
    | inl low ↦ absurd (not_ascii high low)
    | inr ge ↦ ge
  ]

module _ (context : SearchContext) (text : List ℕ) (it : TableSearch) (table : IsTableSearch context text it) (u : IsUtf8 text) (from : ℕ) (b : IsCharBoundary text from)
    (before : Passing) (of : IsBeforeOf context.rules.unicode context.matchers.now context.states.now context.entry context.refused.now before) where
  -- the byte before is of a character that no match begins after, or the one there is of a first character of none
  marked_skips : (i : ℕ) → 0 < i → IsMarkedAt text before.first before.wide (i - 1) → IsSkippedAt context text i
  marked_skips i some marked =
      elim marked [
        | inl ascii ↦
            let it : IsRefusedAfter context text i = record {
              later = some;
              none = λ utf8 boundary c is.
                  subst (CannotBeginAfter context.rules.unicode context.matchers.now context.states.now context.entry)
                  (ascii_is text i utf8 boundary some c is ascii.0)
                  (after_say context.rules.unicode context.matchers.now context.states.now context.entry before.first of.refuses
                  (slice_index_or text (i - 1) 0) ascii.0 ascii.1);
            } in
            inr (inr it)
        | inr other ↦
            let it : IsRefusedAfter context text i = record {
              later = some;
              none = λ utf8 boundary c is.
                  wide_after_say context.rules.unicode context.matchers.now context.states.now context.entry before.first of.refuses c (wide_is text i utf8 boundary some c is other.0);
            } in
            inr (inr it)
      ]

  after_skips : (i : ℕ) → 0 < i → i < length text → IsPairAt text before.first before.wide before.second (i - 1) → IsSkippedAt context text i
  after_skips i some inside pair =
      elim pair [
        | inl marked ↦ marked_skips i some marked
        | inr marked_next ↦
            let place : i - 1 + 1 ≡ i = omega (arith, some) in
            let next = subst (λ (k : ℕ). (slice_index_or text k 0 < 128) × (slice_index_or before.second (slice_index_or text k 0) false ≡ true)) place marked_next.next in
            let marked = subst (λ (ms : List Bool). slice_index_or ms (slice_index_or text i 0) false ≡ true) of.second next.1 in
            inl (inl (slice_index_or text i 0, next.0, ascii_at text i (slice_index_or text i 0) 0 inside refl next.0, marked))
      ]

  -- those after which no match begins
  pub after_skipped : (bytes : List ℕ) (at : ℕ) → bytes ≡ text → AreAfterPairsUntil bytes before.first before.wide before.second from at
      → AreSkipped context text from at
  after_skipped bytes at same until =
      let is = subst (λ (bs : List ℕ). AreAfterPairsUntil bs before.first before.wide before.second from at) same until in
      record {
        range = (is.range.0, omega (arith, is.range.1, table.whole));
        boundary = at_boundary at is.range.0 is.range.1 is.stop;
        passed = λ i low less. after_skips i (above i at low less is.first) (omega (arith, less, is.range.1)) (is.passed i low less);
      }
    where
      past_ascii : (at : ℕ) → from ≤ at → at ≤ length text → slice_index_or text (at - 1) 0 < 128 → IsCharBoundary text at
      past_ascii at low high ascii = elim (cases_lt 0 at) [
        | inl some ↦
            let place : at - 1 + 1 ≡ at = omega (arith, some) in
            subst (IsCharBoundary text) place (IsCharBoundary-after_ascii text (at - 1) u (omega (arith, some, high)) ascii)
        | inr none ↦ let here : from ≡ at = omega (arith, none, low) in subst (IsCharBoundary text) here b
      ]

      at_boundary : (at : ℕ) → from ≤ at → at ≤ length text
          → (at ≡ from) ⊎ (at ≡ length text) ⊎ (slice_index_or text (at - 1) 0 < 128) ⊎ (before.wide ≡ false) → IsCharBoundary text at
      at_boundary at low high (inl here) = subst (IsCharBoundary text) (sym here) b
      at_boundary at low high (inr (inl end)) = subst (IsCharBoundary text) (sym end) (IsCharBoundary-end text)
      at_boundary at low high (inr (inr (inl ascii))) = past_ascii at low high ascii
      at_boundary at low high (inr (inr (inr narrow))) = absurd (true≢false (sym of.wide ∙ narrow))

      above : (i at : ℕ) → from ≤ i → i < at → (from ≡ 0 → at ≡ 0) → 0 < i
      above i at low less first = elim (cases_lt 0 from) [
        | inl some ↦ omega (arith, some, low)
        | inr none ↦ let zero_is = first (omega (arith, none)) in absurd (omega (arith, less, zero_is))
      ]
