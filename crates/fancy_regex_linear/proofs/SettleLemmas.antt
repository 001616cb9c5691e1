-- Starts that are settled.
use Rattle.std.proofs.Common.{◌≡◌, ℕ, zero, suc, ◌+◌, ◌-◌, ◌<◌, ◌≤◌, ◌⊎◌, Bool, true, false, List, ◌∷◌, Option, Some, None, length, inl, inr, refl, sym, ap, ap₂, subst, ◌∙◌, arith, IsUtf8, IsCharBoundary, true≢false, ⊎_elim}
use Rattle.std.specs.Prelude.{is_some, IfSome}
use Rattle.std.specs.List.{filter}
use Rattle.std.proofs.Math.Bool.{Bool-set}
use Rattle.std.proofs.Math.Nat.{ℕ_set}
use mathlib.Core.Logic.{∥∥₁_elim}
use Rattle.std.proofs.lemmas.Bool.{cases_lt, cond-true, cond-false}
use Rattle.std.proofs.lemmas.Str.{IsCharBoundary-end}
use Rattle.regex_hir.specs.Text.{is_boundary}
use Rattle.fancy_regex_meaning.specs.Positions.{numbers_from}
use Rattle.fancy_regex_meaning.proofs.BoundaryLemmas.{IsCharBoundary-of_test}
use Rattle.fancy_regex_class.specs.declared.counted.Counted.{Counted}
use Rattle.fancy_regex_states.specs.Attempts.{View, Trace, Continuation}
use Rattle.fancy_regex_table.specs.Cells.{Search, NoneBefore}
use Rattle.fancy_regex_table.specs.Ends.{end_of}
use Rattle.fancy_regex_table.specs.Tables.{IsTable, IsSearchOf}
use Rattle.fancy_regex_linear.specs.Meaning.{Spot}
use Rattle.fancy_regex_linear.specs.Attempt.{apply, trace_end}
use Rattle.fancy_regex_linear.specs.Find.{earliest, attempted, places}
use Rattle.fancy_regex_linear.specs.Layers.{IsAttempt, IsBetweenAttempts, IsOnlyLookedAt}
use Rattle.fancy_regex_linear.specs.Search.{Explains, end_spot}
use Rattle.fancy_regex_linear.specs.Settled.{FailBetween, IsAtStart, IsTableSearch, remaining_starts, parts_of}
use Rattle.fancy_regex_linear.specs.Starts.{IsAfter, spot_from}
use Rattle.fancy_regex_linear.specs.declared.by_table.TableSearch.{TableSearch}
use Rattle.fancy_regex_linear.specs.declared.starts.Start.{Start}
use Rattle.fancy_regex_linear.specs.declared.memory.SearchMemory.{SearchMemory}
use Rattle.fancy_regex_linear.specs.declared.search.SearchContext.{SearchContext}
use Rattle.fancy_regex_linear.proofs.DfsLemmas.{trace_end_none}
use Rattle.fancy_regex_linear.proofs.StartLemmas.{failed_next, found_here}

abbrev at_or_zero : Option Spot → ℕ
at_or_zero None = 0
at_or_zero (Some w) = w.at

abbrev end_or_zero : Option ℕ → ℕ
end_or_zero None = 0
end_or_zero (Some n) = n

abbrev is_there : Option Spot → Bool
is_there None = false
is_there (Some w) = true

pub none_is_not : {A : Type 0} {x : A} → None ≡ Some x → ⊥
none_is_not e = true≢false (sym (ap is_some e))

none_of : {A : Type 0} (o : Option A) → is_some o ≡ false → o ≡ None
none_of None e = refl
none_of (Some x) e = absurd (true≢false e)

some_of : (o : Option ℕ) (n : ℕ) → is_some o ≡ true → end_or_zero o ≡ n → o ≡ Some n
some_of None n e at = absurd (true≢false (sym e))
some_of (Some x) n e at = ap Some at

no_end : (a : Option Trace) → end_of a ≡ None → a ≡ None
no_end None e = refl
no_end (Some t) e = absurd (none_is_not (sym e))

-- the slots at the end of a way
pub trace_of_end : (slots : List ℕ) (a : Option Trace) (end : ℕ) → end_of a ≡ Some end → (s : List ℕ) × (end_spot (Some end) s ≡ trace_end slots a)
unfolding trace_end
trace_of_end slots None end e = absurd (none_is_not e)
trace_of_end slots (Some t) end e =
    let same : t.end ≡ end = ap end_or_zero e in
    (apply t.writes slots, ap (λ (n : ℕ). Some (record { at = n; slots = apply t.writes slots })) (sym same))

-- the same slots, where they are known
pub spot_at : (o : Option ℕ) (xs s : List ℕ) (end : ℕ) → end_spot o xs ≡ end_spot (Some end) s → end_spot (Some end) xs ≡ end_spot (Some end) s
spot_at None xs s end e = absurd (true≢false (sym (ap is_there e)))
spot_at (Some n) xs s end e =
    let same : n ≡ end = ap at_or_zero e in ap (λ (m : ℕ). Some (record { at = m; slots = xs })) (sym same) ∙ e

pub none_of_trace : (slots : List ℕ) (a : Option Trace) → None ≡ trace_end slots a → a ≡ None
unfolding trace_end
none_of_trace slots None e = refl
none_of_trace slots (Some t) e = absurd (true≢false (sym (ap is_there e)))

-- one attempt after another
pub attempt_same : (context : SearchContext) (text : Counted) (memory : SearchMemory) (last : ℕ) → IsBetweenAttempts context memory → memory.visited.base ≤ last
    → IsAttempt context text text memory memory last
attempt_same context text memory last between low = record {
  rows = between.rows;
  count = refl;
  base = (omega arith, low);
  slots = refl;
  farthest = refl;
  counted = omega arith;
  looks = record { more = omega arith; text = refl; same_counter = refl };
}

pub looked_then : (a b c : Counted) → IsOnlyLookedAt a b → IsOnlyLookedAt b c → IsOnlyLookedAt a c
looked_then a b c one two = record {
  more = omega (arith, one.more, two.more);
  text = two.text ∙ one.text;
  same_counter = two.same_counter ∙ one.same_counter;
}

pub attempt_then : (context : SearchContext) (a b c : Counted) (m n o : SearchMemory) (low high last : ℕ) → IsAttempt context a b m n low → IsAttempt context b c n o high
    → high ≤ last → IsAttempt context a c m o last
attempt_then context a b c m n o low high last one two le = record {
  rows = two.rows;
  count = two.count ∙ one.count;
  base = (omega (arith, one.base.0, two.base.0), omega (arith, two.base.1, le));
  slots = two.slots ∙ one.slots;
  farthest = two.farthest ∙ one.farthest;
  counted = omega (arith, one.counted, two.counted);
  looks = looked_then a b c one.looks two.looks;
}

-- one more start fails
pub fail_more : (context : SearchContext) (text : List ℕ) (go : ℕ → Continuation) (from at : ℕ) → FailBetween context text go from at
    → (go context.entry at).answer ≡ None → FailBetween context text go from (at + 1)
fail_more context text go from at before here p low high boundary =
    elim (cases_lt p at) [
      | inl less ↦ before p low less boundary
      | inr ge ↦ let same : at ≡ p = omega arith in subst (λ (q : ℕ). (go context.entry q).answer ≡ None) same here
    ]

pub fail_on : (context : SearchContext) (text : List ℕ) (go : ℕ → Continuation) (low from high : ℕ) → FailBetween context text go low from
    → FailBetween context text go from high → FailBetween context text go low high
fail_on context text go low from high one two p a b boundary =
    elim (cases_lt p from) [
      | inl less ↦ one p a less boundary
      | inr ge ↦ two p ge b boundary
    ]

-- starts that fail are passed over
skip_among : (f : ℕ → Option Spot) (text : List ℕ) (n m i total : ℕ) → total ≡ n + m → ((j : ℕ) → i ≤ j → j < i + n → is_boundary text j ≡ true → f j ≡ None)
    → (earliest f (filter (is_boundary text) (numbers_from total i)) ≡ earliest f (filter (is_boundary text) (numbers_from m (i + n))))
    × (attempted f (filter (is_boundary text) (numbers_from total i)) ≤ n + attempted f (filter (is_boundary text) (numbers_from m (i + n))))
skip_among f text zero m i total e none =
    let all : total ≡ m = omega (arith, e) in
    let same : i ≡ i + 0 = omega arith in
    let tried = ap₂ (λ (t k : ℕ). attempted f (filter (is_boundary text) (numbers_from t k))) all same in
    (ap₂ (λ (t k : ℕ). earliest f (filter (is_boundary text) (numbers_from t k))) all same, omega (arith, tried))
skip_among f text (suc n) m i total e none =
    let after : i + 1 + n ≡ i + suc n = omega arith in
    let rest = subst (λ (k : ℕ). (earliest f (filter (is_boundary text) (numbers_from (n + m) (i + 1))) ≡ earliest f (filter (is_boundary text) (numbers_from m k)))
    × (attempted f (filter (is_boundary text) (numbers_from (n + m) (i + 1))) ≤ n + attempted f (filter (is_boundary text) (numbers_from m k)))) after
    (skip_among f text n m (i + 1) (n + m) refl (λ j low high is. none j (omega arith) (omega arith) is)) in
    let all : List ℕ = filter (is_boundary text) (numbers_from (suc (n + m)) i) in
    let others : List ℕ = filter (is_boundary text) (numbers_from (n + m) (i + 1)) in
    let one_more : total ≡ suc (n + m) = omega (arith, e) in
    let whole : filter (is_boundary text) (numbers_from total i) ≡ all = ap (λ (t : ℕ). filter (is_boundary text) (numbers_from t i)) one_more in
    elim (true_or_not (is_boundary text i)) [
      | inl is ↦
          let split : all ≡ i ∷ others = cond-true (is_boundary text i) _ _ is in
          let both = failed_next f i (filter (is_boundary text) (numbers_from total i)) others (whole ∙ split) (none i (omega arith) (omega arith) is) in
          (both.0 ∙ rest.0, omega (arith, both.1, rest.1))
      | inr other ↦
          let same : filter (is_boundary text) (numbers_from total i) ≡ others = whole ∙ cond-false (is_boundary text i) _ _ other in
          let tried = ap (attempted f) same in
          (ap (earliest f) same ∙ rest.0, omega (arith, tried, rest.1))
    ]
  where
    true_or_not : (b : Bool) → (b ≡ true) ⊎ (b ≡ false)
    true_or_not true = inl refl
    true_or_not false = inr refl

pub skip_to : (f : ℕ → Option Spot) (text : List ℕ) (at to stop : ℕ) → at ≤ to → to ≤ stop → ((p : ℕ) → at ≤ p → p < to → IsCharBoundary text p → f p ≡ None)
    → stop ≤ length text
    → (earliest f (places text false at stop) ≡ earliest f (places text false to stop)) × (attempted f (places text false at stop) ≤ to - at + attempted f (places text false to stop))
skip_to f text at to stop le high none inside =
    let there : at + (to - at) ≡ to = omega arith in
    subst (λ (k : ℕ). (earliest f (places text false at stop) ≡ earliest f (filter (is_boundary text) (numbers_from (stop + 1 - to) k)))
    × (attempted f (places text false at stop) ≤ to - at + attempted f (filter (is_boundary text) (numbers_from (stop + 1 - to) k)))) there
    (skip_among f text (to - at) (stop + 1 - to) at (stop + 1 - at) (omega arith)
    (λ j low less is. none j low (omega arith) (IsCharBoundary-of_test text j (omega arith) is)))

-- the same of a search that may have one start
pub skip_on : (f : ℕ → Option Spot) (text : List ℕ) (anchored : Bool) (at to stop : ℕ) → at ≤ to → to ≤ stop → (at < to → anchored ≡ false)
    → ((p : ℕ) → at ≤ p → p < to → IsCharBoundary text p → f p ≡ None) → stop ≤ length text
    → (earliest f (places text anchored at stop) ≡ earliest f (places text anchored to stop))
    × (attempted f (places text anchored at stop) ≤ to - at + attempted f (places text anchored to stop))
skip_on f text anchored at to stop le high many none inside =
    ⊎_elim
    (λ (more : at < to).
    subst
    (λ (b : Bool). (earliest f (places text b at stop) ≡ earliest f (places text b to stop))
    × (attempted f (places text b at stop) ≤ to - at + attempted f (places text b to stop)))
    (sym (many more)) (skip_to f text at to stop le high none inside))
    (λ (less : to ≤ at).
    let same : at ≡ to = omega (arith, le, less) in
    let tried = ap (λ (k : ℕ). attempted f (places text anchored k stop)) same in
    (ap (λ (k : ℕ). earliest f (places text anchored k stop)) same, omega (arith, tried)))
    (cases_lt at to)

-- a later start is after an earlier one too
pub after_earlier : (text : List ℕ) (stop at to : ℕ) (next : Option ℕ) → at ≤ to → IfSome next (IsAfter text stop to) → IfSome next (IsAfter text stop at)
after_earlier text stop at to None le h = tt
after_earlier text stop at to (Some i) le h = (omega (arith, le, h.0), h.1, h.2)

module _ (context : SearchContext) (text : List ℕ) (place : Start) (memory : SearchMemory) (start : IsAtStart context text false place memory) (go : ℕ → Continuation) where
  abbrev pub spot : ℕ → Option Spot
  spot = spot_from go context.entry memory.backtrack.slots.items

  pub no_spot : (p : ℕ) → (go context.entry p).answer ≡ None → spot p ≡ None
  no_spot p e = ap (trace_end memory.backtrack.slots.items) e ∙ trace_end_none memory.backtrack.slots.items

  -- the starts before this one fail
  pub on_says : (to : ℕ) → place.at ≤ to → to ≤ context.stop → FailBetween context text go place.at to
      → (earliest spot (remaining_starts context text false place) ≡ earliest spot (places text false to context.stop))
      × (attempted spot (remaining_starts context text false place) ≤ to - place.at + attempted spot (places text false to context.stop))
  on_says to low high fail =
      let skip = skip_to spot text place.at to context.stop low high (λ p a b boundary. no_spot p (fail p a b boundary)) start.inside in
      let tried = ap (attempted spot) start.split in
      (ap (earliest spot) (sym start.split) ∙ skip.0, omega (arith, skip.1, tried))

  -- they fail, and this one matches
  pub found_says : (m : ℕ) (w : Spot) → place.at ≤ m → m ≤ context.stop → IsCharBoundary text m → FailBetween context text go place.at m → spot m ≡ Some w
      → (earliest spot (remaining_starts context text false place) ≡ Some (record { start = m; way = w }))
      × (attempted spot (remaining_starts context text false place) ≤ m - place.at + 1)
  found_says m w low high boundary fail is =
      let on = on_says m low high fail in
      let here = found_here spot text false m context.stop w boundary high is in
      (on.0 ∙ here.0, omega (arith, on.1, here.1))

module _ (context : SearchContext) (text : List ℕ) (it : TableSearch) (by : IsTableSearch context text it) (view : View) (go : ℕ → Continuation) (explains : Explains context text view go) where
  -- the search of the table
  abbrev pub search_of : ℕ → Search
  search_of from = record { text = text; view = view; go = go; entry = context.entry; from = from; stop = context.stop }

  pub is_search : (from : ℕ) → IsUtf8 text → context.stop ≤ length text → IsSearchOf (parts_of context) context.rules (search_of from)
  is_search from utf8 inside = record {
    meaning = record {
      first = explains.longest ∙ by.first;
      no_parts = (explains.shows (length text) (IsCharBoundary-end text)).no_parts;
      agree = explains.agree;
    };
    shows = explains.shows;
    unicode = refl;
    start_shown = by.start_shown;
    end_shown = by.end_shown;
    entry = refl;
    utf8 = utf8;
    inside = inside;
  }

  -- what the table says of starts that fail, and of an end
  pub fail_by : (from to : ℕ) → (IsTable (parts_of context) it.table.now → NoneBefore (search_of from) to) → FailBetween context text go from to
  fail_by from to says p low high boundary =
      none_of (go context.entry p).answer
      (∥∥₁_elim by.table (Bool-set _ _) (λ t. ap is_some (no_end (go context.entry p).answer (says t p low high boundary))))

  pub end_by : (start end : ℕ) → (IsTable (parts_of context) it.table.now → end_of (go context.entry start).answer ≡ Some end)
      → end_of (go context.entry start).answer ≡ Some end
  end_by start end says =
      some_of (end_of (go context.entry start).answer) end
      (∥∥₁_elim by.table (Bool-set _ _) (λ t. ap is_some (says t)))
      (∥∥₁_elim by.table (ℕ_set _ _) (λ t. ap end_or_zero (says t)))
