-- The loop that writes a row of matches: what one more match changes, and what each return answers.
use Rattle.std.specs.Prelude.{◌≡◌, ℕ, ◌+◌, ◌-◌, ◌<◌, ◌≤◌, List, length, slice_set, ◌⊎◌, Option, Some, None, Ok, Err}
use Rattle.std.proofs.Common.{arith, refl, sym, ap, subst, ◌∙◌, inl, inr, ⊎_elim}
use Rattle.std.proofs.lemmas.List.{get_or-set_same, get_or-set_other, length-set}
use Rattle.std.proofs.lemmas.Bool.{cases_lt}
use Rattle.fancy_regex_meta.specs.declared.meta_regex.MetaRegex.{MetaRegex}
use Rattle.fancy_regex_ffi_lists.specs.Spans.{span_of}
use Rattle.fancy_regex_ffi_lists.specs.declared.spans.Span.{Span}
use Rattle.fancy_regex_ffi.specs.Rows.{IsFoundSpan, IsRow, IsRowIn, query_after, span_at}
use Rattle.fancy_regex_ffi.specs.Searches.{Answers, IsFoundIn, IsSearchFault, found_by}
use Rattle.fancy_regex_ffi.specs.declared.fault.CallError.{CallError}
use Rattle.fancy_regex_ffi.specs.declared.query.Query.{Query}

-- the next search of a row begins where its last match ended, which is not empty; the first one is the search itself
pub record IsNext (query : Query) (count : ℕ) (spans : List Span) (next : Query) : Type 0 where
  pub start : count ≡ 0 → next ≡ query
  pub after : (k : ℕ) → k + 1 ≡ count → next ≡ query_after query (span_at spans k).end
  pub full : (k : ℕ) → k + 1 ≡ count → (span_at spans k).start < (span_at spans k).end

-- the numbers of a row
pub never_none : (count : ℕ) → count + 1 ≡ 0 → ⊥
never_none count none = omega arith

below_none : (k : ℕ) → k + 1 < 0 → ⊥
below_none k below = omega arith

past_is_other : (k count : ℕ) → count + 1 ≤ k → k ≡ count → ⊥
past_is_other k count past same = omega arith

full_has_some : (count room old : ℕ) → room ≡ old → room ≤ count → count ≡ 0 → 0 < old → ⊥
full_has_some count room old same full none some = omega arith

below_or_last : (k count : ℕ) → k + 1 < count + 1 → (k + 1 < count) ⊎ (k + 1 ≡ count)
below_or_last k count below = ⊎_elim (λ less. inl less) (λ high. inr (omega arith)) (cases_lt (k + 1) count)

-- What is read after a span is written.
module _ (spans : List Span) (count : ℕ) (span : Span) where
  at_written : count < length spans → span_at (slice_set spans count span) count ≡ span
  at_written room = get_or-set_same spans count span (span_of None) room

  at_last : (k : ℕ) → count < length spans → k + 1 ≡ count + 1 → span_at (slice_set spans count span) k ≡ span
  at_last k room last = let same : k ≡ count = omega arith in rw same (at_written room)

  at_other : (k : ℕ) → (k ≡ count → ⊥) → span_at (slice_set spans count span) k ≡ span_at spans k
  at_other k other = get_or-set_other spans count k span (span_of None) other

  at_earlier : (k : ℕ) → k < count → span_at (slice_set spans count span) k ≡ span_at spans k
  at_earlier k earlier = at_other k (λ same. omega arith)

  -- each span that is written leaves less room
  pub room_falls : count < length spans → length (slice_set spans count span) - (count + 1) < length spans - count
  room_falls room = omega (arith, length-set spans count span)

-- What holds of the spans that the searches before found, whatever `Found` says of one, holds with that of the next search too.
module _ (Found : Query → Span → Type 0) (query next : Query) (count : ℕ) (spans : List Span) (span : Span)
    (room : count < length spans) (is : IsNext query count spans next) (found : Found next span) where
  first_of_one : count ≡ 0 → Found query (span_at (slice_set spans count span) 0)
  first_of_one none = subst (λ (k : ℕ). Found query (span_at (slice_set spans count span) k)) none
      (subst (λ (s : Span). Found query s) (sym (at_written spans count span room))
      (subst (λ (q : Query). Found q span) (is.start none) found))

  first_of_more : 0 < count → Found query (span_at spans 0) → Found query (span_at (slice_set spans count span) 0)
  first_of_more some before = subst (λ (s : Span). Found query s) (sym (at_earlier spans count span 0 some)) before

  first_grows : (0 < count → Found query (span_at spans 0)) → Found query (span_at (slice_set spans count span) 0)
  first_grows before = ⊎_elim (λ some. first_of_more some (before some)) (λ none. first_of_one (omega arith)) (cases_lt 0 count)

  later_of_last : (k : ℕ) → k + 1 ≡ count
      → Found (query_after query (span_at (slice_set spans count span) k).end) (span_at (slice_set spans count span) (k + 1))
  later_of_last k last =
      let before : span_at (slice_set spans count span) k ≡ span_at spans k = at_earlier spans count span k (omega arith) in
      let here : span_at (slice_set spans count span) (k + 1) ≡ span = rw last (at_written spans count span room) in
      subst (λ (s : Span). Found (query_after query (span_at (slice_set spans count span) k).end) s) (sym here)
      (subst (λ (s : Span). Found (query_after query s.end) span) (sym before)
      (subst (λ (q : Query). Found q span) (is.after k last) found))

  later_of_earlier : (k : ℕ) → k + 1 < count → Found (query_after query (span_at spans k).end) (span_at spans (k + 1))
      → Found (query_after query (span_at (slice_set spans count span) k).end) (span_at (slice_set spans count span) (k + 1))
  later_of_earlier k below held =
      let before : span_at (slice_set spans count span) k ≡ span_at spans k = at_earlier spans count span k (omega arith) in
      let here : span_at (slice_set spans count span) (k + 1) ≡ span_at spans (k + 1) = at_earlier spans count span (k + 1) below in
      subst (λ (s : Span). Found (query_after query (span_at (slice_set spans count span) k).end) s) (sym here)
      (subst (λ (s : Span). Found (query_after query s.end) (span_at spans (k + 1))) (sym before) held)

  later_grows : ((k : ℕ) → k + 1 < count → Found (query_after query (span_at spans k).end) (span_at spans (k + 1)))
      → (k : ℕ) → k + 1 < count + 1
      → Found (query_after query (span_at (slice_set spans count span) k).end) (span_at (slice_set spans count span) (k + 1))
  later_grows held k below =
      ⊎_elim (λ less. later_of_earlier k less (held k less)) (λ last. later_of_last k last) (below_or_last k count below)

-- No span before the last is empty, once one more is written.
full_grows : (query next : Query) (count : ℕ) (spans : List Span) (span : Span) → IsNext query count spans next
    → ((k : ℕ) → k + 1 < count → (span_at spans k).start < (span_at spans k).end) → (k : ℕ) → k + 1 < count + 1
    → (span_at (slice_set spans count span) k).start < (span_at (slice_set spans count span) k).end
full_grows query next count spans span is full k below =
    subst (λ (s : Span). s.start < s.end) (sym (at_earlier spans count span k (omega arith)))
    (⊎_elim (λ less. full k less) (λ last. is.full k last) (below_or_last k count below))

-- There is room for a span that is written.
room_grows : (count : ℕ) (spans : List Span) (span : Span) → count < length spans → count + 1 ≤ length (slice_set spans count span)
room_grows count spans span room = omega (arith, length-set spans count span)

-- A row begins with no match, and its next search is the search itself.
pub row_begins : (meta : MetaRegex) (text : List ℕ) (query : Query) (spans : List Span) → IsRow meta text query 0 spans spans
row_begins meta text query spans = record {
  room = omega arith;
  first = λ some. absurd (omega arith);
  later = λ k below. absurd (below_none k below);
  full = λ k below. absurd (below_none k below);
  others = λ k past. refl;
}

pub next_begins : (query : Query) (spans : List Span) → IsNext query 0 spans query
next_begins query spans = record {
  start = λ none. refl;
  after = λ k last. absurd (never_none k last);
  full = λ k last. absurd (never_none k last);
}

-- It grows by the match that the next search finds.
pub row_grows : (meta : MetaRegex) (text : List ℕ) (query next : Query) (count : ℕ) (old spans : List Span) (span : Span)
    → IsRow meta text query count old spans → IsNext query count spans next → count < length spans → IsFoundSpan meta text next span
    → IsRow meta text query (count + 1) old (slice_set spans count span)
row_grows meta text query next count old spans span row is room found = record {
  room = room_grows count spans span room;
  first = λ _. first_grows (IsFoundSpan meta text) query next count spans span room is found row.first;
  later = later_grows (IsFoundSpan meta text) query next count spans span room is found row.later;
  full = full_grows query next count spans span is row.full;
  others = λ k past. at_other spans count span k (past_is_other k count past) ∙ row.others k (omega arith);
}

-- The search from the end of a match that is not empty is the next one.
pub next_grows : (query : Query) (count : ℕ) (spans : List Span) (span : Span) (next : Query) → count < length spans
    → span.start < span.end → next ≡ query_after query span.end → IsNext query (count + 1) (slice_set spans count span) next
next_grows query count spans span next room full after = record {
  start = λ none. absurd (never_none count none);
  after = λ k last. after ∙ ap (λ (s : Span). query_after query s.end) (sym (at_last spans count span k room last));
  full = λ k last. subst (λ (s : Span). s.start < s.end) (sym (at_last spans count span k room last)) full;
}

-- the match that a search answers, as the span that is written
pub found_span : (meta : MetaRegex) (text : List ℕ) (query : Query) (found : Option (ℕ × ℕ)) (start end : ℕ)
    → Answers meta text query × (found ≡ found_by meta text query) → found ≡ Some (start, end)
    → IsFoundSpan meta text query (record { start = start; end = end })
found_span meta text query found start end told is = (told.0, sym is ∙ told.1)

-- What the returns answer: after an empty match,
pub row_after_match : (meta : MetaRegex) (text : List ℕ) (query : Query) (count : ℕ) (old spans : List Span) (span : Span)
    → IsRow meta text query (count + 1) old (slice_set spans count span) → length spans ≡ length old
    → IsRowIn meta text query (Ok (count + 1)) old (slice_set spans count span)
row_after_match meta text query count old spans span row same =
    (row, length-set spans count span ∙ same, λ none. absurd (never_none count none))

-- where there is no more room,
pub row_without_room : (meta : MetaRegex) (text : List ℕ) (query : Query) (count : ℕ) (old spans : List Span)
    → IsRow meta text query count old spans → length spans ≡ length old → length spans ≤ count
    → IsRowIn meta text query (Ok count) old spans
row_without_room meta text query count old spans row same full =
    (row, same, λ none room. absurd (full_has_some count (length spans) (length old) same full none room))

-- where the next search has no match,
pub row_before_none : (meta : MetaRegex) (text : List ℕ) (query next : Query) (count : ℕ) (old spans : List Span) (found : Option (ℕ × ℕ))
    → IsRow meta text query count old spans → IsNext query count spans next → length spans ≡ length old
    → Answers meta text next × (found ≡ found_by meta text next) → found ≡ None → IsRowIn meta text query (Ok count) old spans
row_before_none meta text query next count old spans found row is same told none =
    (row, same, λ zero. λ _. subst (λ (q : Query). IsFoundIn meta text q (Ok None)) (is.start zero) (told.0, sym none ∙ told.1))

-- where it has a fault after some match,
pub row_before_fault : (meta : MetaRegex) (text : List ℕ) (query : Query) (count : ℕ) (old spans : List Span)
    → IsRow meta text query count old spans → length spans ≡ length old → (count ≡ 0 → ⊥) → IsRowIn meta text query (Ok count) old spans
row_before_fault meta text query count old spans row same some = (row, same, λ none. absurd (some none))

-- and where the first search has one.
pub fault_of_row : (meta : MetaRegex) (text : List ℕ) (query next : Query) (count : ℕ) (old spans : List Span) (fault : CallError)
    → IsNext query count spans next → (count ≡ 0 → spans ≡ old) → count ≡ 0 → IsSearchFault meta text next fault
    → IsRowIn meta text query (Err fault) old spans
fault_of_row meta text query next count old spans fault is same none told =
    (subst (λ (q : Query). IsSearchFault meta text q fault) (is.start none) told, same none)
