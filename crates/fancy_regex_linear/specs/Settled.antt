-- Starts that are settled: by the table, or by attempts.
use Rattle.std.specs.Prelude.{◌≡◌, ◌+◌, ◌-◌, ◌^◌, ◌<◌, ◌≤◌, ℕ, Bool, false, List, ◌∷◌, Option, Some, None, length, vec_len, min, unwrap_or, IfSome, IsCharBoundary, IsUtf8}
use Rattle.std.specs.Option.{ForSome}
use Rattle.fancy_regex_class.specs.Looks.{look_count}
use Rattle.fancy_regex_class.specs.declared.counted.Counted.{Counted}
use Rattle.fancy_regex_states.specs.Attempts.{View, Continuation}
use Rattle.fancy_regex_states.specs.First.{RefusesSecond}
use Rattle.fancy_regex_table.specs.Cells.{Parts}
use Rattle.fancy_regex_table.specs.Ends.{end_of}
use Rattle.fancy_regex_table.specs.Tables.{IsTable}
use Rattle.fancy_regex_table.specs.declared.table.Passed.{Passed}
use Rattle.fancy_regex_table.specs.declared.table.Passed.TheVariants as P
use Rattle.fancy_regex_linear.specs.Attempt.{trace_end}
use Rattle.fancy_regex_linear.specs.Find.{FoundMatch, earliest, attempted, places, places_from, found_of_span}
use Rattle.fancy_regex_linear.specs.Before.{IsBeforeOf}
use Rattle.fancy_regex_linear.specs.Passing.{RefusesWideIf}
use Rattle.fancy_regex_linear.specs.Layers.{IsBetweenAttempts, IsOnlyLookedAt}
use Rattle.fancy_regex_linear.specs.Search.{AllFail, Explains, end_spot}
use Rattle.fancy_regex_linear.specs.Starts.{IsStart, IsAfter, spot_from}
use Rattle.fancy_regex_linear.specs.Visited.{Has, visited_bound}
use Rattle.fancy_regex_linear.specs.declared.by_table.TableSearch.{TableSearch}
use Rattle.fancy_regex_linear.specs.declared.memory.SearchMemory.{SearchMemory}
use Rattle.fancy_regex_linear.specs.declared.search.SearchContext.{SearchContext}
use Rattle.fancy_regex_linear.specs.declared.settle.Settled.{Settled}
use Rattle.fancy_regex_linear.specs.declared.settle.Settled.TheVariants.{Found, On}
use Rattle.fancy_regex_linear.specs.declared.starts.Start.{Start}

abbrev pub parts_of : SearchContext → Parts
parts_of context = record { states = context.states.now; entry = context.entry; matchers = context.matchers.now; unicode = context.rules.unicode }

-- The table is that of the states, and what stands at starts that are passed over is refused by them. The text is searched to its end,
-- with no end of it hidden, for the first match.
pub record IsTableSearch (context : SearchContext) (text : List ℕ) (it : TableSearch) : Type 0 where
  pub table : ∥ IsTable (parts_of context) it.table.now ∥₁
  pub text_is : it.text.now ≡ text
  pub passing : it.passing.now.first ≡ context.refused.now
  pub seconds : ∥ RefusesSecond context.rules.unicode context.matchers.now context.states.now context.entry it.passing.now.second ∥₁
  pub wide : ∥ RefusesWideIf it.passing.now.wide context.rules.unicode context.matchers.now context.states.now context.entry ∥₁
  pub before : ForSome it.before.now (IsBeforeOf context.rules.unicode context.matchers.now context.states.now context.entry context.refused.now)
  pub first : context.rules.longest ≡ false
  pub start_shown : context.rules.no_start_text ≡ false
  pub end_shown : context.rules.no_end_text ≡ false
  pub whole : context.stop ≡ length text

-- A pass from `start` costs one look for each place at which it tests a row of the table, but for the first. Where it tells nothing
-- more, none is counted.
abbrev pub CountsPass : Counted → Counted → ℕ → ℕ → Passed → Type 0
CountsPass old new start stop (P.Match first end read) = look_count new ≡ min (look_count old + (read - start)) (2 ^ 64 - 1)
CountsPass old new start stop P.Ended = look_count new ≡ min (look_count old + (stop - start)) (2 ^ 64 - 1)
CountsPass old new start stop (P.Idle next) = look_count new ≡ min (look_count old + (next - (start + 1))) (2 ^ 64 - 1)
CountsPass old new start stop (P.Unknown from read) = new ≡ old

-- no match starts at these places; the last one is not meant
abbrev pub FailBetween : SearchContext → List ℕ → (ℕ → Continuation) → ℕ → ℕ → Type 0
FailBetween context text go low high = (p : ℕ) → low ≤ p → p < high → IsCharBoundary text p → (go context.entry p).answer ≡ None

-- the first boundary after this place
pub record IsBoundaryAfter (text : List ℕ) (at next : ℕ) : Type 0 where
  pub low : at < next
  pub high : next ≤ length text
  pub boundary : IsCharBoundary text next
  pub alone : (p : ℕ) → at < p → p < next → IsCharBoundary text p → ⊥

-- a search is about to settle this start
pub record IsAtStart (context : SearchContext) (text : List ℕ) (anchored : Bool) (place : Start) (memory : SearchMemory) : Type 0 where
  pub inside : context.stop ≤ length text
  pub utf8 : IsUtf8 text
  pub start : (from : ℕ) × IsStart text context.stop from place
  pub split : places text anchored place.at context.stop ≡ place.at ∷ places_from text anchored place.next context.stop
  pub base : memory.visited.base ≤ place.at
  pub between : IsBetweenAttempts context memory

-- the span that was found, and its slots, which these are unless the span alone is wanted
pub record IsAnswer (span_only : Bool) (span : Option (ℕ × ℕ)) (slots : List ℕ) (found : Option FoundMatch) : Type 0 where
  pub found_slots : List ℕ
  pub is : found_of_span span found_slots ≡ found
  pub same_slots : span_only ≡ false → found_slots ≡ slots

-- this start and those after it
abbrev pub remaining_starts : SearchContext → List ℕ → Bool → Start → List ℕ
remaining_starts context text anchored place = place.at ∷ places_from text anchored place.next context.stop

-- What was settled is so. The text was looked at `old` times before, and `new` times now, which is at least once more for each start
-- but the first.
abbrev pub Says : SearchContext → List ℕ → ℕ → ℕ → Bool → Bool → Start → SearchMemory → SearchMemory → View → (ℕ → Continuation) → Settled → Type 0
Says context text old new anchored span_only place memory new_memory view go (Found start end) =
    IsAnswer span_only (Some (start, end)) new_memory.backtrack.slots.items
    (earliest (spot_from go context.entry memory.backtrack.slots.items) (remaining_starts context text anchored place))
    × (min (old + (attempted (spot_from go context.entry memory.backtrack.slots.items) (remaining_starts context text anchored place) - 1)) (2 ^ 64 - 1) ≤ new)
Says context text old new anchored span_only place memory new_memory view go (On next) =
    AllFail view.longest go (Has new_memory.visited)
    × (new_memory.backtrack.slots.items ≡ memory.backtrack.slots.items)
    × (earliest (spot_from go context.entry memory.backtrack.slots.items) (remaining_starts context text anchored place)
    ≡ earliest (spot_from go context.entry memory.backtrack.slots.items) (places_from text anchored next context.stop))
    × (min (old + (attempted (spot_from go context.entry memory.backtrack.slots.items) (remaining_starts context text anchored place) - 1)) (2 ^ 64 - 1)
    ≤ min (new + attempted (spot_from go context.entry memory.backtrack.slots.items) (places_from text anchored next context.stop)) (2 ^ 64 - 1))

-- the search goes on at a later start
pub record IsOnAt (context : SearchContext) (text : List ℕ) (old new : ℕ) (place : Start) (memory new_memory : SearchMemory) (next : Option ℕ) : Type 0 where
  pub after : IfSome next (IsAfter text context.stop place.at)
  pub base : IfSome next (λ i. new_memory.visited.base ≤ i)
  pub between : IsBetweenAttempts context new_memory
  pub counted : new + place.at + 1 + visited_bound memory.visited ≤ old + visited_bound new_memory.visited + unwrap_or next (context.stop + 1)

abbrev pub IsOnIf : SearchContext → List ℕ → ℕ → ℕ → Start → SearchMemory → SearchMemory → Settled → Type 0
IsOnIf context text old new place memory new_memory (Found start end) = Unit {0}
IsOnIf context text old new place memory new_memory (On next) = IsOnAt context text old new place memory new_memory next

pub record IsSettled (context : SearchContext) (text : List ℕ) (old new : ℕ) (anchored span_only : Bool) (place : Start) (memory new_memory : SearchMemory)
    (settled : Settled) : Type 0 where
  pub says : (view : View) (go : ℕ → Continuation) → Explains context text view go → AllFail view.longest go (Has memory.visited)
      → Says context text old new anchored span_only place memory new_memory view go settled
  pub on : IsOnIf context text old new place memory new_memory settled

-- what settling changes, also where it ran out of memory
pub record IsSettling (context : SearchContext) (text new_text : Counted) (place : Start) (memory new_memory : SearchMemory) : Type 0 where
  pub rows : new_memory.visited.rows ≤ context.stop - new_memory.visited.base + 1
  pub count : new_memory.visited.count ≡ memory.visited.count
  pub base : (memory.visited.base ≤ new_memory.visited.base) × (new_memory.visited.base ≤ context.stop)
  pub counted : look_count new_text + place.at + visited_bound memory.visited
      ≤ look_count text + visited_bound new_memory.visited + context.stop
  pub looks : IsOnlyLookedAt text new_text

-- a start was found among these that matches, and where the match ends, or all of them fail
abbrev pub TriedSays : SearchContext → List ℕ → SearchMemory → SearchMemory → ℕ → ℕ → View → (ℕ → Continuation) → Option (ℕ × ℕ) → Type 0
TriedSays context text memory new_memory from last view go None =
    FailBetween context text go from (last + 1) × AllFail view.longest go (Has new_memory.visited)
    × (new_memory.backtrack.slots.items ≡ memory.backtrack.slots.items)
TriedSays context text memory new_memory from last view go (Some span) =
    FailBetween context text go from span.0
    × (end_spot (Some span.1) new_memory.backtrack.slots.items ≡ trace_end memory.backtrack.slots.items (go context.entry span.0).answer)

pub record IsTried (context : SearchContext) (text : List ℕ) (memory new_memory : SearchMemory) (from last : ℕ) (span : Option (ℕ × ℕ)) : Type 0 where
  pub range : IfSome span (λ s. (from ≤ s.0) × (s.0 ≤ last) × IsCharBoundary text s.0)
  pub says : (view : View) (go : ℕ → Continuation) → Explains context text view go → AllFail view.longest go (Has memory.visited)
      → TriedSays context text memory new_memory from last view go span
  pub empty : span ≡ None → vec_len new_memory.backtrack.stack ≡ 0

-- the match that starts here is in the slots, unless the span alone is wanted
pub record IsLoaded (context : SearchContext) (text : List ℕ) (span_only : Bool) (start : ℕ) (memory new_memory : SearchMemory) : Type 0 where
  pub says : (view : View) (go : ℕ → Continuation) → Explains context text view go → AllFail view.longest go (Has memory.visited)
      → (end : ℕ) → end_of (go context.entry start).answer ≡ Some end
      → (slots : List ℕ) × (end_spot (Some end) slots ≡ trace_end memory.backtrack.slots.items (go context.entry start).answer)
      × (span_only ≡ false → slots ≡ new_memory.backtrack.slots.items)

-- what was settled is so where no match starts before `from`
pub record IsSettledAfter (context : SearchContext) (text : List ℕ) (old new : ℕ) (span_only : Bool) (place : Start) (from : ℕ)
    (memory new_memory : SearchMemory) (settled : Settled) : Type 0 where
  pub says : (view : View) (go : ℕ → Continuation) → Explains context text view go → AllFail view.longest go (Has memory.visited)
      → FailBetween context text go place.at from
      → Says context text old new false span_only place memory new_memory view go settled
  pub on : IsOnIf context text old new place memory new_memory settled
