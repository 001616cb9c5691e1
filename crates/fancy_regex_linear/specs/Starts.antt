-- The starts of a search that are to be attempted.
use Rattle.std.specs.Prelude.{◌≡◌, ◌⊎◌, ◌+◌, ◌-◌, ◌^◌, ◌<◌, ◌≤◌, min, ℕ, Bool, false, List, [], ◌∷◌, Option, Some, None, IfSome, IsCharBoundary, IsUtf8, length, slice_index_or}
use Rattle.std.specs.Char.{len_utf8}
use Rattle.regex_hir.specs.Text.{char_at, char_before}
use Rattle.fancy_regex_class.specs.Looks.{looked_text, look_count, SameCounter, HasMarkedAscii}
use Rattle.fancy_regex_class.specs.declared.counted.Counted.{Counted}
use Rattle.fancy_regex_states.specs.First.{CannotFollow, RefusesWide}
use Rattle.fancy_regex_states.specs.Before.{CannotBeginAfter}
use Rattle.fancy_regex_states.specs.Attempts.{View, Continuation}
use Rattle.fancy_regex_linear.specs.Meaning.{Spot}
use Rattle.fancy_regex_linear.specs.Attempt.{trace_end}
use Rattle.fancy_regex_linear.specs.Find.{places_from}
use Rattle.fancy_regex_linear.specs.Visited.{Has, visited_bound}
use Rattle.fancy_regex_linear.specs.declared.search.SearchContext.{SearchContext}
use Rattle.fancy_regex_linear.specs.declared.starts.Candidate.{Candidate}
use Rattle.fancy_regex_linear.specs.declared.starts.Start.{Start}
use Rattle.fancy_regex_linear.specs.declared.visited.Visited.{Visited}

-- where an attempt at this offset ends that has these slots so far
abbrev pub spot_from : (ℕ → Continuation) → ℕ → List ℕ → ℕ → Option Spot
spot_from go entry slots at = trace_end slots (go entry at).answer

-- this start, and those after it
abbrev pub places_left : List ℕ → Bool → ℕ → Option Start → List ℕ
places_left text anchored stop None = []
places_left text anchored stop (Some start) = start.at ∷ places_from text anchored start.next stop

-- an offset after this one, at which a match may start
abbrev pub IsAfter : List ℕ → ℕ → ℕ → ℕ → Type 0
IsAfter text stop at next = (at < next) × (next ≤ stop) × IsCharBoundary text next

-- The start is not before `from`, and the one after it is after it.
pub record IsStart (text : List ℕ) (stop from : ℕ) (start : Start) : Type 0 where
  pub low : from ≤ start.at
  pub high : start.at ≤ stop
  pub boundary : IsCharBoundary text start.at
  pub after : start.after ≡ char_at text start.at
  pub past : IfSome start.after (λ c. IsCharBoundary text (start.at + len_utf8 c))
  pub next : IfSome start.next (IsAfter text stop start.at)

-- where the starts end that were passed over: at the one that is to be attempted, or at the end of the range
abbrev pub passed_to : ℕ → Option Start → ℕ
passed_to stop None = stop
passed_to stop (Some start) = start.at

-- an ASCII character stands at i, and after it one that is second in no match
pub record HasRefusedPair (context : SearchContext) (text : List ℕ) (i : ℕ) : Type 0 where
  pub inside : i < context.stop
  pub first : (c : ℕ) × (c < 128) × (char_at text i ≡ Some c)
  pub second : (d : ℕ) × (d < 128) × (char_at text (i + 1) ≡ Some d)
      × CannotFollow context.rules.unicode context.matchers.now context.states.now context.entry (Some d)

-- the ASCII character at i is refused, or the one after it
abbrev pub IsRefusedAt : SearchContext → List ℕ → ℕ → Type 0
IsRefusedAt context text i = HasMarkedAscii text context.refused.now i ⊎ HasRefusedPair context text i

-- a byte stands at i that is not ASCII, and no match begins with a character that is not
pub record IsWideAt (context : SearchContext) (text : List ℕ) (i : ℕ) : Type 0 where
  pub byte : 128 ≤ slice_index_or text i 0
  pub none : RefusesWide context.rules.unicode context.matchers.now context.states.now context.entry

-- a character stands before i, after which no match begins
pub record IsRefusedAfter (context : SearchContext) (text : List ℕ) (i : ℕ) : Type 0 where
  pub later : 0 < i
  pub none : IsUtf8 text → IsCharBoundary text i → (c : ℕ) → char_before text i ≡ Some c
      → CannotBeginAfter context.rules.unicode context.matchers.now context.states.now context.entry c

-- no match starts at i, by what stands there, after it or before it
abbrev pub IsSkippedAt : SearchContext → List ℕ → ℕ → Type 0
IsSkippedAt context text i = IsRefusedAt context text i ⊎ IsWideAt context text i ⊎ IsRefusedAfter context text i

-- the start at i is passed over for what stands there, or after it
pub record IsPassed (context : SearchContext) (text : List ℕ) (anchored : Bool) (i : ℕ) : Type 0 where
  pub many : anchored ≡ false
  pub not_first : 0 < i
  pub refused : IsSkippedAt context text i

-- a place of the text, from `from` on, and the character there
pub record IsPlaceFrom (old new : Counted) (from stop : ℕ) (place : ℕ × Option ℕ) : Type 0 where
  pub range : (from ≤ place.0) × (place.0 ≤ stop)
  pub boundary : IsCharBoundary (looked_text old) place.0
  pub after : place.1 ≡ char_at (looked_text old) place.0
  pub next : IfSome place.1 (λ c. IsCharBoundary (looked_text old) (place.0 + len_utf8 c))
  pub text : looked_text new ≡ looked_text old
  pub same_counter : SameCounter old new

-- Rows may have been dropped, all of them of offsets before the first that is left, which is none after `low`.
pub record IsDropped (old new : Visited) (low : ℕ) : Type 0 where
  pub count : new.count ≡ old.count
  pub base : (old.base ≤ new.base) × (new.base ≤ low)
  pub rows : (stop : ℕ) → old.rows ≤ stop - old.base + 1 → new.rows ≤ stop - new.base + 1
  pub pairs : (q i : ℕ) → Has new q i → Has old q i

-- The starts from `from` on were passed over, up to this one. There was a look at least for each; the looks are paid for by one for each
-- start, and by the rows that were dropped.
pub record IsCandidateFrom (old new : Counted) (visited new_visited : Visited) (from stop : ℕ) (found : Candidate) : Type 0 where
  pub place : IsPlaceFrom old new from stop (found.at, found.after)
  pub at_least : min (look_count old + (found.at - from + 1)) (2 ^ 64 - 1) ≤ look_count new
  pub counted : look_count new + visited_bound visited ≤ look_count old + visited_bound new_visited + (found.at - from + 1)
  pub dropped : IsDropped visited new_visited found.at
