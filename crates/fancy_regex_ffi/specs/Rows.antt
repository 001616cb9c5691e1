-- Rows of matches: the first match of a search, and those of searches that begin where the match before them ended.
use Rattle.std.specs.Prelude.{◌≡◌, ℕ, ℤ, ◌+◌, ◌<◌, ◌≤◌, List, length, Option, Some, None, Result, Ok, Err, get_or}
use Rattle.fancy_regex_meta.specs.declared.meta_regex.MetaRegex.{MetaRegex}
use Rattle.fancy_regex_ffi.specs.Codes.{code_of, fault_status}
use Rattle.fancy_regex_ffi_lists.specs.Spans.{span_of}
use Rattle.fancy_regex_ffi.specs.Ends.{FaultAfter}
use Rattle.fancy_regex_ffi.specs.Searches.{IsFoundIn}
use Rattle.fancy_regex_ffi.specs.declared.fault.CallError.{CallError}
use Rattle.fancy_regex_ffi.specs.declared.fault.CallError.TheVariants as faults
use Rattle.fancy_regex_ffi.specs.declared.contents.Contents.{Contents}
use Rattle.fancy_regex_ffi.specs.declared.contents.Subject.{Subject}
use Rattle.fancy_regex_ffi.specs.declared.contents.Subject.TheVariants as subjects
use Rattle.fancy_regex_ffi.specs.declared.query.Query.{Query}
use Rattle.fancy_regex_ffi_lists.specs.declared.spans.Span.{Span}
use Rattle.fancy_regex_ffi.specs.declared.status.Status.{Status}
use Rattle.fancy_regex_ffi.specs.declared.status.Status.TheVariants as statuses

-- the query for the search after a match that ends there
abbrev pub query_after : Query → ℕ → Query
query_after query end = record query { position = end }

-- the span of this number
abbrev pub span_at : List Span → ℕ → Span
span_at spans k = get_or spans k (span_of None)

-- the search finds this span
abbrev pub IsFoundSpan : MetaRegex → List ℕ → Query → Span → Type 0
IsFoundSpan meta text query span = IsFoundIn meta text query (Ok (Some (span.start, span.end)))

-- The first spans are those of a row of matches, and the others are as they were.
pub record IsRow (meta : MetaRegex) (text : List ℕ) (query : Query) (count : ℕ) (old new : List Span) : Type 0 where
  pub room : count ≤ length new
  pub first : 0 < count → IsFoundSpan meta text query (span_at new 0)
  pub later : (k : ℕ) → k + 1 < count → IsFoundSpan meta text (query_after query (span_at new k).end) (span_at new (k + 1))
  pub full : (k : ℕ) → k + 1 < count → (span_at new k).start < (span_at new k).end
  pub others : (k : ℕ) → count ≤ k → span_at new k ≡ span_at old k

-- so many matches are written, and none only where there is none or no room; or why the first search has no answer
abbrev pub IsRowIn : MetaRegex → List ℕ → Query → Result ℕ CallError → List Span → List Span → Type 0
IsRowIn meta text query (Ok count) old new =
    IsRow meta text query count old new × (length new ≡ length old) × (count ≡ 0 → 0 < length old → IsFoundIn meta text query (Ok None))
IsRowIn meta text query (Err fault) old new = IsFoundIn meta text query (Err fault) × (new ≡ old)

-- the same for what was built
abbrev pub IsRowBy : Subject → List ℕ → Query → Result ℕ CallError → List Span → List Span → Type 0
IsRowBy (subjects.Regex regex) text query row old new = IsRowIn regex.meta text query row old new
IsRowBy (subjects.Set set) text query (Ok _) old new = ⊥
IsRowBy (subjects.Set set) text query (Err fault) old new = (fault ≡ faults.NoRegex) × (new ≡ old)
IsRowBy subjects.Nothing text query (Ok _) old new = ⊥
IsRowBy subjects.Nothing text query (Err fault) old new = (fault ≡ faults.NoRegex) × (new ≡ old)

-- how a call ends that answers this: its number, and how many matches are written
abbrev pub IsRowStatus : Result ℕ CallError → Status → ℕ → Type 0
IsRowStatus (Ok written) status count = (count ≡ written) × (written ≡ 0 → status ≡ statuses.NoMatch) × (0 < written → status ≡ statuses.Done)
IsRowStatus (Err fault) status count = (count ≡ 0) × (status ≡ fault_status fault)

-- How a call for a row of matches of what was built ends: with the matches; or with a fault, which is recorded.
pub record RowEnds (subject : Subject) (text : List ℕ) (query : Query) (status : Status) (count : ℕ) (spans written : List Span)
    (old new : Option CallError) : Type 0 where
  pub answer : Result ℕ CallError
  pub is_row : IsRowBy subject text query answer spans written
  pub has_status : IsRowStatus answer status count
  pub recorded : FaultAfter answer old new

-- The number that a call for a row of matches of what a handle holds returns, the spans, how many there are, and what the handle holds
-- afterwards.
abbrev pub RowReports : Option Contents → Option Contents → List ℕ → Query → ℤ → List Span → List Span → ℕ → Type 0
RowReports (Some contents) left text query code spans written count =
    (after : Contents) × (status : Status) × (left ≡ Some after) × (code ≡ code_of status) × (after.subject ≡ contents.subject)
    × RowEnds contents.subject text query status count spans written contents.fault after.fault
RowReports None left text query code spans written count =
    (code ≡ code_of statuses.EmptyHandle) × (written ≡ spans) × (count ≡ 0) × (left ≡ None)
