-- The ends of a call for a row of matches, from what it answers.
use Rattle.std.specs.Prelude.{◌≡◌, ℕ, ℤ, ◌<◌, List, Option, Some, Ok, Err}
use mathlib.Core.Path.{refl, sym, subst}
use Rattle.std.proofs.Common.{arith}
use Rattle.fancy_regex_ffi.specs.Codes.{code_of, fault_status}
use Rattle.fancy_regex_ffi.specs.Rows.{IsRowBy, RowEnds, RowReports}
use Rattle.fancy_regex_ffi.specs.declared.fault.CallError.{CallError}
use Rattle.fancy_regex_ffi.specs.declared.contents.Contents.{Contents}
use Rattle.fancy_regex_ffi.specs.declared.contents.Subject.{Subject}
use Rattle.fancy_regex_ffi.specs.declared.query.Query.{Query}
use Rattle.fancy_regex_ffi_lists.specs.declared.spans.Span.{Span}
use Rattle.fancy_regex_ffi.specs.declared.status.Status.{Status}
use Rattle.fancy_regex_ffi.specs.declared.status.Status.TheVariants as statuses

-- no match
pub empty_row_ends : (subject : Subject) (text : List ℕ) (query : Query) (spans written : List Span) (old new : Option CallError)
    → IsRowBy subject text query (Ok 0) spans written → new ≡ old → RowEnds subject text query statuses.NoMatch 0 spans written old new
empty_row_ends subject text query spans written old new by same =
    record { answer = Ok 0; is_row = by; has_status = (refl, λ _. refl, λ some. absurd (omega arith)); recorded = same }

-- some matches
pub row_ends : (subject : Subject) (text : List ℕ) (query : Query) (count : ℕ) (spans written : List Span) (old new : Option CallError)
    → IsRowBy subject text query (Ok count) spans written → 0 < count → new ≡ old → RowEnds subject text query statuses.Done count spans written old new
row_ends subject text query count spans written old new by some same =
    record { answer = Ok count; is_row = by; has_status = (refl, λ none. absurd (omega arith), λ _. refl); recorded = same }

-- a fault
pub row_fault_ends : (subject : Subject) (text : List ℕ) (query : Query) (fault : CallError) (spans written : List Span) (old new : Option CallError)
    → IsRowBy subject text query (Err fault) spans written → new ≡ Some fault → RowEnds subject text query (fault_status fault) 0 spans written old new
row_fault_ends subject text query fault spans written old new by told = record { answer = Err fault; is_row = by; has_status = (refl, refl); recorded = told }

-- what a call for a row of a handle that holds something reports
pub row_reports : (old left : Option Contents) (contents after : Contents) (text : List ℕ) (query : Query) (status : Status) (code : ℤ) (spans written : List Span) (count : ℕ)
    → old ≡ Some contents → left ≡ Some after → code ≡ code_of status → RowEnds contents.subject text query status count spans written contents.fault after.fault
    → after.subject ≡ contents.subject → RowReports old left text query code spans written count
row_reports old left contents after text query status code spans written count before following told ends same =
    subst (λ (o : Option Contents). RowReports o left text query code spans written count) (sym before) (after, status, following, told, same, ends)

-- how a call for a row ends, by its answer
pub ruleset ends_of_row = (empty_row_ends, row_ends, row_fault_ends)
