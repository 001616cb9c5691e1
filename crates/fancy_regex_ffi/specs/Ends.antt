-- How the exported calls end.
use Rattle.std.specs.Prelude.{◌≡◌, ⊤, ℕ, ◌<◌, ◌≤◌, ℤ, Bool, true, false, List, [], length, Option, Some, None, Result, Ok, Err, chars, string_bytes, unwrap_or, ◌-◌, ◌^◌, IsUtf8}
use Rattle.fancy_regex_meta.specs.declared.options.RegexOptions.{RegexOptions}
use Rattle.fancy_regex_meta.specs.MetaMatches.{meta_pattern}
use Rattle.fancy_regex_meta.specs.GroupNames.{name_at}
use Rattle.fancy_regex_search.specs.GroupLookup.{meta_group_names}
use Rattle.fancy_regex_meta.specs.Refusals.{Accepts, Refuses}
use Rattle.fancy_regex_meta.specs.Caps.{MetaKeepsCap}
use Rattle.fancy_regex_ffi.specs.Codes.{code_of, fault_status}
use Rattle.fancy_regex_ffi_lists.specs.Spans.{span_of}
use Rattle.fancy_regex_ffi.specs.Places.{place_of}
use Rattle.fancy_regex_ffi_lists.specs.Fronts.{IsFrontOf}
use Rattle.fancy_regex_ffi.specs.Searches.{IsFoundBy, IsMatchFlagBy, IsCapturedBy, CountsLooksBy, CountsStartsBy}
use Rattle.fancy_regex_ffi.specs.declared.fault.CallError.{CallError}
use Rattle.fancy_regex_ffi.specs.declared.fault.CallError.TheVariants as faults
use Rattle.fancy_regex_ffi.specs.declared.contents.Contents.{Contents}
use Rattle.fancy_regex_ffi.specs.declared.contents.Subject.{Subject}
use Rattle.fancy_regex_ffi.specs.declared.contents.Subject.TheVariants as subjects
use Rattle.fancy_regex_ffi.specs.declared.query.Query.{Query}
use Rattle.fancy_regex_ffi_lists.specs.declared.spans.Span.{Span}
use Rattle.fancy_regex_ffi.specs.declared.status.Status.{Status}
use Rattle.fancy_regex_ffi.specs.declared.status.Status.TheVariants as statuses

-- why a pattern is not built
abbrev pub IsBuildFault : RegexOptions → List ℕ → CallError → Type 0
IsBuildFault options pattern (faults.Regex e) = IsUtf8 pattern × Refuses options pattern e
IsBuildFault options pattern faults.NotUtf8 = IsUtf8 pattern → ⊥
IsBuildFault options pattern _ = ⊥

-- what is built of a pattern, and how the call ends
abbrev pub IsBuilt : RegexOptions → List ℕ → Subject → Option CallError → Status → Type 0
IsBuilt options pattern (subjects.Regex regex) fault status =
    (status ≡ statuses.Done) × (fault ≡ None) × (string_bytes regex.meta.pattern ≡ pattern) × (regex.meta.options ≡ options) × MetaKeepsCap regex.meta
    × Accepts options pattern
IsBuilt options pattern subjects.Nothing (Some fault) status = (status ≡ fault_status fault) × IsBuildFault options pattern fault
IsBuilt options pattern subjects.Nothing None status = ⊥
IsBuilt options pattern (subjects.Set set) fault status = ⊥

-- what was built is stored in the handle, and how that ended is told; or memory ran out for it
abbrev pub IsStored : Contents → Status → Option Contents → ℤ → Type 0
IsStored contents status (Some left) code = (left ≡ contents) × (code ≡ code_of status)
IsStored contents status None code = code ≡ code_of statuses.Memory

-- what stands in the handle after a build, and the number
abbrev pub BuildEnds : RegexOptions → List ℕ → Option Contents → ℤ → Type 0
BuildEnds options pattern (Some contents) code = (status : Status) × (code ≡ code_of status) × IsBuilt options pattern contents.subject contents.fault status
BuildEnds options pattern None code = code ≡ code_of statuses.Memory

-- the number of groups of a regex, the whole match included; 0 without a regex
abbrev pub groups_for : Subject → ℕ
groups_for (subjects.Regex regex) = length (meta_pattern regex.meta).groups
groups_for (subjects.Set set) = 0
groups_for subjects.Nothing = 0

-- the place of a fault, and the largest number where it has none
abbrev pub place_or_max : Option CallError → ℕ
place_or_max (Some fault) = unwrap_or (place_of fault) (2 ^ 64 - 1)
place_or_max None = 2 ^ 64 - 1

-- the number of groups of what a handle holds, the whole match included; 0 where it holds no regex
abbrev pub groups_in : Option Contents → ℕ
groups_in (Some contents) = groups_for contents.subject
groups_in None = 0

-- the place of the fault that is recorded in a handle, and the largest number where it has none
abbrev pub place_in : Option Contents → ℕ
place_in (Some contents) = place_or_max contents.fault
place_in None = 2 ^ 64 - 1

-- the recorded fault after a call: the earlier one after an answer, else that of the call
abbrev pub FaultAfter : {X : Type 0} → Result X CallError → Option CallError → Option CallError → Type 0
FaultAfter (Ok _) old new = new ≡ old
FaultAfter (Err fault) old new = new ≡ Some fault

-- how a search that answers this ends: its number, and the span that it gives, unset without a match
abbrev pub IsSpanStatus : Result (Option (ℕ × ℕ)) CallError → Status → Span → Type 0
IsSpanStatus (Ok (Some found)) status span = (status ≡ statuses.Done) × (span ≡ span_of (Some found))
IsSpanStatus (Ok None) status span = (status ≡ statuses.NoMatch) × (span ≡ span_of None)
IsSpanStatus (Err fault) status span = (status ≡ fault_status fault) × (span ≡ span_of None)

-- How a search of what was built ends: with the match that the definitions give, or without one; or with a fault, which is recorded.
pub record FindEnds (subject : Subject) (text : List ℕ) (query : Query) (status : Status) (span : Span) (old new : Option CallError) : Type 0 where
  pub answer : Result (Option (ℕ × ℕ)) CallError
  pub is_found : IsFoundBy subject text query answer
  pub has_status : IsSpanStatus answer status span
  pub recorded : FaultAfter answer old new

-- how a search for groups, or whether there is a match, that answers this ends
abbrev pub captured_status : Result Bool CallError → Status
captured_status (Ok true) = statuses.Done
captured_status (Ok false) = statuses.NoMatch
captured_status (Err fault) = fault_status fault

-- How a search of what was built for groups ends: their spans are written; or all spans stay as they were, without a match, or with a
-- fault, which is recorded.
pub record CapturesEnd (subject : Subject) (text : List ℕ) (query : Query) (status : Status) (spans written : List Span) (old new : Option CallError) : Type 0 where
  pub answer : Result Bool CallError
  pub is_captured : IsCapturedBy subject text query answer spans written
  pub has_status : status ≡ captured_status answer
  pub recorded : FaultAfter answer old new

-- How a search of what was built ends that asks whether there is a match: with that; or with a fault, which is recorded.
pub record MatchEnds (subject : Subject) (text : List ℕ) (query : Query) (status : Status) (old new : Option CallError) : Type 0 where
  pub answer : Result Bool CallError
  pub is_matched : IsMatchFlagBy subject text query answer
  pub has_status : status ≡ captured_status answer
  pub recorded : FaultAfter answer old new

-- The number that a search of what a handle holds returns, the span, and what the handle holds afterwards: what was built, and the fault
-- that is recorded.
abbrev pub FindReports : Option Contents → Option Contents → List ℕ → Query → ℤ → Span → Type 0
FindReports (Some contents) left text query code span = (after : Contents) × (status : Status) × (left ≡ Some after) × (code ≡ code_of status)
    × (after.subject ≡ contents.subject) × FindEnds contents.subject text query status span contents.fault after.fault
FindReports None left text query code span = (code ≡ code_of statuses.EmptyHandle) × (span ≡ span_of None) × (left ≡ None)

-- the number that a call returns that asks whether what a handle holds has a match, and what the handle holds afterwards
abbrev pub MatchReports : Option Contents → Option Contents → List ℕ → Query → ℤ → Type 0
MatchReports (Some contents) left text query code = (after : Contents) × (status : Status) × (left ≡ Some after) × (code ≡ code_of status)
    × (after.subject ≡ contents.subject) × MatchEnds contents.subject text query status contents.fault after.fault
MatchReports None left text query code = (code ≡ code_of statuses.EmptyHandle) × (left ≡ None)

-- the number that a search for groups of what a handle holds returns, the spans, and what the handle holds afterwards
abbrev pub CapturesReport : Option Contents → Option Contents → List ℕ → Query → ℤ → List Span → List Span → Type 0
CapturesReport (Some contents) left text query code spans written = (after : Contents) × (status : Status) × (left ≡ Some after) × (code ≡ code_of status)
    × (after.subject ≡ contents.subject) × CapturesEnd contents.subject text query status spans written contents.fault after.fault
CapturesReport None left text query code spans written = (code ≡ code_of statuses.EmptyHandle) × (written ≡ spans) × (left ≡ None)

-- the search answers: with a match, or that there is none
abbrev pub IsAnswer : Status → Type 0
IsAnswer statuses.Done = ⊤
IsAnswer statuses.NoMatch = ⊤
IsAnswer _ = ⊥

-- the looks that a search of what a handle holds counts, given the number that it returns
abbrev pub LooksCounted : Option Contents → List ℕ → Query → ℤ → ℕ → Type 0
LooksCounted (Some contents) text query code count = (status : Status) × (code ≡ code_of status) × CountsLooksBy contents.subject text query 0 count
    × (IsAnswer status → CountsStartsBy contents.subject text query 0 count)
LooksCounted None text query code count = count ≡ 0

-- the name of a group of what was built, as characters; there is none without a regex or without such a group
abbrev pub IsGroupName : Subject → ℕ → Option (List ℕ) → Type 0
IsGroupName (subjects.Regex regex) group name =
    (group < length (meta_pattern regex.meta).groups → name ≡ name_at (meta_group_names regex.meta) group) × (length (meta_pattern regex.meta).groups ≤ group → name ≡ None)
IsGroupName (subjects.Set set) group name = name ≡ None
IsGroupName subjects.Nothing group name = name ≡ None

-- the bytes are those of the name in UTF-8, and none without a name
abbrev pub IsNameText : Option (List ℕ) → List ℕ → Type 0
IsNameText (Some name) text = IsUtf8 text × (chars text ≡ name)
IsNameText None text = text ≡ []

-- the bytes are those of the name of the group
abbrev pub IsNameOf : Subject → ℕ → List ℕ → Type 0
IsNameOf subject group text = (name : Option (List ℕ)) × IsGroupName subject group name × IsNameText name text

-- the number is the length of the name of the group in UTF-8, and the bytes begin with it
abbrev pub IsNameWritten : Subject → ℕ → List ℕ → List ℕ → ℕ → Type 0
IsNameWritten subject group old new count = (text : List ℕ) × IsNameOf subject group text × (count ≡ length text) × IsFrontOf text old new

-- the same for what a handle holds; an empty one has no names
abbrev pub NameReports : Option Contents → ℕ → List ℕ → List ℕ → ℕ → Type 0
NameReports (Some contents) group old new count = IsNameWritten contents.subject group old new count
NameReports None group old new count = (count ≡ 0) × (new ≡ old)
