-- The calls that write a list: all matches of a text, the pieces between them, the replaced text, and the members of a set with their
-- groups.
use Rattle.std.specs.Prelude.{◌≡◌, ◌≢◌, ℕ, ℤ, List, length, Option, Some, None, Result, Ok, Err, string_bytes, IsUtf8}
use Rattle.fancy_regex_search.specs.declared.regex.Regex.{Regex}
use Rattle.fancy_regex.specs.Error.{Error}
use Rattle.fancy_regex.specs.Error.TheVariants.{Memory}
use Rattle.fancy_regex.specs.IterationErrors.{IsErrorOfIteration}
use Rattle.fancy_regex.specs.IterationLimits.{IterationStays}
use Rattle.fancy_regex.specs.SetLimits.{SetStays}
use Rattle.fancy_regex.specs.TextMatches.{matches_of, IsErrorOfSearch}
use Rattle.fancy_regex.specs.ReplacedTexts.{replaced_in}
use Rattle.fancy_regex_ffi_lists.specs.Groups.{AreMatchingGroups}
use Rattle.fancy_regex_ffi_lists.specs.Lists.{gap_spans, match_spans, matching_members, IsMemberError}
use Rattle.fancy_regex_ffi_lists.specs.declared.member.Member.{Member}
use Rattle.fancy_regex_ffi_lists.specs.declared.spans.Span.{Span}
use Rattle.fancy_regex_ffi.specs.Codes.{code_of, fault_status}
use Rattle.fancy_regex_ffi.specs.Ends.{FaultAfter}
use Rattle.fancy_regex_ffi.specs.Searches.{config_of, CanBegin, IsPlaceFault}
use Rattle.fancy_regex_ffi_lists.specs.Fronts.{IsFrontOf}
use Rattle.fancy_regex_ffi.specs.declared.fault.CallError.{CallError}
use Rattle.fancy_regex_ffi.specs.declared.fault.CallError.TheVariants as faults
use Rattle.fancy_regex_ffi.specs.declared.contents.Contents.{Contents}
use Rattle.fancy_regex_ffi.specs.declared.contents.Subject.{Subject}
use Rattle.fancy_regex_ffi.specs.declared.contents.Subject.TheVariants as subjects
use Rattle.fancy_regex_ffi.specs.declared.query.Query.{Query}
use Rattle.fancy_regex_ffi.specs.declared.status.Status.TheVariants as statuses

-- the error is one of a search right after some of the matches, or `Memory`
abbrev pub IsErrorBetween : Regex → List ℕ → Error → Type 0
IsErrorBetween regex text e = e ≢ Memory → IsErrorOfIteration regex.meta text e

-- Why the matches of a text are not all found. The bytes that are to be UTF-8 are those of the text, and of the template if there is one.
abbrev pub IsIterationFault : Regex → List ℕ → Type 0 → CallError → Type 0
IsIterationFault regex text are_utf8 (faults.Regex e) =
    are_utf8 × IsErrorOfSearch regex.meta.options (string_bytes regex.meta.pattern) text e × IsErrorBetween regex text e
IsIterationFault regex text are_utf8 faults.NotUtf8 = are_utf8 → ⊥
IsIterationFault regex text are_utf8 _ = ⊥

-- what a call on a regex answers; without a regex it answers the fault that says so
abbrev pub OfRegex : {X : Type 0} → (Regex → Result X CallError → Type 0) → Subject → Result X CallError → Type 0
OfRegex Gives (subjects.Regex regex) answer = Gives regex answer
OfRegex Gives (subjects.Set set) (Ok _) = ⊥
OfRegex Gives (subjects.Set set) (Err fault) = fault ≡ faults.NoRegex
OfRegex Gives subjects.Nothing (Ok _) = ⊥
OfRegex Gives subjects.Nothing (Err fault) = fault ≡ faults.NoRegex

-- the spans of all matches of the text
abbrev pub AreMatchSpans : List ℕ → Regex → Result (List Span) CallError → Type 0
AreMatchSpans text regex (Ok spans) = IsUtf8 text × IterationStays regex.meta text × (spans ≡ match_spans (matches_of regex text))
AreMatchSpans text regex (Err fault) = IsIterationFault regex text (IsUtf8 text) fault

-- the spans of all pieces of the text between its matches
abbrev pub ArePieceSpans : List ℕ → Regex → Result (List Span) CallError → Type 0
ArePieceSpans text regex (Ok spans) = IsUtf8 text × IterationStays regex.meta text × (spans ≡ gap_spans 0 (length text) (matches_of regex text))
ArePieceSpans text regex (Err fault) = IsIterationFault regex text (IsUtf8 text) fault

-- the text with each match replaced by what the template stands for there
abbrev pub IsReplacedText : List ℕ → List ℕ → Regex → Result (List ℕ) CallError → Type 0
IsReplacedText text template regex (Ok out) =
    (IsUtf8 text × IsUtf8 template) × IterationStays regex.meta text × (out ≡ replaced_in regex.meta.options (string_bytes regex.meta.pattern) template text)
IsReplacedText text template regex (Err fault) = IsIterationFault regex text (IsUtf8 text × IsUtf8 template) fault

-- why a set does not answer
abbrev pub IsSetFault : List Regex → List ℕ → Query → CallError → Type 0
IsSetFault regexes text query (faults.Regex e) = CanBegin text query.position × IsMemberError regexes text (config_of text query) e
IsSetFault regexes text query faults.NotUtf8 = IsUtf8 text → ⊥
IsSetFault regexes text query fault = IsPlaceFault text query.position fault

-- The members of a set that match at the earliest position at which one of them does, as the definitions give them, or why there is
-- no answer.
abbrev pub AreMembersIn : List Regex → List ℕ → Query → Result (List Member) CallError → Type 0
AreMembersIn regexes text query (Ok members) = CanBegin text query.position × SetStays regexes text (config_of text query) × (members ≡ matching_members regexes text (config_of text query))
AreMembersIn regexes text query (Err fault) = IsSetFault regexes text query fault

-- The groups of those members, one after another, or why there is no answer.
abbrev pub AreMemberGroupsIn : List Regex → List ℕ → Query → Result (List Member) CallError → Type 0
AreMemberGroupsIn regexes text query (Ok groups) = CanBegin text query.position × SetStays regexes text (config_of text query) × AreMatchingGroups regexes text (config_of text query) groups
AreMemberGroupsIn regexes text query (Err fault) = IsSetFault regexes text query fault

-- what a call on a set answers; without a set it answers the fault that says so
abbrev pub OfSet : {X : Type 0} → (List Regex → Result X CallError → Type 0) → Subject → Result X CallError → Type 0
OfSet Gives (subjects.Set set) answer = Gives set.regexes.items answer
OfSet Gives (subjects.Regex regex) (Ok _) = ⊥
OfSet Gives (subjects.Regex regex) (Err fault) = fault ≡ faults.NoSet
OfSet Gives subjects.Nothing (Ok _) = ⊥
OfSet Gives subjects.Nothing (Err fault) = fault ≡ faults.NoSet

-- the members and the groups for what was built
abbrev pub AreMembers : List ℕ → Query → Subject → Result (List Member) CallError → Type 0
AreMembers text query = OfSet (λ regexes. AreMembersIn regexes text query)

abbrev pub AreMemberGroups : List ℕ → Query → Subject → Result (List Member) CallError → Type 0
AreMemberGroups text query = OfSet (λ regexes. AreMemberGroupsIn regexes text query)

-- the answer as a list
abbrev pub listed : {V X : Type 0} → (V → X) → Result V CallError → Result X CallError
listed items_of (Ok v) = Ok (items_of v)
listed items_of (Err fault) = Err fault

-- The list is written, as much of it as there is room for, and its length is told; or the fault is told, and nothing is written.
abbrev pub IsListWritten : {X : Type 0} → Result (List X) CallError → ℤ → List X → List X → ℕ → Type 0
IsListWritten (Ok xs) code old new count = (code ≡ code_of statuses.Done) × IsFrontOf xs old new × (count ≡ length xs)
IsListWritten (Err fault) code old new count = (code ≡ code_of (fault_status fault)) × (new ≡ old) × (count ≡ 0)

-- How a call ends that writes the list that `Gives` says of what a handle holds: what stands in the handle afterwards, the number, and
-- what is written and counted. An empty handle has no list.
abbrev pub ListReports : {X : Type 0} → (Subject → Result (List X) CallError → Type 0) → Option Contents → Option Contents → ℤ → List X → List X → ℕ → Type 0
ListReports {X} Gives (Some contents) left code old new count =
    (after : Contents) × (answer : Result (List X) CallError) × (left ≡ Some after) × (after.subject ≡ contents.subject) × Gives contents.subject answer
    × IsListWritten answer code old new count × FaultAfter answer contents.fault after.fault
ListReports Gives None left code old new count = (code ≡ code_of statuses.EmptyHandle) × (new ≡ old) × (count ≡ 0) × (left ≡ None)
