-- The ends of a search, from what it answers.
use Rattle.std.specs.Prelude.{◌≡◌, ℕ, ℤ, List, Bool, true, false, Option, Some, None, Result, Ok, Err, string_bytes}
use Rattle.std.proofs.Common.{◌∙◌}
use mathlib.Core.Path.{refl, sym, ap, subst}
use Rattle.fancy_regex_meta.specs.Caps.{MetaKeepsCap}
use Rattle.fancy_regex_meta.specs.Refusals.{Accepts}
use Rattle.fancy_regex_meta.specs.declared.options.RegexOptions.{RegexOptions}
use Rattle.fancy_regex_meta.specs.declared.meta_regex.MetaRegex.{MetaRegex}
use Rattle.fancy_regex_meta.specs.MetaMatches.{meta_match, meta_pattern}
use Rattle.fancy_regex_meaning.specs.Searches.{Match}
use Rattle.fancy_regex_search.specs.declared.regex.Regex.{Regex}
use Rattle.fancy_regex_search.specs.CaptureSpans.{AreGroupsOf}
use Rattle.fancy_regex_ffi.specs.Codes.{code_of, fault_status}
use Rattle.fancy_regex_ffi_lists.specs.Spans.{span_of}
use Rattle.fancy_regex_ffi.specs.Ends.{FindEnds, MatchEnds, CapturesEnd, FindReports, MatchReports, CapturesReport, LooksCounted, NameReports, IsNameWritten, IsBuilt, IsAnswer, IsBuildFault, BuildEnds, IsStored}
use Rattle.fancy_regex_ffi.specs.Searches.{IsFoundBy, IsMatchFlagBy, IsCapturedBy, CountsLooksBy, CountsStartsBy, AreGroupSpans, AreGroupsFound, config_of}
use Rattle.fancy_regex_ffi.specs.Bytes.{IsFaultStored, AreStartsOrFault, AreRequiredOrFault, IsAskedEnd, StartBytesEnd, RequiredBytesEnd}
use Rattle.fancy_regex_ffi.specs.declared.fault.CallError.{CallError}
use Rattle.fancy_regex_ffi.specs.declared.fault.CallError.TheVariants as faults
use Rattle.fancy_regex_meta.specs.declared.error.Error.TheVariants.{ParseError, CompileError, RuntimeError, Memory}
use Rattle.fancy_regex_ffi.specs.declared.contents.Contents.{Contents}
use Rattle.fancy_regex_ffi.specs.declared.contents.Subject.{Subject}
use Rattle.fancy_regex_ffi.specs.declared.contents.Subject.TheVariants as subjects
use Rattle.fancy_regex_ffi.specs.declared.query.Query.{Query}
use Rattle.fancy_regex_ffi_lists.specs.declared.spans.Span.{Span}
use Rattle.fancy_regex_ffi.specs.declared.status.Status.{Status}
use Rattle.fancy_regex_ffi.specs.declared.status.Status.TheVariants as statuses

-- a match that is found
pub found_ends : (subject : Subject) (text : List ℕ) (query : Query) (found : ℕ × ℕ) (old new : Option CallError) → IsFoundBy subject text query (Ok (Some found)) → new ≡ old
    → FindEnds subject text query statuses.Done (span_of (Some found)) old new
found_ends subject text query found old new by same = record { answer = Ok (Some found); is_found = by; has_status = (refl, refl); recorded = same }

-- no match
pub missing_ends : (subject : Subject) (text : List ℕ) (query : Query) (old new : Option CallError) → IsFoundBy subject text query (Ok None) → new ≡ old
    → FindEnds subject text query statuses.NoMatch (span_of None) old new
missing_ends subject text query old new by same = record { answer = Ok None; is_found = by; has_status = (refl, refl); recorded = same }

-- a search that has a fault
pub fault_ends : (subject : Subject) (text : List ℕ) (query : Query) (fault : CallError) (old new : Option CallError) → IsFoundBy subject text query (Err fault) → new ≡ Some fault
    → FindEnds subject text query (fault_status fault) (span_of None) old new
fault_ends subject text query fault old new by told = record { answer = Err fault; is_found = by; has_status = (refl, refl); recorded = told }

-- the spans of a match from the offsets of its groups
pub groups_found : (meta : MetaRegex) (text : List ℕ) (query : Query) (slots : List ℕ) (spans : List Span) (found : Match) → meta_match meta text (config_of text query) ≡ Some found
    → AreGroupsOf (meta_pattern meta) slots found → AreGroupSpans text slots spans → AreGroupsFound meta text query spans
groups_found meta text query slots spans found same are here = (found, same, subst (λ (s : List ℕ). AreGroupSpans text s spans) are here)

-- groups that are found
pub captured_ends : (subject : Subject) (text : List ℕ) (query : Query) (spans written : List Span) (old new : Option CallError) → IsCapturedBy subject text query (Ok true) spans written → new ≡ old
    → CapturesEnd subject text query statuses.Done spans written old new
captured_ends subject text query spans written old new by same = record { answer = Ok true; is_captured = by; has_status = refl; recorded = same }

-- no groups
pub uncaptured_ends : (subject : Subject) (text : List ℕ) (query : Query) (spans written : List Span) (old new : Option CallError) → IsCapturedBy subject text query (Ok false) spans written → new ≡ old
    → CapturesEnd subject text query statuses.NoMatch spans written old new
uncaptured_ends subject text query spans written old new by same = record { answer = Ok false; is_captured = by; has_status = refl; recorded = same }

-- a search for groups that has a fault
pub captures_fault_ends : (subject : Subject) (text : List ℕ) (query : Query) (fault : CallError) (spans written : List Span) (old new : Option CallError) → IsCapturedBy subject text query (Err fault) spans written
    → new ≡ Some fault → CapturesEnd subject text query (fault_status fault) spans written old new
captures_fault_ends subject text query fault spans written old new by told = record { answer = Err fault; is_captured = by; has_status = refl; recorded = told }

-- a search that answers whether there is a match
pub matched_ends : (subject : Subject) (text : List ℕ) (query : Query) (old new : Option CallError) → IsMatchFlagBy subject text query (Ok true) → new ≡ old
    → MatchEnds subject text query statuses.Done old new
matched_ends subject text query old new by same = record { answer = Ok true; is_matched = by; has_status = refl; recorded = same }

pub unmatched_ends : (subject : Subject) (text : List ℕ) (query : Query) (old new : Option CallError) → IsMatchFlagBy subject text query (Ok false) → new ≡ old
    → MatchEnds subject text query statuses.NoMatch old new
unmatched_ends subject text query old new by same = record { answer = Ok false; is_matched = by; has_status = refl; recorded = same }

-- one that has a fault
pub match_fault_ends : (subject : Subject) (text : List ℕ) (query : Query) (fault : CallError) (old new : Option CallError) → IsMatchFlagBy subject text query (Err fault)
    → new ≡ Some fault → MatchEnds subject text query (fault_status fault) old new
match_fault_ends subject text query fault old new by told = record { answer = Err fault; is_matched = by; has_status = refl; recorded = told }

-- a regex that is built
pub built_ends : (options : RegexOptions) (pattern : List ℕ) (subject : Subject) (recorded : Option CallError) (regex : Regex) → subject ≡ subjects.Regex regex → recorded ≡ None
    → string_bytes regex.meta.pattern ≡ pattern → regex.meta.options ≡ options → MetaKeepsCap regex.meta → Accepts options pattern → IsBuilt options pattern subject recorded statuses.Done
built_ends options pattern subject recorded regex same none text chosen cap accepted =
    subst (λ (s : Subject). IsBuilt options pattern s recorded statuses.Done) (sym same) (refl, none, text, chosen, cap, accepted)

-- a pattern that is refused
pub refused_ends : (options : RegexOptions) (pattern : List ℕ) (subject : Subject) (recorded : Option CallError) (fault : CallError) → subject ≡ subjects.Nothing → recorded ≡ Some fault
    → IsBuildFault options pattern fault → IsBuilt options pattern subject recorded (fault_status fault)
refused_ends options pattern subject recorded fault same holds wrong =
    subst (λ (s : Subject). IsBuilt options pattern s recorded (fault_status fault)) (sym same) (subst (λ (k : Option CallError). IsBuilt options pattern subjects.Nothing k (fault_status fault)) (sym holds) (refl, wrong))

-- what a search of a handle that holds something reports
pub find_reports : (old left : Option Contents) (contents after : Contents) (text : List ℕ) (query : Query) (status : Status) (code : ℤ) (span : Span) → old ≡ Some contents → left ≡ Some after → code ≡ code_of status
    → FindEnds contents.subject text query status span contents.fault after.fault → after.subject ≡ contents.subject → FindReports old left text query code span
find_reports old left contents after text query status code span before following told ends same =
    subst (λ (o : Option Contents). FindReports o left text query code span) (sym before) (after, status, following, told, same, ends)

-- what a question of a handle that holds something reports
pub match_reports : (old left : Option Contents) (contents after : Contents) (text : List ℕ) (query : Query) (status : Status) (code : ℤ) → old ≡ Some contents → left ≡ Some after → code ≡ code_of status
    → MatchEnds contents.subject text query status contents.fault after.fault → after.subject ≡ contents.subject → MatchReports old left text query code
match_reports old left contents after text query status code before following told ends same =
    subst (λ (o : Option Contents). MatchReports o left text query code) (sym before) (after, status, following, told, same, ends)

-- what a search for groups of a handle that holds something reports
pub captures_report : (old left : Option Contents) (contents after : Contents) (text : List ℕ) (query : Query) (status : Status) (code : ℤ) (spans written : List Span) → old ≡ Some contents → left ≡ Some after → code ≡ code_of status
    → CapturesEnd contents.subject text query status spans written contents.fault after.fault → after.subject ≡ contents.subject → CapturesReport old left text query code spans written
captures_report old left contents after text query status code spans written before following told ends same =
    subst (λ (o : Option Contents). CapturesReport o left text query code spans written) (sym before) (after, status, following, told, same, ends)

-- what a build reports
pub build_reports : (options : RegexOptions) (pattern : List ℕ) (left : Option Contents) (contents : Contents) (status : Status) (code : ℤ) → IsStored contents status left code
    → IsBuilt options pattern contents.subject contents.fault status → BuildEnds options pattern left code
build_reports options pattern None contents status code told built = told
build_reports options pattern (Some left) contents status code told built =
    (status, told.1, subst (λ (h : Contents). IsBuilt options pattern h.subject h.fault status) (sym told.0) built)

-- a fault that is stored alone
pub fault_stored : (contents : Contents) (fault : CallError) (left : Option Contents) (code : ℤ) → IsStored contents (fault_status fault) left code → contents.subject ≡ subjects.Nothing → contents.fault ≡ Some fault
    → IsFaultStored fault left code
fault_stored contents fault None code told nothing recorded = told
fault_stored contents fault (Some left) code told nothing recorded = (ap (λ (h : Contents). h.subject) told.0 ∙ nothing, ap (λ (h : Contents). h.fault) told.0 ∙ recorded, told.1)

-- what a question about the starts reports
pub start_bytes_end : (options : RegexOptions) (pattern : List ℕ) (left : Option Contents) (code : ℤ) (old new : List Bool) (answer : Result Bool CallError)
    → AreStartsOrFault options pattern answer old new → IsAskedEnd answer left code → StartBytesEnd options pattern left code old new
start_bytes_end options pattern left code old new answer marked ended = (answer, marked, ended)

pub required_bytes_end : (options : RegexOptions) (pattern : List ℕ) (left : Option Contents) (code : ℤ) (old new : List Bool) (answer : Result Bool CallError)
    → AreRequiredOrFault options pattern answer old new → IsAskedEnd answer left code → RequiredBytesEnd options pattern left code old new
required_bytes_end options pattern left code old new answer marked ended = (answer, marked, ended)

-- the looks that are told of a handle that holds something
pub looks_reported : (old : Option Contents) (contents : Contents) (text : List ℕ) (query : Query) (first count : ℕ) (status : Status) (code : ℤ) → old ≡ Some contents → first ≡ 0 → code ≡ code_of status
    → CountsLooksBy contents.subject text query first count → (IsAnswer status → CountsStartsBy contents.subject text query first count) → LooksCounted old text query code count
looks_reported old contents text query first count status code before none told counts starts =
    subst (λ (o : Option Contents). LooksCounted o text query code count) (sym before)
    (status, told, subst (λ (n : ℕ). CountsLooksBy contents.subject text query n count) none counts, λ is. subst (λ (n : ℕ). CountsStartsBy contents.subject text query n count) none (starts is))

-- a fault is no answer
pub no_answer : (fault : CallError) → IsAnswer (fault_status fault) → ⊥
no_answer faults.NoRegex h = h
no_answer faults.NoSet h = h
no_answer faults.WrongEnds h = h
no_answer faults.NotUtf8 h = h
no_answer faults.PastEnd h = h
no_answer faults.OffBoundary h = h
no_answer (faults.Regex (ParseError _ _)) h = h
no_answer (faults.Regex (CompileError _)) h = h
no_answer (faults.Regex (RuntimeError _)) h = h
no_answer (faults.Regex Memory) h = h

-- the name that is told of a handle that holds something
pub name_reported : (old : Option Contents) (contents : Contents) (group : ℕ) (room written : List ℕ) (count : ℕ) → old ≡ Some contents → IsNameWritten contents.subject group room written count → NameReports old group room written count
name_reported old contents group room written count before told = subst (λ (o : Option Contents). NameReports o group room written count) (sym before) told

-- how a search ends, and how one for groups ends, by its answer
pub ruleset ends_of_find = (found_ends, missing_ends, fault_ends, no_answer)

pub ruleset ends_of_captures = (captured_ends, uncaptured_ends, captures_fault_ends)

pub ruleset ends_of_match = (matched_ends, unmatched_ends, match_fault_ends)
