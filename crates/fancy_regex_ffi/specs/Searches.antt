-- What the searches over bytes answer.
use Rattle.std.specs.Prelude.{◌≡◌, ⊤, ℕ, ◌+◌, ◌-◌, ◌^◌, ◌<◌, ◌≤◌, min, Bool, true, false, List, length, Option, Some, None, Result, Ok, Err, is_some, option_map, IsUtf8, IsCharBoundary, EachIndex, HoldsAt}
use Rattle.std.specs.Borrow.{Bor}
use Rattle.fancy_regex_meta.specs.declared.meta_regex.MetaRegex.{MetaRegex}
use Rattle.fancy_regex_input.specs.declared.config.SearchConfig.{SearchConfig}
use Rattle.fancy_regex_meaning.specs.Searches.{Match}
use Rattle.fancy_regex_class.specs.RunInputs.{match_slots}
use Rattle.fancy_regex_meta.specs.MetaMatches.{meta_match, meta_pattern}
use Rattle.fancy_regex_meta.specs.SearchLimits.{IsMetaSearchError, MetaStaysInLimits, meta_starts_tried, meta_uses_easy, max_looks}
use Rattle.fancy_regex_input.specs.SearchInputs.{whole}
use Rattle.fancy_regex_search.specs.CaptureSpans.{span_in}
use Rattle.fancy_regex_ffi_lists.specs.Groups.{IsGroupSpan}
use Rattle.fancy_regex_ffi.specs.declared.fault.CallError.{CallError}
use Rattle.fancy_regex_ffi.specs.declared.fault.CallError.TheVariants as faults
use Rattle.fancy_regex_ffi.specs.declared.query.Query.{Query}
use Rattle.fancy_regex_ffi_lists.specs.declared.spans.Span.{Span}
use Rattle.fancy_regex_ffi.specs.declared.contents.Subject.{Subject}
use Rattle.fancy_regex_ffi.specs.declared.contents.Subject.TheVariants as subjects

-- the text itself if it is UTF-8, else the fault that says so
abbrev pub IsTextOrFault : List ℕ → Result (Bor (List ℕ)) CallError → Type 0
IsTextOrFault bytes (Ok text) = (text.now ≡ bytes) × IsUtf8 bytes
IsTextOrFault bytes (Err fault) = (fault ≡ faults.NotUtf8) × (IsUtf8 bytes → ⊥)

-- A search can begin there: the text is UTF-8, and the place is one of its boundaries, and so not past its end.
pub record CanBegin (text : List ℕ) (position : ℕ) : Type 0 where
  pub utf8 : IsUtf8 text
  pub boundary : IsCharBoundary text position

-- why a search of a text that is UTF-8 cannot begin there
abbrev pub IsPlaceFault : List ℕ → ℕ → CallError → Type 0
IsPlaceFault text position faults.PastEnd = IsUtf8 text × (length text < position)
IsPlaceFault text position faults.OffBoundary = IsUtf8 text × (position ≤ length text) × (IsCharBoundary text position → ⊥)
IsPlaceFault text position _ = ⊥

-- nothing if a search can begin there, else the fault that says why not
abbrev pub IsPlaceOrFault : List ℕ → ℕ → Result (Unit {0}) CallError → Type 0
IsPlaceOrFault text position (Ok _) = CanBegin text position
IsPlaceOrFault text position (Err fault) = IsPlaceFault text position fault

-- the configuration of a search
abbrev pub config_of : List ℕ → Query → SearchConfig
config_of text query = record (whole text) { start = query.position; continues = query.continues }

-- the span of the match that the definitions give
abbrev pub found_by : MetaRegex → List ℕ → Query → Option (ℕ × ℕ)
found_by meta text query = option_map span_in (meta_match meta text (config_of text query))

-- why a search does not answer
abbrev pub IsSearchFault : MetaRegex → List ℕ → Query → CallError → Type 0
IsSearchFault meta text query (faults.Regex e) = CanBegin text query.position × IsMetaSearchError meta text (config_of text query) false e
IsSearchFault meta text query faults.NotUtf8 = IsUtf8 text → ⊥
IsSearchFault meta text query fault = IsPlaceFault text query.position fault

-- A search of a text answers: it can begin, and it stays within the limits on the kept program.
abbrev pub Answers : MetaRegex → List ℕ → Query → Type 0
Answers meta text query = CanBegin text query.position × MetaStaysInLimits meta text (config_of text query) false

-- the match that the definitions give, or why there is no answer
abbrev pub IsFoundIn : MetaRegex → List ℕ → Query → Result (Option (ℕ × ℕ)) CallError → Type 0
IsFoundIn meta text query (Ok found) = Answers meta text query × (found ≡ found_by meta text query)
IsFoundIn meta text query (Err fault) = IsSearchFault meta text query fault

-- the match that the definitions give for what was built, or why there is no answer
abbrev pub IsFoundBy : Subject → List ℕ → Query → Result (Option (ℕ × ℕ)) CallError → Type 0
IsFoundBy (subjects.Regex regex) text query found = IsFoundIn regex.meta text query found
IsFoundBy (subjects.Set set) text query (Ok _) = ⊥
IsFoundBy (subjects.Set set) text query (Err fault) = fault ≡ faults.NoRegex
IsFoundBy subjects.Nothing text query (Ok _) = ⊥
IsFoundBy subjects.Nothing text query (Err fault) = fault ≡ faults.NoRegex

-- whether the definitions give a match, or why there is no answer
abbrev pub IsMatchFlagIn : MetaRegex → List ℕ → Query → Result Bool CallError → Type 0
IsMatchFlagIn meta text query (Ok answer) = Answers meta text query × (answer ≡ is_some (meta_match meta text (config_of text query)))
IsMatchFlagIn meta text query (Err fault) = IsSearchFault meta text query fault

-- whether they give one for what was built, or why there is no answer
abbrev pub IsMatchFlagBy : Subject → List ℕ → Query → Result Bool CallError → Type 0
IsMatchFlagBy (subjects.Regex regex) text query told = IsMatchFlagIn regex.meta text query told
IsMatchFlagBy (subjects.Set set) text query (Ok _) = ⊥
IsMatchFlagBy (subjects.Set set) text query (Err fault) = fault ≡ faults.NoRegex
IsMatchFlagBy subjects.Nothing text query (Ok _) = ⊥
IsMatchFlagBy subjects.Nothing text query (Err fault) = fault ≡ faults.NoRegex

-- How a search raises the counter of looks: at most as often as the linear-time matcher may look, and not at all where the pattern is
-- not plain.
abbrev pub CountsLooks : MetaRegex → List ℕ → Query → ℕ → ℕ → Type 0
CountsLooks meta text query old new = (meta_uses_easy meta ≡ true → new ≤ old + max_looks meta (config_of text query)) × (meta_uses_easy meta ≡ false → new ≡ old) × (old ≤ new)

-- the same for what was built
abbrev pub CountsLooksBy : Subject → List ℕ → Query → ℕ → ℕ → Type 0
CountsLooksBy (subjects.Regex regex) text query old new = CountsLooks regex.meta text query old new
CountsLooksBy (subjects.Set set) text query old new = new ≡ old
CountsLooksBy subjects.Nothing text query old new = new ≡ old

-- How often a search that answers raises the counter at least, where the pattern is plain: once for each start that it tries,
-- as far as the counter reaches.
abbrev pub CountsStarts : MetaRegex → List ℕ → Query → ℕ → ℕ → Type 0
CountsStarts meta text query old new = meta_uses_easy meta ≡ true → min (old + meta_starts_tried meta text (config_of text query) false) (2 ^ 64 - 1) ≤ new

-- the same for what was built
abbrev pub CountsStartsBy : Subject → List ℕ → Query → ℕ → ℕ → Type 0
CountsStartsBy (subjects.Regex regex) text query old new = CountsStarts regex.meta text query old new
CountsStartsBy (subjects.Set set) text query old new = ⊤
CountsStartsBy subjects.Nothing text query old new = ⊤

-- the spans of the groups, from group 0, as many as there are spans
abbrev pub AreGroupSpans : List ℕ → List ℕ → List Span → Type 0
AreGroupSpans text slots spans = EachIndex spans (λ k. HoldsAt (IsGroupSpan text slots k) spans k)

-- the spans of the groups of the match that the definitions give
abbrev pub AreGroupsFound : MetaRegex → List ℕ → Query → List Span → Type 0
AreGroupsFound meta text query spans = (found : Match) × (meta_match meta text (config_of text query) ≡ Some found)
    × AreGroupSpans text (match_slots (meta_pattern meta) found) spans

-- whether the definitions give a match, with the spans of its groups; or why there is no answer, and the spans are as they were
abbrev pub IsCapturedIn : MetaRegex → List ℕ → Query → Result Bool CallError → List Span → List Span → Type 0
IsCapturedIn meta text query (Ok true) old new = Answers meta text query × AreGroupsFound meta text query new
IsCapturedIn meta text query (Ok false) old new = Answers meta text query × (found_by meta text query ≡ None) × (new ≡ old)
IsCapturedIn meta text query (Err fault) old new = IsSearchFault meta text query fault × (new ≡ old)

-- the same for what was built
abbrev pub IsCapturedBy : Subject → List ℕ → Query → Result Bool CallError → List Span → List Span → Type 0
IsCapturedBy (subjects.Regex regex) text query captured old new = IsCapturedIn regex.meta text query captured old new
IsCapturedBy (subjects.Set set) text query (Ok _) old new = ⊥
IsCapturedBy (subjects.Set set) text query (Err fault) old new = (fault ≡ faults.NoRegex) × (new ≡ old)
IsCapturedBy subjects.Nothing text query (Ok _) old new = ⊥
IsCapturedBy subjects.Nothing text query (Err fault) old new = (fault ≡ faults.NoRegex) × (new ≡ old)
