-- What a command writes for a text, and the status or the fault that it ends with.
use Rattle.std.specs.Prelude.{◌≡◌, ◌⊎◌, ℕ, List, [], ◌∷◌, map, Some, None, Result, Ok, Err}
use Rattle.std.specs.Cow.{cow_str_bytes}
use Rattle.fancy_regex.specs.Searches.{Match, pieces}
use Rattle.fancy_regex.specs.Reading.{IsReadingError}
use Rattle.fancy_regex.specs.Refusals as building
use Rattle.fancy_regex.specs.IterationErrors.{IsErrorOfIteration}
use Rattle.fancy_regex.specs.IterationLimits.{IterationStays}
use Rattle.fancy_regex.specs.SearchInputs.{whole}
use Rattle.fancy_regex.specs.SetLimits.{SetStays}
use Rattle.fancy_regex.specs.SetMembers.{AreBuiltOf, IsBuiltOf, RefusesPatterns}
use Rattle.fancy_regex.specs.WayLaws.{Each}
use Rattle.fancy_regex.specs.Error.{Error}
use Rattle.fancy_regex.specs.Error.TheVariants as errors
use Rattle.fancy_regex.specs.Regex.{Regex}
use Rattle.fancy_regex.specs.RegexOptions.{RegexOptions}
use Rattle.fancy_search_text.specs.Lines.{span_lines, group_lines, piece_lines}
use Rattle.fancy_regex.specs.TextMatches.{matches_in, IsErrorOfSearch}
use Rattle.fancy_search_text.specs.Members.{Source, answer_in, member_lines, members_found, IsErrorOfSet, IsFirstError}
use Rattle.fancy_search_text.specs.Printed.{IsPrinted}
use Rattle.fancy_regex.specs.ReplacedTexts.{replaced_in}
use Rattle.fancy_search_words.specs.Requests.{Command}
use Rattle.fancy_search_words.specs.Requests as commands
use Rattle.fancy_search_run.specs.declared.answer.Answer.{Answer}
use Rattle.fancy_search_run.specs.declared.fault.Fault.{Fault}
use Rattle.fancy_search_run.specs.declared.fault.Fault.TheVariants as faults
use Rattle.fancy_search_run.specs.declared.status.Status.{Status}
use Rattle.fancy_search_run.specs.declared.status.Status.TheVariants.{Done, Nothing}

-- the status of a call that writes these lines
abbrev pub status_of_lines : List ℕ → Status
status_of_lines [] = Nothing
status_of_lines (x ∷ xs) = Done

-- the status of a call that found these matches, or members with their matches
abbrev pub status_of : {X : Type 0} → List X → Status
status_of [] = Nothing
status_of (m ∷ ms) = Done

-- the pattern parses under these options and is not refused
abbrev pub IsAccepted : RegexOptions → List ℕ → Type 0
IsAccepted o pattern = building.Accepts o pattern

-- the patterns with these options
abbrev pub sources_with : RegexOptions → List (List ℕ) → List Source
sources_with o patterns = map (λ p. record { options = o; pattern = p }) patterns

-- the members of the set of the patterns that match at the earliest position at which one of them does, each with its match
abbrev pub members_in : RegexOptions → List (List ℕ) → List ℕ → List (ℕ × Match)
members_in o patterns text = members_found (answer_in (sources_with o patterns) text)

-- A regex of the pattern with these options searches the text for all its matches within its limits: no search goes back more often
-- than the options allow, and none has more than 1,000,000 branches open at once.
abbrev pub StaysInLimits : RegexOptions → List ℕ → List ℕ → Type 0
StaysInLimits o pattern text = (regex : Regex) × IsBuiltOf o pattern regex × IterationStays regex.meta text

-- So does a set of the patterns with these options, for its members at the position of its answer.
abbrev pub SetStaysInLimits : RegexOptions → List (List ℕ) → List ℕ → Type 0
SetStaysInLimits o patterns text = (regexes : List Regex) × AreBuiltOf o patterns regexes × SetStays regexes text (whole text)

-- These are the bytes that a command writes for a text, and the status of its call. Each search that it makes stays within its limits.
abbrev pub IsDue : RegexOptions → Command → List ℕ → List ℕ → Status → Type 0
IsDue o (commands.find p) text out status =
    IsAccepted o p × (out ≡ span_lines (matches_in o p text)) × (status ≡ status_of (matches_in o p text)) × StaysInLimits o p text
IsDue o (commands.captures p) text out status =
    IsAccepted o p × (out ≡ group_lines (matches_in o p text)) × (status ≡ status_of (matches_in o p text)) × StaysInLimits o p text
IsDue o (commands.split p) text out status =
    IsAccepted o p × (out ≡ piece_lines (pieces text (matches_in o p text))) × (status ≡ Done) × StaysInLimits o p text
IsDue o (commands.replace p template) text out status =
    IsAccepted o p × (out ≡ replaced_in o p template text) × (status ≡ Done) × StaysInLimits o p text
IsDue o (commands.print p) text out status = IsPrinted o p (Some out) × (status ≡ Done)
IsDue o (commands.set ps) text out status =
    Each (IsAccepted o) ps × (out ≡ member_lines (members_in o ps text)) × (status ≡ status_of (members_in o ps text)) × SetStaysInLimits o ps text

-- the error is not the library's `Memory`, which the program tells as its own
abbrev pub IsNotMemory : Error → Type 0
IsNotMemory errors.Memory = ⊥
IsNotMemory _ = Unit {0}

-- A regex of the pattern with these options meets this error where it searches the text for all its matches: it is that of the search
-- right after some of them, which passes the limit, and each search before it stays within the limits.
abbrev pub MeetsError : RegexOptions → List ℕ → List ℕ → Error → Type 0
MeetsError o pattern text error = (regex : Regex) × IsBuiltOf o pattern regex × IsErrorOfIteration regex.meta text error

-- A set of the patterns with these options meets this error first, on the way to its answer or at the position of it.
abbrev pub SetMeetsError : RegexOptions → List (List ℕ) → List ℕ → Error → Type 0
SetMeetsError o patterns text error = (regexes : List Regex) × AreBuiltOf o patterns regexes × IsFirstError regexes text error

-- A fault of a command that searches: why its pattern does not parse or is refused; or, if it is accepted, the error of the first
-- search that passes a limit, which has more choices than that; or `Memory`.
abbrev pub IsSearchFault : RegexOptions → List ℕ → List ℕ → Fault → Type 0
IsSearchFault o pattern text (faults.Regex error) =
    IsNotMemory error × (building.Refuses o pattern error
    ⊎ (IsAccepted o pattern × IsErrorOfSearch o pattern text error × MeetsError o pattern text error))
IsSearchFault o pattern text faults.Memory = Unit {0}
IsSearchFault o pattern text _ = ⊥

-- A fault of a set: why the first pattern that does not parse or is refused is none; or, if all are accepted, the error of the first
-- search of one of them that passes a limit, which has more choices than that; or `Memory`.
abbrev pub IsSetFault : RegexOptions → List (List ℕ) → List ℕ → Fault → Type 0
IsSetFault o patterns text (faults.Regex error) =
    IsNotMemory error × (RefusesPatterns o patterns error
    ⊎ (Each (IsAccepted o) patterns × IsErrorOfSet (sources_with o patterns) text error × SetMeetsError o patterns text error))
IsSetFault o patterns text faults.Memory = Unit {0}
IsSetFault o patterns text _ = ⊥

-- A fault of printing: why the pattern does not parse; or that it does not reprint; or `Memory`.
abbrev pub IsPrintFault : RegexOptions → List ℕ → Fault → Type 0
IsPrintFault o pattern (faults.Regex error) = IsNotMemory error × IsReadingError o pattern error
IsPrintFault o pattern faults.NotReprinted = IsPrinted o pattern None
IsPrintFault o pattern faults.Memory = Unit {0}
IsPrintFault o pattern _ = ⊥

-- the fault is one of a command for a text
abbrev pub IsFault : RegexOptions → Command → List ℕ → Fault → Type 0
IsFault o (commands.find p) text fault = IsSearchFault o p text fault
IsFault o (commands.captures p) text fault = IsSearchFault o p text fault
IsFault o (commands.split p) text fault = IsSearchFault o p text fault
IsFault o (commands.replace p template) text fault = IsSearchFault o p text fault
IsFault o (commands.print p) text fault = IsPrintFault o p fault
IsFault o (commands.set ps) text fault = IsSetFault o ps text fault

-- the answer of a command for a text, or its fault
abbrev pub IsAnswer : RegexOptions → Command → List ℕ → Result Answer Fault → Type 0
IsAnswer o command text (Ok answer) = IsDue o command text (cow_str_bytes answer.output) answer.status
IsAnswer o command text (Err fault) = IsFault o command text fault
