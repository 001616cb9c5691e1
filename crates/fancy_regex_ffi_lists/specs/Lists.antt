-- The spans of the matches of a text, and of the pieces between them, and the members of a set that match.
use Rattle.std.specs.Prelude.{◌≡◌, ◌⊎◌, ℕ, Bool, List, [], ◌∷◌, map, Option, Some, None}
use Rattle.fancy_regex.specs.Searches.{Match, SetAnswer}
use Rattle.fancy_regex.specs.SearchConfig.{SearchConfig}
use Rattle.fancy_regex.specs.SearchInputs.{whole}
use Rattle.fancy_regex.specs.Error.{Error}
use Rattle.fancy_regex.specs.Error.TheVariants.{Memory}
use Rattle.fancy_regex.specs.SetAnswers.{answer_of_set, AreInLimits, AreInLimitsBefore, IsErrorOfMember, IsSetError}
use Rattle.fancy_regex.specs.Regex.{Regex}
use Rattle.fancy_regex_ffi_lists.specs.Spans.{span_of}
use Rattle.fancy_regex_ffi_lists.specs.declared.member.Member.{Member}
use Rattle.fancy_regex_ffi_lists.specs.declared.spans.Span.{Span}

-- the span of each match
abbrev pub match_spans : List Match → List Span
match_spans ms = map (λ m. span_of (Some (m.start, m.end))) ms

-- the spans between the matches, from an offset on, and that of the rest, which ends at the other offset
abbrev pub gap_spans : ℕ → ℕ → List Match → List Span
gap_spans from end [] = record { start = from; end = end } ∷ []
gap_spans from end (m ∷ ms) = record { start = from; end = m.start } ∷ gap_spans m.end end ms

-- the configuration of a search of the whole text from a position on, at which `\G` matches if the flag is set
abbrev pub config_at : List ℕ → ℕ → Bool → SearchConfig
config_at text position continues = record (whole text) { start = position; continues = continues }

-- the members of an answer, none where there is none
abbrev pub members_found : Option SetAnswer → List (ℕ × Match)
members_found None = []
members_found (Some answer) = answer.found

-- a member of a set that matches: its number, and the span of its match
abbrev pub member_found : ℕ × Match → Member
member_found found = record { pattern = found.0; start = found.1.start; end = found.1.end }

-- the members of a set that match at the earliest position at which one of them does, as the definitions give them
abbrev pub matching_members : List Regex → List ℕ → SearchConfig → List Member
matching_members regexes text config = map member_found (members_found (answer_of_set regexes text config))

-- The error is the first one met at the position of the answer: that of the member with this number. All searches before it stay within
-- their limits, or are not needed.
pub record IsErrorAtAnswer (regexes : List Regex) (text : List ℕ) (config : SearchConfig) (e : Error) : Type 0 where
  pub answer : SetAnswer
  pub is_answer : answer_of_set regexes text config ≡ Some answer
  pub number : ℕ
  pub is_error : IsErrorOfMember regexes text config answer.position number e
  pub before : AreInLimitsBefore regexes text config answer.position
  pub here : AreInLimits regexes text config answer.position 0 number

-- want of memory, or the first error met: on the way to the answer, or after its first member
abbrev pub IsMemberError : List Regex → List ℕ → SearchConfig → Error → Type 0
IsMemberError regexes text config Memory = Unit {0}
IsMemberError regexes text config e = IsSetError regexes text config e ⊎ IsErrorAtAnswer regexes text config e
