-- The members of a set of patterns that match in a whole text, as lines, and the errors of the searches for them.
use Rattle.std.specs.Prelude.{◌≡◌, ◌⊎◌, ◌<◌, ℕ, List, [], ◌++◌, Option, Some, None, codes, length, map, slice_get, string_bytes, true}
use Rattle.std.specs.Fmt.{decimal}
use Rattle.std.specs.List.{flat_map}
use Rattle.fancy_regex.specs.Choices.{choices}
use Rattle.fancy_regex.specs.Searches.{Match, Member, Search, SetAnswer, found_at, set_answer}
use Rattle.fancy_regex.specs.SearchInputs.{whole, input_of}
use Rattle.fancy_regex.specs.SearchLimits.{IsSearchError}
use Rattle.fancy_regex.specs.Patterns.{pattern_in, options_in, setting_in}
use Rattle.fancy_regex.specs.EasyPatterns.{pattern_uses_easy}
use Rattle.fancy_regex.specs.SetAnswers.{answer_of_set, AreInLimits, AreInLimitsBefore, IsErrorOfMember, IsSetError, IsTriedAt}
use Rattle.fancy_regex.specs.Error.{Error}
use Rattle.fancy_regex.specs.Error.TheVariants as errors
use Rattle.fancy_regex.specs.Regex.{Regex}
use Rattle.fancy_regex.specs.RegexOptions.{RegexOptions}
use Rattle.fancy_regex.specs.declared.set.RegexSet.{RegexSet}
use Rattle.fancy_search_text.specs.Lines.{span_text}

-- a pattern with its options
pub record Source : Type 0 where
  pub options : RegexOptions
  pub pattern : List ℕ

-- what the members of a set were compiled from
abbrev pub sources_of : RegexSet → List Source
sources_of set = map (λ r. record { options = r.meta.options; pattern = string_bytes r.meta.pattern }) set.regexes.items

-- a pattern as a member of the definitions' set, for a search of the whole text
abbrev pub member_in : List ℕ → Source → Member
member_in text s = record { pattern = pattern_in s.options s.pattern; options = options_in s.options; setting = setting_in s.options text (whole text) }

-- the search for a match of a member that starts at a position
abbrev pub search_from : List ℕ → Source → ℕ → Search
search_from text s p = record { first = p; stop = length text; anchored = true; options = options_in s.options }

-- the number of choices of that search; `\G` matches at the start of the text
abbrev pub choices_of_member : List ℕ → Source → ℕ → ℕ
choices_of_member text s p = choices (record (setting_in s.options text (whole text)) { continue_at = Some 0 }) (pattern_in s.options s.pattern) (search_from text s p)

-- the members of an answer, none where there is none
abbrev pub members_found : Option SetAnswer → List (ℕ × Match)
members_found None = []
members_found (Some answer) = answer.found

module _ (sources : List Source) (text : List ℕ) where
  -- the members that match at a position, each with its number
  abbrev pub found_at_position : ℕ → List (ℕ × Match)
  found_at_position p = found_at (map (member_in text) sources) (input_of (whole text)) p 0 (map (member_in text) sources)

  -- the earliest position at which some member matches, and the members that match there
  abbrev pub answer_in : Option SetAnswer
  answer_in = set_answer (map (member_in text) sources) (input_of (whole text)) text

  -- The members are asked at this position: it is tried, and no member matches at an earlier one, or the answer is at this one.
  abbrev pub IsAskedAt : ℕ → Type 0
  IsAskedAt p =
      IsTriedAt text (whole text) p
      × (((q : ℕ) → IsTriedAt text (whole text) q → q < p → found_at_position q ≡ [])
      ⊎ ((answer : SetAnswer) × (answer_in ≡ Some answer) × (answer.position ≡ p)))

  -- the error of a member's search from a position at which the members are asked: a limit only where its choices exceed it, and
  -- only where the pattern is not plain (`pattern_uses_easy`)
  pub record IsMemberSearchError (e : Error) : Type 0 where
    pub position : ℕ
    pub number : ℕ
    pub source : Source
    pub member : slice_get sources number ≡ Some source
    pub asked : IsAskedAt position
    pub fails : IsSearchError (pattern_uses_easy source.options source.pattern) source.options.backtrack_limit (choices_of_member text source position) e

  -- `Memory`, or the error of a member's search
  abbrev pub IsErrorOfSet : Error → Type 0
  IsErrorOfSet errors.Memory = Unit {0}
  IsErrorOfSet e = IsMemberSearchError e

-- The error is the first one met at the position of the answer: that of the member with this number. All searches before it stay within
-- their limits, or are not needed.
pub record IsErrorAtAnswer (regexes : List Regex) (text : List ℕ) (e : Error) : Type 0 where
  pub answer : SetAnswer
  pub is_answer : answer_of_set regexes text (whole text) ≡ Some answer
  pub number : ℕ
  pub is_error : IsErrorOfMember regexes text (whole text) answer.position number e
  pub before : AreInLimitsBefore regexes text (whole text) answer.position
  pub here : AreInLimits regexes text (whole text) answer.position 0 number

-- the first error met: on the way to the answer, or at its position
abbrev pub IsFirstError : List Regex → List ℕ → Error → Type 0
IsFirstError regexes text e = IsSetError regexes text (whole text) e ⊎ IsErrorAtAnswer regexes text e

-- the number of a member, in decimal digits, and its span
abbrev pub member_line : ℕ → ℕ × ℕ → List ℕ
member_line number span = decimal number ++ (codes " " ++ (span_text span ++ codes "\n"))

-- a line for each member that matches
abbrev pub member_lines : List (ℕ × Match) → List ℕ
member_lines found = flat_map (λ f. member_line f.0 (f.1.start, f.1.end)) found
