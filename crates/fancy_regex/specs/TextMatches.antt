-- The matches of a pattern in a whole text, and the errors of the searches for them.
use Rattle.std.specs.Prelude.{ℕ, Bool, false, List, length, string_bytes}
use Rattle.fancy_regex_meaning.specs.Choices.{choices}
use Rattle.fancy_regex_meaning.specs.Searches.{Match, all_items}
use Rattle.fancy_regex_input.specs.SearchInputs.{whole, input_of}
use Rattle.fancy_regex_search.specs.SearchLimits.{IsSearchError, setting_from, search_at}
use Rattle.fancy_regex_search.specs.Patterns.{pattern_in, options_in, setting_in}
use Rattle.fancy_regex_search.specs.PatternMatches.{match_from}
use Rattle.fancy_regex_search.specs.EasyPatterns.{pattern_uses_easy}
use Rattle.fancy_regex_search.specs.Error.{Error}
use Rattle.fancy_regex_search.specs.RegexOptions.{RegexOptions}
use Rattle.fancy_regex_search.specs.IterationSearches.{MakesSearch}
use Rattle.fancy_regex_search.specs.declared.regex.Regex.{Regex}

-- all matches of a pattern in the whole text, as an iteration returns them
unfoldable pub matches_in : RegexOptions → List ℕ → List ℕ → List Match
matches_in o pattern text = all_items (setting_in o text (whole text)) (pattern_in o pattern) (options_in o) (input_of (whole text))

-- all matches of a regex in the whole text
abbrev pub matches_of : Regex → List ℕ → List Match
matches_of regex text = matches_in regex.meta.options (string_bytes regex.meta.pattern) text

-- the number of choices of a search of the whole text from an offset on, where `\G` may be disabled
abbrev pub choices_from : RegexOptions → List ℕ → List ℕ → ℕ → Bool → ℕ
choices_from o pattern text q continue_disabled = choices (setting_from o text (whole text) q continue_disabled) (pattern_in o pattern) (search_at o (whole text) q)

-- the iteration over the whole text makes a search that starts at q, where `\G` may be disabled
abbrev pub Searches : RegexOptions → List ℕ → List ℕ → ℕ → Bool → Type 0
Searches o pattern text q continue_disabled = MakesSearch text (match_from o pattern text (whole text)) 0 (length text) 0 false q continue_disabled

-- An error of one of these searches: a limit only where its choices exceed it and the pattern is not plain (`pattern_uses_easy`); or
-- `Memory`.
abbrev pub IsErrorOfSearch : RegexOptions → List ℕ → List ℕ → Error → Type 0
IsErrorOfSearch o pattern text error =
    (q : ℕ) × (continue_disabled : Bool) × Searches o pattern text q continue_disabled
    × IsSearchError (pattern_uses_easy o pattern) o.backtrack_limit (choices_from o pattern text q continue_disabled) error
