-- Within which limits the search of a set for all members at the position of its answer answers.
use Rattle.std.specs.Prelude.{ℕ, ◌+◌, List, length, MatchOption}
use Rattle.fancy_regex_input.specs.declared.config.SearchConfig.{SearchConfig}
use Rattle.fancy_regex_search.specs.declared.regex.Regex.{Regex}
use Rattle.fancy_regex.specs.SetAnswers.{answer_of_set, last_tried, AreInLimits, AreInLimitsBefore}

-- The search of a set for all members at the position of its answer stays within the limits: the search of each member at each tried
-- position up to there stays within its limits, or is not needed.
abbrev pub SetStays : List Regex → List ℕ → SearchConfig → Type 0
SetStays regexes text config =
    MatchOption (answer_of_set regexes text config) (AreInLimitsBefore regexes text config (last_tried config + 1))
    (λ answer. AreInLimitsBefore regexes text config answer.position × AreInLimits regexes text config answer.position 0 (length regexes))
