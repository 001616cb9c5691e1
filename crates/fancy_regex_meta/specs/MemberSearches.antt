-- A search for the match that starts at one offset, where `\G` matches at another one, as the search of a pattern set asks it.
use Rattle.std.specs.Prelude.{ℕ, true, not, List, Option}
use Rattle.fancy_regex_meaning.specs.Ways.{Setting}
use Rattle.fancy_regex_meaning.specs.Searches.{Match, Search, match_at}
use Rattle.fancy_regex_meaning.specs.Groups.{pattern_of}
use Rattle.fancy_regex_meaning.specs.Choices.{choices}
use Rattle.fancy_regex_class.specs.declared.input.RunInput.{RunInput}
use Rattle.fancy_regex_input.specs.declared.config.SearchConfig.{SearchConfig}
use Rattle.fancy_regex_meta.specs.Patterns.{options_in, setting_in}
use Rattle.fancy_regex_meta.specs.MetaMatches.{meta_pattern}
use Rattle.fancy_regex_meta.specs.SearchLimits.{IsSearchError, IsStrategyError, StrategyStaysInLimits, meta_tree, meta_uses_easy}
use Rattle.fancy_regex_meta.specs.declared.error.Error.{Error}
use Rattle.fancy_regex_meta.specs.declared.meta_regex.MetaRegex.{MetaRegex}

-- the setting, with the offset at which `\G` matches
abbrev pub member_setting : MetaRegex → List ℕ → SearchConfig → Option ℕ → Setting
member_setting s text config continue_at = record (setting_in s.options text config) { continue_at = continue_at }

-- the search that tries one start alone
abbrev pub member_search : MetaRegex → SearchConfig → ℕ → Search
member_search s config p = record { first = p; stop = config.range_end; anchored = true; options = options_in s.options }

-- the match of a compiled pattern that starts at an offset
abbrev pub meta_match_at : MetaRegex → List ℕ → SearchConfig → Option ℕ → ℕ → Option Match
meta_match_at s text config continue_at p = match_at (member_setting s text config continue_at) (meta_pattern s) (member_search s config p) p

-- the input of the strategy for it
abbrev pub member_input : SearchConfig → Option ℕ → ℕ → RunInput
member_input config continue_at p = record {
  first = p;
  continue_at = continue_at;
  range = record { start = config.range_start; end = config.range_end };
  anchored = true;
  no_start_text = not config.start_text;
  no_end_text = not config.end_text;
}

-- An error of that search: a limit only where its choices exceed it, and only where it is the first that the kept
-- program passes.
abbrev pub IsMemberError : MetaRegex → List ℕ → SearchConfig → Option ℕ → ℕ → Error → Type 0
IsMemberError s text config continue_at p e =
    IsSearchError (meta_uses_easy s) s.options.backtrack_limit
    (choices (member_setting s text config continue_at) (pattern_of (meta_tree s)) (member_search s config p)) e
    × IsStrategyError s.strategy s.options text (member_input config continue_at p) e

-- where that search answers, its run stays within the limits
abbrev pub MemberStaysInLimits : MetaRegex → List ℕ → SearchConfig → Option ℕ → ℕ → Type 0
MemberStaysInLimits s text config continue_at p = StrategyStaysInLimits s.strategy s.options text (member_input config continue_at p)
