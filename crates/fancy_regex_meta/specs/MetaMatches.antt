-- The pattern of a compiled pattern, and the matches that its searches return.
use Rattle.std.specs.Prelude.{ℕ, Bool, List, Option, string_bytes}
use Rattle.fancy_regex_meaning.specs.Groups.{Pattern}
use Rattle.fancy_regex_meaning.specs.Searches.{Match, first_match, find_input}
use Rattle.fancy_regex_class.specs.RunInputs.{setting_for}
use Rattle.fancy_regex_class.specs.declared.input.RunInput.{RunInput}
use Rattle.fancy_regex_input.specs.SearchInputs.{input_of}
use Rattle.fancy_regex_input.specs.declared.config.SearchConfig.{SearchConfig}
use Rattle.fancy_regex_meta.specs.Patterns.{pattern_in, options_in, setting_in}
use Rattle.fancy_regex_meta.specs.PatternMatches.{match_from}
use Rattle.fancy_regex_meta.specs.Strategies.{search_of}
use Rattle.fancy_regex_meta.specs.declared.meta_regex.MetaRegex.{MetaRegex}

-- the parsed pattern
abbrev pub meta_pattern : MetaRegex → Pattern
meta_pattern s = pattern_in s.options (string_bytes s.pattern)

-- the first match of a search with this input
abbrev pub meta_match_for : MetaRegex → List ℕ → RunInput → Option Match
meta_match_for s text input = first_match (setting_for s.options.unicode_mode text input) (meta_pattern s) (search_of s.options input)

-- the first match from an offset on, where `\G` may be disabled
abbrev pub meta_match_from : MetaRegex → List ℕ → SearchConfig → ℕ → Bool → Option Match
meta_match_from s text config = match_from s.options (string_bytes s.pattern) text config

-- the first match of a search
abbrev pub meta_match : MetaRegex → List ℕ → SearchConfig → Option Match
meta_match s text config = find_input (setting_in s.options text config) (meta_pattern s) (options_in s.options) (input_of config)
