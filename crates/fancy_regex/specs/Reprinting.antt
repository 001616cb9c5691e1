-- A pattern and its printed text have the same matches.
use Rattle.std.specs.Prelude.{◌≡◌, ℕ, ◌≤◌, true, List, length, Option, Ok}
use Rattle.fancy_regex_tree.specs.Parse.{Parsed}
use Rattle.fancy_regex_meaning.specs.Searches.{find_input, all_items, match_at}
use Rattle.fancy_regex_input.specs.SearchInputs.{input_of}
use Rattle.fancy_regex_input.specs.declared.config.SearchConfig.{SearchConfig}
use Rattle.fancy_regex_print_laws.specs.ReprintLaws.{plain_options}
use Rattle.fancy_regex_search.specs.Patterns.{reading_of, read_as, pattern_in, options_in, setting_in}
use Rattle.fancy_regex_search.specs.RegexOptions.{RegexOptions}

-- under these options the text is a pattern
abbrev pub IsPattern : RegexOptions → List ℕ → Type 0
IsPattern o text = (found : Parsed) × (read_as o text ≡ Ok found)

-- Options to compile a printed text with: the Unicode mode and the options of searches are those of the first pattern, and no
-- option changes how the text is parsed.
pub record ArePrintedOptions (o p : RegexOptions) : Type 0 where
  pub parsed_plainly : reading_of p ≡ plain_options o.unicode_mode p.ignore_numbered_groups_when_named_groups_exist
  pub unicode : p.unicode_mode ≡ o.unicode_mode
  pub searches : options_in p ≡ options_in o

-- Two texts, each under its options, are patterns with as many groups, and every search, every iteration and every search of a
-- pattern set of the one has the matches of the other, with the same group numbers.
pub record HaveSameMatches (o : RegexOptions) (pattern : List ℕ) (p : RegexOptions) (printed : List ℕ) : Type 0 where
  pub groups : length (pattern_in o pattern).groups ≡ length (pattern_in p printed).groups
  pub first : (text : List ℕ) (config : SearchConfig) →
      find_input (setting_in o text config) (pattern_in o pattern) (options_in o) (input_of config)
      ≡ find_input (setting_in p text config) (pattern_in p printed) (options_in p) (input_of config)
  pub items : (text : List ℕ) (config : SearchConfig) →
      all_items (setting_in o text config) (pattern_in o pattern) (options_in o) (input_of config)
      ≡ all_items (setting_in p text config) (pattern_in p printed) (options_in p) (input_of config)
  -- the match that starts at one offset of the range, where `\G` matches at another, as a pattern set asks for it
  pub member : (text : List ℕ) (config : SearchConfig) (continue_at : Option ℕ) (at : ℕ) → at ≤ config.range_end →
      match_at (record (setting_in o text config) { continue_at = continue_at }) (pattern_in o pattern)
      (record { first = at; stop = config.range_end; anchored = true; options = options_in o }) at
      ≡ match_at (record (setting_in p text config) { continue_at = continue_at }) (pattern_in p printed)
      (record { first = at; stop = config.range_end; anchored = true; options = options_in p }) at

-- the printed text, compiled with such options, has the matches of the pattern
abbrev pub KeepsMatches : RegexOptions → List ℕ → List ℕ → Type 0
KeepsMatches o pattern printed = (p : RegexOptions) → ArePrintedOptions o p → HaveSameMatches o pattern p printed
