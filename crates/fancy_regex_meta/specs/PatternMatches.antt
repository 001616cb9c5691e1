-- The groups and the matches of a text's pattern.
use Rattle.std.specs.Prelude.{◌≡◌, ℕ, Bool, List, [], length, Option, Result, Ok, Err}
use Rattle.fancy_regex_tree.specs.Numbering.{Names, PositionedFault}
use Rattle.fancy_regex_tree.specs.Parse.{Parsed}
use Rattle.fancy_regex_meaning.specs.Searches.{Match, search_from}
use Rattle.fancy_regex_input.specs.SearchInputs.{input_of}
use Rattle.fancy_regex_input.specs.declared.config.SearchConfig.{SearchConfig}
use Rattle.fancy_regex_meta.specs.Patterns.{read_as, tree_in, pattern_in, options_in, setting_in}
use Rattle.fancy_regex_meta.specs.Strategies.{Executes}
use Rattle.fancy_regex_meta.specs.declared.options.RegexOptions.{RegexOptions}
use Rattle.fancy_regex_meta.specs.declared.strategy.Strategy.{Strategy}

-- the group names of a parse; none where it failed
abbrev pub names_or_none : Result Parsed PositionedFault → Names
names_or_none (Ok found) = found.names
names_or_none (Err e) = []

-- the names of the groups of the text's pattern, from group 1
abbrev pub names_in : RegexOptions → List ℕ → Names
names_in o text = names_or_none (read_as o text)

-- The text is a pattern with this number of groups, and the strategy executes its tree.
pub record IsCompiledFrom (text : List ℕ) (o : RegexOptions) (groups : ℕ) (strategy : Strategy) : Type 0 where
  pub found : Parsed
  pub read : read_as o text ≡ Ok found
  pub groups_are : groups ≡ length (pattern_in o text).groups
  pub runs : Executes strategy o (tree_in o text)

-- the first match of the text's pattern from an offset on
abbrev pub match_from : RegexOptions → List ℕ → List ℕ → SearchConfig → ℕ → Bool → Option Match
match_from o pattern text config = search_from (setting_in o text config) (pattern_in o pattern) (options_in o) (input_of config)
