-- What a text is parsed as under options, and the options and setting of its searches.
use Rattle.std.specs.Prelude.{ℕ, false, not, List, Result, Ok, Err, chars}
use Rattle.fancy_regex_tree.specs.Tree.{Tree, empty}
use Rattle.fancy_regex_tree.specs.Numbering.{PositionedFault}
use Rattle.fancy_regex_tree.specs.Parse.{Parsed, parse}
use Rattle.fancy_regex_tree.specs.Parse as reading
use Rattle.fancy_regex_meaning.specs.Groups.{Pattern, pattern_of}
use Rattle.fancy_regex_meaning.specs.Ways.{Setting}
use Rattle.fancy_regex_meaning.specs.Searches as meaning
use Rattle.fancy_regex_class.specs.Classes.{setting_of}
use Rattle.fancy_regex_input.specs.declared.config.SearchConfig.{SearchConfig}
use Rattle.fancy_regex_meta.specs.declared.options.RegexOptions.{RegexOptions}

-- the parser's options
abbrev pub reading_of : RegexOptions → reading.Options
reading_of o = record {
  flags = record {
    casei = o.case_insensitive;
    multi = o.multi_line;
    dot_newline = o.dot_matches_new_line;
    verbose = o.ignore_whitespace;
    swap_greed = false;
    crlf = o.crlf;
  };
  unicode = o.unicode_mode;
  oniguruma = o.oniguruma_mode;
  ignore_numbered = o.ignore_numbered_groups_when_named_groups_exist;
}

-- the result of parsing the text
abbrev pub read_as : RegexOptions → List ℕ → Result Parsed PositionedFault
read_as o text = parse (reading_of o) (chars text)

-- the tree of a parse; the empty tree where it failed
abbrev pub tree_or_empty : Result Parsed PositionedFault → Tree
tree_or_empty (Ok found) = found.tree
tree_or_empty (Err e) = empty

-- the tree of the text; the empty tree where the text is no pattern
abbrev pub tree_in : RegexOptions → List ℕ → Tree
tree_in o text = tree_or_empty (read_as o text)

-- the pattern of the text, with groups numbered from 1
abbrev pub pattern_in : RegexOptions → List ℕ → Pattern
pattern_in o text = pattern_of (tree_in o text)

-- the options of its searches
abbrev pub options_in : RegexOptions → meaning.Options
options_in o = record { find_not_empty = o.find_not_empty; longest = o.leftmost_longest }

-- the setting of a search, apart from where `\G` matches
abbrev pub setting_in : RegexOptions → List ℕ → SearchConfig → Setting
setting_in o text config = record (setting_of o.unicode_mode text) {
  no_start_text = not config.start_text;
  no_end_text = not config.end_text;
}
