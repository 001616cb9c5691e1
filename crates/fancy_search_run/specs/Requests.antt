-- The regex options of a request, and whether it reads the input.
use Rattle.std.specs.Prelude.{Bool, true, false, not, unwrap_or}
use Rattle.fancy_regex.specs.Defaults.{default_options}
use Rattle.fancy_regex.specs.RegexOptions.{RegexOptions}
use Rattle.fancy_search_words.specs.Requests.{Command, Request}
use Rattle.fancy_search_words.specs.Requests as commands
use Rattle.fancy_search_words.specs.declared.arguments.Options.{Options}

-- the regex options for the words' options; the others are the defaults
abbrev pub regex_options : Options → RegexOptions
regex_options o = record default_options {
  case_insensitive = o.case_insensitive;
  multi_line = o.multi_line;
  dot_matches_new_line = o.dot_matches_new_line;
  ignore_whitespace = o.ignore_whitespace;
  unicode_mode = not o.ascii;
  oniguruma_mode = o.oniguruma;
  find_not_empty = o.not_empty;
  leftmost_longest = o.longest;
  backtrack_limit = unwrap_or o.limit default_options.backtrack_limit;
}

-- the command reads the input; `print` alone does not
abbrev pub reads_input : Command → Bool
reads_input (commands.print p) = false
reads_input _ = true
