-- The default options.
use Rattle.std.specs.Prelude.{true, false, None}
use Rattle.fancy_regex_info.specs.declared.options.BytesMode.TheVariants.{Unicode}
use Rattle.fancy_regex_meta.specs.declared.options.RegexOptions.{RegexOptions}

-- Unicode mode, a backtrack limit of a million, no cap on the program's size, and every other option false
abbrev pub default_options : RegexOptions
default_options = record {
  case_insensitive = false;
  multi_line = false;
  ignore_whitespace = false;
  dot_matches_new_line = false;
  crlf = false;
  unicode_mode = true;
  backtrack_limit = 1000000;
  max_prog_size = None;
  find_not_empty = false;
  ignore_numbered_groups_when_named_groups_exist = false;
  seek = false;
  oniguruma_mode = false;
  bytes_mode = Unicode;
  leftmost_longest = false;
}
