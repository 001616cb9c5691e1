-- The options of a build, as the library has them.
use Rattle.std.specs.Prelude.{ℕ, Bool, true, false, Option, Some, None}
use Rattle.fancy_regex.specs.RegexOptions.{RegexOptions}
use Rattle.fancy_regex.specs.Defaults.{default_options}
use Rattle.fancy_regex_ffi_lists.specs.declared.options.Options.{Options}

-- the cap, if there is one
abbrev pub cap_if : Bool → ℕ → Option ℕ
cap_if true cap = Some cap
cap_if false cap = None

-- the options that C chose; bytes are read as Unicode
abbrev pub chosen : Options → RegexOptions
chosen o = record default_options {
  case_insensitive = o.case_insensitive;
  multi_line = o.multi_line;
  ignore_whitespace = o.ignore_whitespace;
  dot_matches_new_line = o.dot_matches_new_line;
  crlf = o.crlf;
  unicode_mode = o.unicode_mode;
  backtrack_limit = o.backtrack_limit;
  max_prog_size = cap_if o.has_max_prog_size o.max_prog_size;
  find_not_empty = o.find_not_empty;
  ignore_numbered_groups_when_named_groups_exist = o.ignore_numbered_groups;
  seek = o.seek;
  oniguruma_mode = o.oniguruma_mode;
  leftmost_longest = o.leftmost_longest;
}
