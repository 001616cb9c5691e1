-- The options that hold where none is set.
use Rattle.std.specs.Prelude.{true, false, None}
use Rattle.fancy_regex_info.specs.declared.options.BytesMode.TheVariants.{Unicode}
use Rattle.fancy_regex_info.specs.declared.options.CompileOptions.{CompileOptions}

-- not anchored, no calls, Unicode, no cap, the first way
abbrev pub default_compile_options : CompileOptions
default_compile_options = record {
  anchored = false;
  contains_subroutines = false;
  bytes_mode = Unicode;
  unicode = true;
  max_prog_size = None;
  leftmost_longest = false;
}
