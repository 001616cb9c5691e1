-- How a pattern is read in Unicode mode.
use Rattle.std.specs.Prelude.{true, false}
use Rattle.fancy_regex_lex.specs.FlagExamples.{no_flags}
use Rattle.fancy_regex_tree.specs.Parse.{Options}

abbrev pub unicode_only : Options
unicode_only = record { flags = no_flags; unicode = true; oniguruma = false; ignore_numbered = false }
