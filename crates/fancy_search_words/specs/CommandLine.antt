-- The command line of the program, in the terms of `clap`'s specification.
use Rattle.std.specs.Prelude.{ℕ, Some, true, codes}
use Rattle.clap.specs.Lexer.{usize_max}
use Rattle.clap.specs.Walk.{Rule, Text}
use Rattle.clap.specs.Simple.{App, new_app, new_rule, on_top, with_rule, with_subcommand}
use Rattle.clap.specs.declared.builder.action.ArgAction.TheVariants.{SetTrue}
use Rattle.clap.specs.declared.builder.value_parser.ValueParser.TheVariants.{Unsigned}

-- the max_limit number that `--limit` accepts
abbrev pub max_limit : ℕ
max_limit = 18446744073709551615

-- the positional argument: the pattern
abbrev pub pattern_rule : Rule
pattern_rule = record (new_rule (codes "pattern")) { value_names = 1; required = true }

-- the positional argument of `set`: one pattern or more
abbrev pub patterns_rule : Rule
patterns_rule =
    record (new_rule (codes "patterns")) { value_names = 1; required = true; range = Some (record { start_inclusive = 1; end_inclusive = usize_max }) }

-- the positional argument after the pattern: the template
abbrev pub template_rule : Rule
template_rule = record (new_rule (codes "template")) { value_names = 1; required = true }

-- a flag with a short name of one letter
abbrev pub short_rule : Text → ℕ → Rule
short_rule id letter = record (new_rule id) { short = Some letter; action = Some SetTrue }

-- a flag with a long name
abbrev pub long_rule : Text → Text → Rule
long_rule id name = record (new_rule id) { long = Some name; action = Some SetTrue }

-- the option `--limit` with its number
abbrev pub limit_rule : Rule
limit_rule = record (new_rule (codes "limit")) { long = Some (codes "limit"); value_names = 1; parser = Some (Unsigned 0 max_limit) }

-- the command with the four flags that have a short name
abbrev pub with_short_options : App → App
with_short_options a =
    with_rule (with_rule (with_rule (with_rule a
    (short_rule (codes "case_insensitive") 105))
    (short_rule (codes "multi_line") 109))
    (short_rule (codes "dot_matches_new_line") 115))
    (short_rule (codes "ignore_whitespace") 120)

-- the command with the four flags that have a long name
abbrev pub with_long_flags : App → App
with_long_flags a =
    with_rule (with_rule (with_rule (with_rule a
    (long_rule (codes "ascii") (codes "ascii")))
    (long_rule (codes "oniguruma") (codes "oniguruma")))
    (long_rule (codes "not_empty") (codes "not-empty")))
    (long_rule (codes "longest") (codes "longest"))

-- the command with the options that have a long name
abbrev pub with_long_options : App → App
with_long_options a = with_rule (with_long_flags a) limit_rule

-- the command with all options
abbrev pub with_options : App → App
with_options a = with_long_options (with_short_options a)

-- a subcommand with a pattern and all options
abbrev pub pattern_subcommand : Text → App
pattern_subcommand name = with_options (with_rule (new_app name) pattern_rule)

-- the subcommand with a pattern, a template and all options
abbrev pub replace_subcommand : App
replace_subcommand = with_options (with_rule (with_rule (new_app (codes "replace")) pattern_rule) template_rule)

-- the subcommand with patterns and all options
abbrev pub set_subcommand : App
set_subcommand = with_options (with_rule (new_app (codes "set")) patterns_rule)

-- the command without its subcommands; one is required, and the words do not include the program's name
abbrev pub top : App
top = on_top (λ s. record s { no_binary_name = true; subcommand_required = true }) (new_app (codes "fancy_search"))

-- the command with one more subcommand, which has only a pattern
abbrev pub with_pattern_subcommand : App → Text → App
with_pattern_subcommand a name = with_subcommand a (pattern_subcommand name).top

-- the command with the subcommands that search with a pattern
abbrev pub with_searches : App → App
with_searches a = with_pattern_subcommand (with_pattern_subcommand (with_pattern_subcommand a (codes "find")) (codes "captures")) (codes "split")

-- the command with its subcommands
abbrev pub the_app : App
the_app = with_subcommand (with_pattern_subcommand (with_subcommand (with_searches top) replace_subcommand.top) (codes "print")) set_subcommand.top
