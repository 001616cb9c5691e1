-- How the pattern of an escaped text is read, and what it matches.
use Rattle.std.specs.Prelude.{◌≡◌, ◌≢◌, ℕ, Bool, true, false, [], Ok, encode_utf8_all}
use Rattle.std.specs.Str.{all_scalars}
use Rattle.fancy_regex_text.specs.Text.{Text}
use Rattle.fancy_regex_lex.specs.declared.token.Flags.{Flags}
use Rattle.fancy_regex_tree.specs.Parse.{Options, Parsed, parse}
use Rattle.fancy_regex_tree.specs.TreeBuilders.{branch_of}
use Rattle.fancy_regex_grammar.specs.Patterns.{IsPattern}
use Rattle.fancy_regex_meaning.specs.Groups.{pattern_of}
use Rattle.fancy_regex_print_laws.specs.ReprintLaws.{plain_mode, plain_options}
use Rattle.fancy_regex_template.specs.PatternEscape.{escaped_pattern}
use Rattle.fancy_regex_escape_laws.specs.Literals.{literals}
use Rattle.fancy_regex_escape_laws.specs.PlainSearch.{IsPlainSearch}

-- no flag but `i`
abbrev pub case_flag : Bool → Flags
case_flag casei = record { casei = casei; multi = false; dot_newline = false; verbose = false; swap_greed = false; crlf = false }

abbrev pub EscapedTextsAreRead : Type 0
EscapedTextsAreRead = (size : ℕ) (unicode casei : Bool) (t : Text) →
    IsPattern (plain_mode size unicode) (case_flag casei) (escaped_pattern t) (branch_of (literals casei t))

-- The escaped text is a pattern that matches the text and nothing else.
pub record IsReadAsPlain (options : Options) (t : Text) : Type 0 where
  pub found : Parsed
  pub answer : parse options (escaped_pattern t) ≡ Ok found
  pub search : IsPlainSearch (pattern_of found.tree) (encode_utf8_all t)

-- With no flag set, the escape of a text that is not empty matches the text and nothing else. The empty text is left out: its
-- pattern matches between any two characters, and where the empty text occurs is a matter of choice.
abbrev pub EscapedTextsMatchThemselves : Type 0
EscapedTextsMatchThemselves = (unicode ignore_numbered : Bool) (t : Text) → all_scalars t ≡ true → t ≢ [] →
    IsReadAsPlain (plain_options unicode ignore_numbered) t
