-- Worked examples: bracketed classes.
use Rattle.std.specs.Prelude.{◌≡◌, ℕ, Bool, true, false, [], ◌∷◌, Ok, Err, codes, ◌++◌}
use Prim.Native.String.{String}
use Rattle.fancy_regex_text.specs.ParseFault.{Kind, trailing_backslash, invalid_escape, unclosed_unicode_name, invalid_hex, invalid_class, invalid_group_name}
use Rattle.fancy_regex_lex.specs.Classes.{bracketed_class}

-- the whole text is a class, and is rewritten to this text
abbrev pub IsClass : Bool → String → String → Type 0
IsClass oniguruma s class = bracketed_class oniguruma (codes s) ≡ Ok (codes class, [])

-- the class stays as it is written, and this text follows it
abbrev pub IsClassBefore : String → String → Type 0
IsClassBefore s rest = bracketed_class false (codes s ++ codes rest) ≡ Ok (codes s, codes rest)

abbrev pub IsNoClass : String → Kind → ℕ → Type 0
IsNoClass s kind left = bracketed_class false (codes s) ≡ Err (record { kind = kind; left = left })

pub record ClassExamples : Type 0 where
  pub plain_class : IsClassBefore "[a-c]" "d]"
  pub negated : IsClassBefore "[^a]" ""
  pub bracket_first : IsClassBefore "[]a]" ""
  pub bracket_first_negated : IsClassBefore "[^]a]" ""
  pub second_bracket : IsClassBefore "[]]" "]"
  pub nested_class : IsClassBefore "[a[b]c]" "d"
  pub nested_bracket_first : IsClassBefore "[a[]b]" "]"
  pub blanks_and_sharps : IsClassBefore "[ #]" " "
  pub comment_is_none : IsClassBefore "[(?#]" ")]"
  pub literal_escape : IsClass false "[\\x41\\/]" "[A/]"
  pub quoted_escape : IsClass false "[\\]\\-\\~]" "[\\]\\-\\~]"
  pub quoted_code : IsClass false "[\\x5D]" "[\\]]"
  pub newline_in_class : IsClass false "[\\n]" "[\n]"
  pub class_escape : IsClass false "[\\d\\h\\p{^L}]" "[\\d[0-9A-Fa-f]\\P{L}]"
  pub backspace : bracketed_class false (codes "[\\b]") ≡ Ok (0x5B ∷ 0x08 ∷ 0x5D ∷ [], [])
  pub brace_after_backspace : bracketed_class false (codes "[\\b{start}]") ≡ Ok (0x5B ∷ 0x08 ∷ codes "{start}]", [])
  pub left_in_class_oniguruma : IsClass true "[\\<]" "[<]"
  pub boundary_in_class : IsNoClass "[a\\B]" invalid_class 3
  pub byte_in_class : IsNoClass "[\\xE9]" invalid_class 5
  pub any_in_class : IsNoClass "[\\N]" invalid_class 3
  pub reference_in_class : IsNoClass "[\\1]" invalid_class 3
  pub left_in_class : IsNoClass "[\\<]" invalid_class 3
  pub unknown_in_class : IsNoClass "[\\q]" (invalid_escape (codes "\\q")) 3
  pub short_hex_in_class : IsNoClass "[\\u12]" invalid_hex 5
  pub name_in_class : IsNoClass "[\\k]" invalid_group_name 3
  pub good_name_in_class : IsNoClass "[\\k<a>]" invalid_class 6
  pub backslash_in_class : IsNoClass "[a\\" trailing_backslash 1
  pub open_class : IsNoClass "[a" invalid_class 0
  pub caret_alone : IsNoClass "[^" invalid_class 0
  pub bracket_alone : IsNoClass "[]" invalid_class 0
  pub open_nested : IsNoClass "[a[b]" invalid_class 0
  pub open_property_in_class : IsNoClass "[\\p{L" unclosed_unicode_name 4
