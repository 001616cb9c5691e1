-- Worked examples: escapes.
use Rattle.std.specs.Prelude.{◌≡◌, ℕ, Bool, true, false, [], Ok, Err, codes, ◌++◌, None, Some, pos, negsuc}
use Prim.Native.String.{String}
use Rattle.fancy_regex_text.specs.ParseFault.{Kind, trailing_backslash, invalid_escape, unclosed_unicode_name, invalid_hex, invalid_codepoint_value, invalid_group_name}
use Rattle.fancy_regex_text.specs.Names.{by_number, by_name, relative}
use Rattle.fancy_regex_lex.specs.Escapes.{Escape, char_escape, byte_escape, class_escape, any_escape, newline_escape, assertion_escape, continue_escape, keep_out_escape, reference_escape, call_escape, escape}
use Rattle.fancy_regex_lex.specs.declared.token.AssertionEscape.TheVariants.{TextStart, TextEnd, TextEndOrNewlines, WordBoundary, NotWordBoundary, LeftWordBoundary, RightWordBoundary, LeftWordHalfBoundary, RightWordHalfBoundary}

-- the whole text is this escape
abbrev pub IsEscape : Bool → String → Escape → Type 0
IsEscape oniguruma s e = escape oniguruma (codes s) ≡ Ok (e, [])

-- the text starts with this escape, and this text follows it
abbrev pub IsEscapeBefore : String → Escape → String → Type 0
IsEscapeBefore s e rest = escape false (codes s ++ codes rest) ≡ Ok (e, codes rest)

-- a parse error of this kind, so many bytes before the end of the text
abbrev pub IsNoEscape : String → Kind → ℕ → Type 0
IsNoEscape s kind left = escape false (codes s) ≡ Err (record { kind = kind; left = left })

pub record EscapeExamples : Type 0 where
  pub letter_a : IsEscape false "\\a" (char_escape 0x07)
  pub letter_e : IsEscape false "\\e" (char_escape 0x1B)
  pub letter_f : IsEscape false "\\f" (char_escape 0x0C)
  pub letter_n : IsEscape false "\\n" (char_escape 0x0A)
  pub letter_r : IsEscape false "\\r" (char_escape 0x0D)
  pub letter_t : IsEscape false "\\t" (char_escape 0x09)
  pub letter_v : IsEscape false "\\v" (char_escape 0x0B)
  pub class_digit : IsEscape false "\\d" (class_escape (codes "\\d"))
  pub class_not_digit : IsEscape false "\\D" (class_escape (codes "\\D"))
  pub class_word : IsEscape false "\\w" (class_escape (codes "\\w"))
  pub class_not_word : IsEscape false "\\W" (class_escape (codes "\\W"))
  pub class_space : IsEscape false "\\s" (class_escape (codes "\\s"))
  pub class_not_space : IsEscape false "\\S" (class_escape (codes "\\S"))
  pub hex_digit : IsEscape false "\\h" (class_escape (codes "[0-9A-Fa-f]"))
  pub not_hex_digit : IsEscape false "\\H" (class_escape (codes "[^0-9A-Fa-f]"))
  pub hex_two : IsEscapeBefore "\\x41" (char_escape 0x41) "1"
  pub hex_7F : IsEscape false "\\x7F" (char_escape 0x7F)
  pub hex_80 : IsEscape false "\\x80" (byte_escape 0x80)
  pub hex_byte : IsEscape false "\\xe9" (byte_escape 0xE9)
  pub hex_braces : IsEscape false "\\x{E9}" (char_escape 0xE9)
  pub hex_braces_eight : IsEscape false "\\u{00000041}" (char_escape 0x41)
  pub hex_U_braces : IsEscape false "\\U{1F600}" (char_escape 0x1F600)
  pub hex_four : IsEscapeBefore "\\u0041" (char_escape 0x41) "b"
  pub hex_eight : IsEscapeBefore "\\U0001F600" (char_escape 0x1F600) "0"
  pub hex_missing : IsNoEscape "\\u12" (invalid_hex) 4
  pub hex_wrong : IsNoEscape "\\x4g" (invalid_hex) 4
  pub hex_nothing : IsNoEscape "\\x" (invalid_hex) 2
  pub hex_no_digit : IsNoEscape "\\x{}" (invalid_hex) 4
  pub hex_nine : IsNoEscape "\\x{000000041}" (invalid_hex) 13
  pub hex_open : IsNoEscape "\\x{41" (invalid_hex) 5
  pub hex_blank : IsNoEscape "\\x{ 41}" (invalid_hex) 7
  pub hex_too_great : IsNoEscape "\\x{110000}" (invalid_codepoint_value) 10
  pub hex_surrogate : IsNoEscape "\\uD800" (invalid_codepoint_value) 6
  pub hex_last_surrogate : IsNoEscape "\\uDFFF" (invalid_codepoint_value) 6
  pub hex_before_surrogates : IsEscape false "\\uD7FF" (char_escape 0xD7FF)
  pub hex_after_surrogates : IsEscape false "\\uE000" (char_escape 0xE000)
  pub hex_last : IsEscape false "\\x{10FFFF}" (char_escape 0x10FFFF)
  pub property_letter : IsEscape false "\\pL" (class_escape (codes "\\pL"))
  pub property_not_letter : IsEscapeBefore "\\PL" (class_escape (codes "\\PL")) "a"
  pub property_paren : IsEscape false "\\p)" (class_escape (codes "\\p)"))
  pub property_name : IsEscape false "\\p{Lu}" (class_escape (codes "\\p{Lu}"))
  pub property_caret : IsEscape false "\\p{^Lu}" (class_escape (codes "\\P{Lu}"))
  pub property_not_caret : IsEscape false "\\P{^Lu}" (class_escape (codes "\\p{Lu}"))
  pub property_two_carets : IsEscape false "\\p{^^Lu}" (class_escape (codes "\\P{^Lu}"))
  pub property_nothing : IsNoEscape "\\p" (unclosed_unicode_name) 2
  pub property_open : IsNoEscape "\\P{L" (unclosed_unicode_name) 4
  pub property_empty : IsNoEscape "\\p{}" (unclosed_unicode_name) 4
  pub property_caret_alone : IsNoEscape "\\p{^}" (unclosed_unicode_name) 5
  pub not_newline : IsEscape false "\\N" (any_escape false)
  pub every_character : IsEscape false "\\O" (any_escape true)
  pub newline_sequence : IsEscape false "\\R" (newline_escape)
  pub text_start : IsEscape false "\\A" (assertion_escape TextStart)
  pub text_end : IsEscape false "\\z" (assertion_escape TextEnd)
  pub text_end_newlines : IsEscape false "\\Z" (assertion_escape TextEndOrNewlines)
  pub boundary : IsEscape false "\\b" (assertion_escape WordBoundary)
  pub not_boundary : IsEscape false "\\B" (assertion_escape NotWordBoundary)
  pub left_boundary : IsEscape false "\\<" (assertion_escape LeftWordBoundary)
  pub right_boundary : IsEscape false "\\>" (assertion_escape RightWordBoundary)
  pub left_named : IsEscape false "\\b{start}" (assertion_escape LeftWordBoundary)
  pub right_named : IsEscape false "\\b{end}" (assertion_escape RightWordBoundary)
  pub left_half : IsEscape false "\\b{start-half}" (assertion_escape LeftWordHalfBoundary)
  pub right_half : IsEscape false "\\b{end-half}" (assertion_escape RightWordHalfBoundary)
  pub boundary_and_brace : IsEscapeBefore "\\b" (assertion_escape WordBoundary) "{x"
  pub boundary_and_count : IsEscapeBefore "\\b" (assertion_escape WordBoundary) "{2}"
  pub left_oniguruma : IsEscape true "\\<" (char_escape 0x3C)
  pub right_oniguruma : IsEscape true "\\>" (char_escape 0x3E)
  pub left_named_oniguruma : IsEscape true "\\b{start}" (assertion_escape LeftWordBoundary)
  pub continue_here : IsEscape false "\\G" (continue_escape)
  pub keep : IsEscape false "\\K" (keep_out_escape)
  pub sign : IsEscape false "\\." (char_escape 0x2E)
  pub not_ascii : IsEscape false "\\é" (char_escape 0xE9)
  pub blank : IsEscape false "\\ " (char_escape 0x20)
  pub no_such_letter : IsNoEscape "\\y" (invalid_escape (codes "\\y")) 2
  pub unknown_escape : IsNoEscape "\\qa" (invalid_escape (codes "\\q")) 3
  pub nothing_after : IsNoEscape "\\" (trailing_backslash) 1
  pub group_number : IsEscapeBefore "\\12" (reference_escape (by_number 12) None) "a"
  pub group_zero : IsEscape false "\\0" (reference_escape (by_number 0) None)
  pub past_the_type : IsEscape false "\\18446744073709551616" (reference_escape (by_number 18446744073709551615) None)
  pub k_number : IsEscape false "\\k<1>" (reference_escape (by_number 1) None)
  pub k_quoted : IsEscape false "\\k'1'" (reference_escape (by_number 1) None)
  pub k_name : IsEscape false "\\k<a>" (reference_escape (by_name (codes "a")) None)
  pub k_before : IsEscape false "\\k<-2>" (reference_escape (relative (negsuc 1)) None)
  pub k_after : IsEscape false "\\k<+1>" (reference_escape (relative (pos 1)) None)
  pub k_level : IsEscape false "\\k<1+2>" (reference_escape (by_number 1) (Some (pos 2)))
  pub k_name_level : IsEscape false "\\k'a-1'" (reference_escape (by_name (codes "a")) (Some (negsuc 0)))
  pub k_level_after_relative : IsNoEscape "\\k<-1+0>" (invalid_group_name) 8
  pub k_empty : IsNoEscape "\\k<>" (invalid_group_name) 4
  pub k_open : IsNoEscape "\\k<b" (invalid_group_name) 4
  pub k_other_bracket : IsNoEscape "\\k<b'" (invalid_group_name) 5
  pub k_alone : IsNoEscape "\\k" (invalid_group_name) 2
  pub k_minus : IsNoEscape "\\k<->" (invalid_group_name) 5
  pub k_not_a_name : IsNoEscape "\\k<€>" (invalid_group_name) 7
  pub g_number : IsEscape false "\\g<1>" (call_escape (by_number 1))
  pub g_zero : IsEscape false "\\g'0'" (call_escape (by_number 0))
  pub g_name : IsEscapeBefore "\\g<a>" (call_escape (by_name (codes "a"))) "("
  pub g_relative : IsEscape false "\\g<-1>" (call_escape (relative (negsuc 0)))
  pub g_level : IsNoEscape "\\g<1+0>" (invalid_group_name) 7
  pub g_alone : IsNoEscape "\\ga" (invalid_group_name) 3
