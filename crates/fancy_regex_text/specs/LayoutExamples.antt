-- Worked examples: comments, blanks, and comments from `#` to the end of the line.
use Rattle.std.specs.Prelude.{◌≡◌, Bool, true, false, [], ◌∷◌, Ok, Err, codes}
use Prim.Native.String.{String}
use Rattle.fancy_regex_text.specs.ParseFault.{unclosed_open_paren}
use Rattle.fancy_regex_text.specs.Layout.{skip}

-- the text after its leading layout is this one
abbrev pub IsSkippedTo : Bool → String → String → Type 0
IsSkippedTo verbose s rest = skip verbose (codes s) ≡ Ok (codes rest)

abbrev pub IsOpenComment : Bool → String → Type 0
IsOpenComment verbose s = skip verbose (codes s) ≡ Err (record { kind = unclosed_open_paren; left = 0 })

pub record LayoutExamples : Type 0 where
  pub nothing_there : IsSkippedTo false "" ""
  pub no_layout : IsSkippedTo true "a " "a "
  pub a_comment : IsSkippedTo false "(?#x)b" "b"
  pub two_comments : IsSkippedTo false "(?#x)(?#y)b" "b"
  pub hidden_in_comment : IsSkippedTo false "(?#a\\)b)c" "c"
  pub hidden_backslash : IsSkippedTo false "(?#a\\\\)c" "c"
  pub comment_in_comment : IsSkippedTo false "(?#(?#)b" "b"
  pub blank_is_a_token : IsSkippedTo false " b" " b"
  pub sharp_is_a_token : IsSkippedTo false "#b" "#b"
  pub blanks_and_line : IsSkippedTo true " # c\n\tb" "b"
  pub return_and_tab : IsSkippedTo true "\r\tb" "b"
  pub line_takes_the_paren : IsSkippedTo true "#)" ""
  pub form_feed_is_a_token : skip true (0x0C ∷ []) ≡ Ok (0x0C ∷ [])
  pub no_break_space_is_a_token : skip true (0xA0 ∷ []) ≡ Ok (0xA0 ∷ [])
  pub line_to_the_end : IsSkippedTo true "#b" ""
  pub carriage_return_ends_no_line : IsSkippedTo true "#b\rc" ""
  pub comment_and_blanks : IsSkippedTo true " (?# )) \n(" ") \n("
  pub open_comment : IsOpenComment false "(?#b"
  pub backslash_hides_the_end : IsOpenComment false "(?#\\"
  pub backslash_hides_the_paren : IsOpenComment true "(?#\\)"
