-- Worked examples: flags.
use Rattle.std.specs.Prelude.{◌≡◌, ℕ, Bool, true, false, Ok, Err, codes, ◌++◌}
use Prim.Native.String.{String}
use Rattle.fancy_regex_text.specs.Text.{Text}
use Rattle.fancy_regex_text.specs.ParseFault.{Kind, ParseOutcome, unclosed_open_paren, unknown_flag, changing_unicode_mode_unsupported}
use Rattle.fancy_regex_lex.specs.FlagLetters.{flag_letters}
use Rattle.fancy_regex_lex.specs.declared.token.Flags.{Flags}

abbrev pub no_flags : Flags
no_flags = record { casei = false; multi = false; dot_newline = false; verbose = false; swap_greed = false; crlf = false }

abbrev pub all_flags : Flags
all_flags = record { casei = true; multi = true; dot_newline = true; verbose = true; swap_greed = true; crlf = true }

-- the flags after `(?`, which change these flags, in Unicode mode or not
abbrev pub flags_after : Bool → Flags → String → ParseOutcome (Flags × Bool × Text)
flags_after unicode f s = flag_letters unicode (codes "(?" ++ codes s) true f (codes s)

-- the flags become these; whether a group body follows; and the rest
abbrev pub Sets : Bool → Flags → String → Flags → Bool → String → Type 0
Sets unicode f s g has_body rest = flags_after unicode f s ≡ Ok (g, has_body, codes rest)

abbrev pub SetsNothing : Bool → String → Kind → ℕ → Type 0
SetsNothing unicode s kind left = flags_after unicode no_flags s ≡ Err (record { kind = kind; left = left })

pub record FlagExamples : Type 0 where
  pub casei : Sets true no_flags "i)a" (record no_flags { casei = true }) false "a"
  pub multi : Sets true no_flags "m:a" (record no_flags { multi = true }) true "a"
  pub dot_newline : Sets true no_flags "s)" (record no_flags { dot_newline = true }) false ""
  pub verbose : Sets true no_flags "x)" (record no_flags { verbose = true }) false ""
  pub swap_greed : Sets true no_flags "U)" (record no_flags { swap_greed = true }) false ""
  pub crlf : Sets true no_flags "R)" (record no_flags { crlf = true }) false ""
  pub every_flag : Sets true no_flags "imsxURu)" all_flags false ""
  pub every_flag_cleared : Sets false all_flags "-imsxURu)" no_flags false ""
  pub set_and_cleared : Sets true no_flags "is-i:" (record no_flags { dot_newline = true }) true ""
  pub no_letter : Sets true all_flags ")" all_flags false ""
  pub no_letter_body : Sets true all_flags ":a" all_flags true "a"
  pub minus_alone : Sets true all_flags "-)" all_flags false ""
  pub twice : Sets true no_flags "ii)" (record no_flags { casei = true }) false ""
  pub unicode_against : SetsNothing false "u)a" changing_unicode_mode_unsupported 5
  pub unicode_cleared_against : SetsNothing true "i-u)" changing_unicode_mode_unsupported 6
  pub unknown_letter : SetsNothing true "q)" (unknown_flag (codes "(?q")) 4
  pub unknown_after_known : SetsNothing true "im!" (unknown_flag (codes "(?im!")) 5
  pub not_ascii : SetsNothing true "é)" (unknown_flag (codes "(?é")) 5
  pub second_minus : SetsNothing true "i-m-s)" (unknown_flag (codes "(?i-m-")) 8
  pub first_letter_first : SetsNothing false "uq)" changing_unicode_mode_unsupported 5
  pub other_letter_first : SetsNothing false "qu)" (unknown_flag (codes "(?q")) 5
  pub open_flags : SetsNothing true "i" unclosed_open_paren 0
  pub bare_question : SetsNothing true "" unclosed_open_paren 0
