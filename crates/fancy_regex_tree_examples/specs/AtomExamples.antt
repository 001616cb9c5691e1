-- Examples: characters, dots, anchors and alternations.
use Rattle.std.specs.Prelude.{None, codes, false, true, ◌∷◌, []}
use Rattle.fancy_regex_text.specs.ParseFault.{unclosed_open_paren}
use Rattle.fancy_regex_tree_examples.specs.PatternNotation.{ParsesAs, FailsWith, ch, concat_of, in_oniguruma_mode, alt_of, unicode_only}
use Rattle.fancy_regex_tree.specs.Tree.{any, assertion, ast_group, empty, literal, look_around}
use Rattle.fancy_regex_tree.specs.declared.expr.Assertion.TheVariants.{EndLine, EndText, StartLine, StartLineOniguruma, StartText}
use Rattle.fancy_regex_tree.specs.declared.expr.LookAround.TheVariants.{LookAhead}

pub record AtomExamples : Type 0 where
  pub nothing_at_all : ParsesAs unicode_only "" (empty)
  pub two_empty_branches : ParsesAs unicode_only "|" (alt_of (empty ∷ empty ∷ []))
  pub branches_of_rows : ParsesAs unicode_only "ab|c" (alt_of (concat_of (ch "a" ∷ ch "b" ∷ []) ∷ ch "c" ∷ []))
  pub dot : ParsesAs unicode_only "." (any false false)
  pub dot_s : ParsesAs unicode_only "(?s)." (any true false)
  pub dot_R : ParsesAs unicode_only "(?R)." (any false true)
  pub dot_sR : ParsesAs unicode_only "(?sR)." (any true true)
  pub anchors : ParsesAs unicode_only "^$" (concat_of (assertion StartText ∷ assertion EndText ∷ []))
  pub anchors_m : ParsesAs unicode_only "(?m)^$" (concat_of (assertion (StartLine false) ∷ assertion (EndLine false) ∷ []))
  pub anchors_mR : ParsesAs unicode_only "(?mR)^$" (concat_of (assertion (StartLine true) ∷ assertion (EndLine true) ∷ []))
  pub closing_signs : ParsesAs unicode_only "]}" (concat_of (ch "]" ∷ ch "}" ∷ []))
  pub casei : ParsesAs unicode_only "(?i)a" (literal (codes "a") true)
  pub two_bytes : FailsWith unicode_only "é(" unclosed_open_paren 3
  pub line_start_oniguruma : ParsesAs in_oniguruma_mode "(?m)^" (assertion (StartLineOniguruma false))
  pub line_start_in_look_around : ParsesAs in_oniguruma_mode "(?m)(?=(^))" (look_around (ast_group None (assertion (StartLine false)) 7) LookAhead)
  pub line_start_after_look_around : ParsesAs in_oniguruma_mode "(?m)(?=a)^" (concat_of (look_around (ch "a") LookAhead ∷ assertion (StartLineOniguruma false) ∷ []))
  pub plain_start_oniguruma : ParsesAs in_oniguruma_mode "^" (assertion StartText)
