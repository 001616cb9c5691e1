-- Examples: group names outside ASCII, and longer patterns.
use Rattle.std.specs.Prelude.{codes, true, false, replicate, [], ◌∷◌}
use Rattle.fancy_regex_text.specs.Text.{unbounded}
use Rattle.fancy_regex_text.specs.ParseFault.{invalid_group_name}
use Rattle.fancy_regex_tree.specs.declared.expr.Assertion.TheVariants.{LeftWordBoundary, RightWordBoundary}
use Rattle.fancy_regex_tree.specs.declared.expr.LookAround.TheVariants.{LookAhead, LookAheadNeg}
use Rattle.fancy_regex_tree.specs.Tree.{concat, alt, trees, empty, assertion, group, look_around, repeat, delegate, backref, subroutine_call, define_group}
use Rattle.fancy_regex_tree_examples.specs.PatternNotation.{each_char, ch, concat_of, alt_of}
use Rattle.fancy_regex_tree.specs.Options.{unicode_only}
use Rattle.fancy_regex_tree_examples.specs.ParseNotation.{in_oniguruma_mode, ParsesAs, FailsWith, TextParsesAs}

pub record NameExamples : Type 0 where
  pub accented : ParsesAs unicode_only "(?<é>a)\\k<é>" (concat_of (group (ch "a") ∷ backref 1 false ∷ []))
  pub superscript : ParsesAs unicode_only "(?<²>a)" (group (ch "a"))
  pub roman_number : ParsesAs unicode_only "(?<Ⅷ>a)" (group (ch "a"))
  pub digit_first : ParsesAs unicode_only "(?<1_a>a)" (group (ch "a"))
  pub currency : FailsWith unicode_only "(?<€>a)" invalid_group_name 0
  pub at_a_distance : FailsWith unicode_only "é(?<€>a)" invalid_group_name 2
  pub dates : ParsesAs unicode_only "(\\d{4})-(\\d{2})" (concat_of (group (repeat (delegate (codes "\\d") false) 4 4 true) ∷ ch "-" ∷ group (repeat (delegate (codes "\\d") false) 2 2 true) ∷ []))
  pub balanced : ParsesAs unicode_only "(\\((?:[^()]|\\g<1>)*\\))" (group (concat_of (ch "(" ∷ repeat (alt_of (delegate (codes "[^()]") false ∷ subroutine_call 1 ∷ [])) 0 unbounded true ∷ ch ")" ∷ [])))
  pub defined_digit : ParsesAs unicode_only "(?(DEFINE)(?<d>[0-9]+))\\g<d>-\\g<d>" (concat_of (define_group (group (repeat (delegate (codes "[0-9]") false) 1 unbounded true)) ∷ subroutine_call 1 ∷ ch "-" ∷ subroutine_call 1 ∷ []))
  pub word_between_boundaries : ParsesAs unicode_only "\\<\\w*\\>" (concat_of (assertion LeftWordBoundary ∷ repeat (delegate (codes "\\w") false) 0 unbounded true ∷ assertion RightWordBoundary ∷ []))
  pub word_between_signs : ParsesAs in_oniguruma_mode "\\<\\w*\\>" (concat_of (ch "<" ∷ repeat (delegate (codes "\\w") false) 0 unbounded true ∷ ch ">" ∷ []))
  pub atomic_and_look : ParsesAs unicode_only "(?=(a|ab)(?!x))\\1c" (concat_of (look_around (concat_of (group (alt_of (ch "a" ∷ concat_of (ch "a" ∷ ch "b" ∷ []) ∷ [])) ∷ look_around (ch "x") LookAheadNeg ∷ [])) LookAhead ∷ backref 1 false ∷ ch "c" ∷ []))
  pub quite_long : TextParsesAs unicode_only (replicate 300 0x61) (concat (trees (each_char (replicate 300 0x61))))
  pub many_branches : TextParsesAs unicode_only (replicate 200 0x7C) (alt (trees (replicate 201 empty)))
