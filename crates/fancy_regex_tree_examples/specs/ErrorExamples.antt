-- Examples: small patterns with an error.
use Rattle.std.specs.Prelude.{codes, replicate, ◌++◌}
use Rattle.fancy_regex_text.specs.ParseFault.{general_parse_error, invalid_class, invalid_escape, recursion_exceeded, target_not_repeatable, trailing_backslash, unclosed_open_paren}
use Rattle.fancy_regex_tree_examples.specs.PatternNotation.{TextParsesAs, FailsWith, TextFailsWith, group_in, unicode_only}
use Rattle.fancy_regex_tree.specs.Tree.{empty}

pub record ErrorExamples : Type 0 where
  pub unknown_escape : FailsWith unicode_only "\\q" (invalid_escape (codes "\\q")) 0
  pub backslash_hides_the_end : FailsWith unicode_only "(?#\\" unclosed_open_paren 4
  pub open_paren : FailsWith unicode_only "(" unclosed_open_paren 1
  pub last_backslash : FailsWith unicode_only "a\\" trailing_backslash 1
  pub open_class : FailsWith unicode_only "[a" invalid_class 2
  pub open_class_in_group : FailsWith unicode_only "([a" invalid_class 3
  pub two_stars : FailsWith unicode_only "a**" target_not_repeatable 2
  pub as_many_levels_as_may_be : TextParsesAs unicode_only (replicate 63 0x28 ++ replicate 63 0x29) (group_in 63 empty)
  pub one_level_more : TextFailsWith unicode_only (replicate 64 0x28 ++ replicate 64 0x29) recursion_exceeded 63
  pub closes_nothing : FailsWith unicode_only "a)" (general_parse_error (codes "end of string not reached")) 1
  pub non_capturing_counts : TextFailsWith unicode_only (replicate 63 0x28 ++ codes "(?i)") recursion_exceeded 63
  pub comment_does_not_count : TextFailsWith unicode_only (replicate 63 0x28 ++ codes "(?#)") unclosed_open_paren 67
