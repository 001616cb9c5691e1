-- Examples: references and group numbers.
use Rattle.std.specs.Prelude.{codes, None, Some, pos, negsuc, true, false, [], ◌∷◌}
use Rattle.fancy_regex_text.specs.Text.{unbounded}
use Rattle.fancy_regex_text.specs.ParseFault.{general_parse_error, invalid_group_name, invalid_backref, invalid_group_name_backref}
use Rattle.fancy_regex_tree.specs.Tree.{empty, group, repeat, backref, backref_with_level, backref_exists, conditional, subroutine_call, ast_call, by_name, relative}
use Rattle.fancy_regex_tree_examples.specs.PatternNotation.{ch, concat_of}
use Rattle.fancy_regex_tree.specs.Options.{unicode_only}
use Rattle.fancy_regex_tree_examples.specs.ParseNotation.{ignoring_numbered, ParsesAs, FailsWith, ParsesWithNames, NumbersAre}

pub record ReferenceExamples : Type 0 where
  pub three_names : ParsesWithNames unicode_only "(?<a>x)(?<b>y)(?<a>z)" (concat_of (group (ch "x") ∷ group (ch "y") ∷ group (ch "z") ∷ [])) (Some (codes "a") ∷ Some (codes "b") ∷ Some (codes "a") ∷ [])
  pub numbers_of_a : NumbersAre unicode_only "(?<a>x)(?<b>y)(?<a>z)" "a" (1 ∷ 3 ∷ [])
  pub numbers_of_b : NumbersAre unicode_only "(?<a>x)(?<b>y)(?<a>z)" "b" (2 ∷ [])
  pub before_the_last : FailsWith unicode_only "(?<a>x)\\k<a>(?<a>y)" (invalid_group_name_backref (codes "a")) 7
  pub digits : ParsesAs unicode_only "(a)\\1" (concat_of (group (ch "a") ∷ backref 1 false ∷ []))
  pub digits_casei : ParsesAs unicode_only "(?i)\\12" (backref 12 true)
  pub above_total : ParsesAs unicode_only "\\2" (backref 2 false)
  pub group_zero : ParsesAs unicode_only "\\0" (backref 0 false)
  pub past_the_type : ParsesAs unicode_only "\\18446744073709551616" (backref unbounded false)
  pub k_number : ParsesAs unicode_only "\\k<1>" (backref 1 false)
  pub k_quoted : ParsesAs unicode_only "\\k'1'" (backref 1 false)
  pub k_name : ParsesAs unicode_only "(?<a>x)\\k<a>" (concat_of (group (ch "x") ∷ backref 1 false ∷ []))
  pub k_name_inside : ParsesAs unicode_only "(?<a>x\\k<a>)" (group (concat_of (ch "x" ∷ backref 1 false ∷ [])))
  pub k_before : ParsesAs unicode_only "(a)(b)\\k<-2>" (concat_of (group (ch "a") ∷ group (ch "b") ∷ backref 1 false ∷ []))
  pub k_after : ParsesAs unicode_only "(a)\\k<+1>(b)" (concat_of (group (ch "a") ∷ backref 2 false ∷ group (ch "b") ∷ []))
  pub k_level : ParsesAs unicode_only "\\k<1+2>" (backref_with_level 1 (pos 2) false)
  pub k_name_level : ParsesAs unicode_only "(?<a>x)\\k'a-1'" (concat_of (group (ch "x") ∷ backref_with_level 1 (negsuc 0) false ∷ []))
  pub k_level_after_relative : FailsWith unicode_only "(a)\\k<-1+0>" invalid_group_name 3
  pub k_level_past_the_type : ParsesAs unicode_only "\\k<1-9223372036854775809>" (backref_with_level 1 (negsuc 9223372036854775807) false)
  pub k_empty : FailsWith unicode_only "\\k<>" invalid_group_name 0
  pub k_open : FailsWith unicode_only "a\\k<b" invalid_group_name 1
  pub k_alone : FailsWith unicode_only "a\\k" invalid_group_name 1
  pub k_minus : FailsWith unicode_only "\\k<->" invalid_group_name 0
  pub python_reference : ParsesAs unicode_only "(?<n>a)(?P=n)" (concat_of (group (ch "a") ∷ backref 1 false ∷ []))
  pub python_open : FailsWith unicode_only "(?P=n" invalid_group_name 0
  pub too_far_before : FailsWith unicode_only "(a)\\k<-2>" invalid_backref 3
  pub zero_before : FailsWith unicode_only "(a)\\k<-0>" invalid_backref 3
  pub condition_too_far_before : FailsWith unicode_only "a(?(<-1>)b)" invalid_backref 1
  pub no_such_name : FailsWith unicode_only "ab\\k<n>" (invalid_group_name_backref (codes "n")) 2
  pub condition_no_such_name : FailsWith unicode_only "a(?(<n>)b)" (invalid_group_name_backref (codes "n")) 1
  pub condition_before_its_group : ParsesAs unicode_only "(?(<a>)b)(?<a>c)" (concat_of (conditional (backref_exists 1 None) (ch "b") empty ∷ group (ch "c") ∷ []))
  pub g_number : ParsesAs unicode_only "\\g<1>" (subroutine_call 1)
  pub g_zero : ParsesAs unicode_only "\\g'0'" (subroutine_call 0)
  pub g_name : ParsesAs unicode_only "\\g<a>(?<a>x)" (concat_of (subroutine_call 1 ∷ group (ch "x") ∷ []))
  pub g_last_of_name : ParsesAs unicode_only "(?<a>x)\\g<a>(?<a>y)" (concat_of (group (ch "x") ∷ subroutine_call 2 ∷ group (ch "y") ∷ []))
  pub g_relative : ParsesAs unicode_only "(a)\\g<-1>" (concat_of (group (ch "a") ∷ subroutine_call 1 ∷ []))
  pub g_unresolved : ParsesAs unicode_only "a\\g<b>" (concat_of (ch "a" ∷ ast_call (by_name (codes "b")) 1 ∷ []))
  pub g_relative_unresolved : ParsesAs unicode_only "(a)\\g<-2>" (concat_of (group (ch "a") ∷ ast_call (relative (negsuc 1)) 3 ∷ []))
  pub g_above_total : ParsesAs unicode_only "\\g<+1>" (subroutine_call 1)
  pub g_level : FailsWith unicode_only "\\g<1+0>" invalid_group_name 0
  pub python_call : ParsesAs unicode_only "(?<n>a)(?P>n)" (concat_of (group (ch "a") ∷ subroutine_call 1 ∷ []))
  pub ignored : ParsesWithNames ignoring_numbered "(a)(?<n>b)(c)" (concat_of (ch "a" ∷ group (ch "b") ∷ ch "c" ∷ [])) (Some (codes "n") ∷ [])
  pub ignored_without_names : ParsesAs ignoring_numbered "(a)(b)" (concat_of (group (ch "a") ∷ group (ch "b") ∷ []))
  pub ignored_relative : ParsesAs ignoring_numbered "(?<n>b)(c)\\k<-1>" (concat_of (group (ch "b") ∷ ch "c" ∷ backref 1 false ∷ []))
  pub ignored_nothing : ParsesAs ignoring_numbered "a()b(?<n>c)" (concat_of (ch "a" ∷ empty ∷ ch "b" ∷ group (ch "c") ∷ []))
  pub ignored_quantified : ParsesAs ignoring_numbered "()*(?<n>c)" (concat_of (repeat empty 0 unbounded true ∷ group (ch "c") ∷ []))
  pub name_of_digits : FailsWith unicode_only "(?<1>a)\\k<2>(?<a>b)\\k<c>" (invalid_group_name_backref (codes "c")) 19
  pub other_digits_are_a_name : FailsWith unicode_only "\\k<३>" (invalid_group_name_backref (codes "३")) 0
  pub python_level : ParsesAs unicode_only "(?<n>a)(?P=n+1)" (concat_of (group (ch "a") ∷ backref_with_level 1 (pos 1) false ∷ []))
  pub python_call_level : FailsWith unicode_only "(?P>n+1)" invalid_group_name 0
  pub zero_call : ParsesAs unicode_only "(a)\\g<+0>" (concat_of (group (ch "a") ∷ ast_call (relative (pos 0)) 3 ∷ []))
  pub faults_of_reading_first : FailsWith unicode_only "\\k<n>)" (general_parse_error (codes "end of string not reached")) 5
  pub leftmost_reference : FailsWith unicode_only "\\k<-1>\\k<n>" invalid_backref 0
  pub leftmost_reference_name : FailsWith unicode_only "(\\k<n>)\\k<-9>" (invalid_group_name_backref (codes "n")) 1
