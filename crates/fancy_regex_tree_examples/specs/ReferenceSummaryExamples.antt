-- Examples: the summary of a parsed pattern.
use Rattle.std.specs.Prelude.{◌≡◌, true, false}
use Rattle.fancy_regex_tree.specs.ReferenceSummary.{total_groups, is_backref, contains_subroutines, reference_above_total, calls_whole, named_backref_only}
use Rattle.fancy_regex_tree.specs.Options.{unicode_only}
use Rattle.fancy_regex_tree_examples.specs.ParseNotation.{ignoring_numbered, parsed_property}

pub record ReferenceSummaryExamples : Type 0 where
  pub three_groups : parsed_property 0 total_groups unicode_only "(?<a>x)(?<b>y)(?<a>z)" ≡ 3
  pub a_back_reference : parsed_property false (λ found. is_backref found 2) unicode_only "(a)(b)\\2(?(1)c)\\3\\0\\g<2>" ≡ true
  pub a_condition : parsed_property false (λ found. is_backref found 1) unicode_only "(a)(b)\\2(?(1)c)\\3\\0\\g<2>" ≡ true
  pub group_zero : parsed_property false (λ found. is_backref found 0) unicode_only "(a)(b)\\2(?(1)c)\\3\\0\\g<2>" ≡ true
  pub above_the_total : parsed_property true (λ found. is_backref found 3) unicode_only "(a)(b)\\2(?(1)c)\\3\\0\\g<2>" ≡ false
  pub a_call_is_none : parsed_property true (λ found. is_backref found 2) unicode_only "(a)(b)\\g<2>" ≡ false
  pub no_calls : parsed_property true contains_subroutines unicode_only "(a)\\1" ≡ false
  pub one_call : parsed_property false contains_subroutines unicode_only "(?=(a\\g<1>?))" ≡ true
  pub one_unresolved_call : parsed_property false contains_subroutines unicode_only "\\g<n>" ≡ true
  pub above : parsed_property false reference_above_total unicode_only "(a)\\2" ≡ true
  pub call_above : parsed_property false reference_above_total unicode_only "(a)\\g<2>" ≡ true
  pub not_above : parsed_property true reference_above_total unicode_only "(a)\\1\\g<0>" ≡ false
  pub whole_called : parsed_property false calls_whole unicode_only "a\\g<0>?" ≡ true
  pub group_called : parsed_property true calls_whole unicode_only "(a)\\g<1>" ≡ false
  pub number_among_names : parsed_property false named_backref_only ignoring_numbered "(?<n>a)\\1" ≡ true
  pub condition_among_names : parsed_property false named_backref_only ignoring_numbered "(?<n>a)(?(1)b)" ≡ true
  pub call_among_names : parsed_property false named_backref_only ignoring_numbered "(?<n>a)\\g<1>" ≡ true
  pub relative_among_names : parsed_property false named_backref_only ignoring_numbered "(?<n>a)\\k<-1>" ≡ true
  pub whole_among_names : parsed_property true named_backref_only ignoring_numbered "(?<n>a)\\g<0>?" ≡ false
  pub names_among_names : parsed_property true named_backref_only ignoring_numbered "(?<n>a)\\k<n>" ≡ false
  pub numbers_alone : parsed_property true named_backref_only ignoring_numbered "(a)\\1" ≡ false
  pub not_ignoring : parsed_property true named_backref_only unicode_only "(?<n>a)\\1" ≡ false
