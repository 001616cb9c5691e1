-- Each example by computation.
use Rattle.std.specs.Prelude.{refl}
use Rattle.fancy_regex_tree_examples.proofs.Computing.{computing}
use Rattle.fancy_regex_tree_examples.specs.GroupExamples.{GroupExamples}

pub group_examples : GroupExamples
unfolding computing
group_examples = record {
  capturing_group = refl;
  named_group = refl;
  python_named_group = refl;
  body_itself = refl;
  flags_in_group = refl;
  flags_restored = refl;
  flags_not_restored = refl;
  flags_in_later_branches = refl;
  set_and_cleared = refl;
  no_flags_at_all = refl;
  unicode_as_set = refl;
  unicode_cleared_as_set = refl;
  unicode_against = refl;
  unicode_cleared_against = refl;
  unknown_letter = refl;
  unknown_after_known = refl;
  second_minus = refl;
  quoted_name = refl;
  open_flags = refl;
  bare_question = refl;
  atomic_group_row = refl;
  look_ahead = refl;
  look_ahead_neg = refl;
  look_behind = refl;
  look_behind_neg = refl;
  if_group = refl;
  if_without_else = refl;
  if_three = refl;
  bare_condition = refl;
  two_empty_branches_of_if = refl;
  if_level = refl;
  if_name = refl;
  if_quoted_name_level = refl;
  if_expression = refl;
  if_expression_of_branches = refl;
  if_digits_and_letter = refl;
  if_expression_alone = refl;
  if_open = refl;
  if_look_ahead_needs_its_own = refl;
  if_name_open = refl;
  if_name_and_letter = refl;
  if_name_at_the_end = refl;
  if_empty_condition = refl;
  if_plus = refl;
  open_P = refl;
  open_angle = refl;
  condition_flags_go_on = refl;
  condition_flags_alone = refl;
  condition_comment_alone = refl;
  first_letter_first = refl;
  clear_after_comment = refl;
  stopper_of_nothing = refl;
  definitions = refl;
  no_definitions = refl;
  absent_repeater_row = refl;
  absent_expression_row = refl;
  absent_expression_branches = refl;
  absent_nothing = refl;
  absent_stopper_row = refl;
  absent_clear_row = refl;
  verb_fail = refl;
  verb_accept = refl;
  verb_commit = refl;
  verb_skip = refl;
  verb_prune = refl;
  verb_unknown = refl;
  name_empty = refl;
  name_open = refl;
  name_ill_formed = refl;
  open_group_in_group = refl;
  leak_from_look_around = refl;
}
