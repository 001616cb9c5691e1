-- Each of these rows by computation.
use Rattle.std.specs.Prelude.{refl}
use Rattle.fancy_regex_lex.proofs.Computing.{computing}
use Rattle.fancy_regex_lex.specs.OpeningExamples.{OpeningExamples}

pub opening_examples : OpeningExamples
unfolding computing
opening_examples = record {
  capturing_group = refl;
  named_group = refl;
  python_named_group = refl;
  accented = refl;
  digit_name = refl;
  bare_group = refl;
  flags_and_body = refl;
  flags_alone = refl;
  no_flags_at_all = refl;
  atomic_group = refl;
  look_ahead = refl;
  look_ahead_neg = refl;
  look_behind = refl;
  look_behind_neg = refl;
  if_group = refl;
  if_level = refl;
  if_name = refl;
  if_relative = refl;
  if_quoted_name_level = refl;
  if_expression = refl;
  if_digits_and_letter = refl;
  if_look_ahead = refl;
  if_name_open = refl;
  if_name_and_letter = refl;
  if_no_name = refl;
  if_at_the_end = refl;
  if_nothing = refl;
  if_plus = refl;
  definitions = refl;
  other_word = refl;
  absent_repeater = refl;
  absent_with_bar = refl;
  verb_fail = refl;
  verb_accept = refl;
  verb_commit = refl;
  verb_skip = refl;
  verb_prune = refl;
  verb_unknown = refl;
  python_reference = refl;
  python_level = refl;
  python_call = refl;
  python_call_level = refl;
  python_open = refl;
  open_P = refl;
  other_P = refl;
  quoted_name = refl;
  open_angle = refl;
  name_empty = refl;
  name_open = refl;
  name_ill_formed = refl;
  currency = refl;
  open_flags = refl;
  bare_question = refl;
}
