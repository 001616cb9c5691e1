-- Each of these rows by computation.
use Rattle.std.specs.Prelude.{refl}
use Rattle.fancy_regex_text.proofs.Computing.{computing}
use Rattle.fancy_regex_text.specs.NameExamples.{NameExamples}

pub name_examples : NameExamples
unfolding computing
name_examples = record {
  accented = refl;
  superscript = refl;
  roman_number = refl;
  other_digits = refl;
  digit_first = refl;
  underscore = refl;
  currency = refl;
  minus = refl;
  no_name = refl;
  a_number = refl;
  leading_zeros = refl;
  past_the_type = refl;
  a_name = refl;
  number_and_letter = refl;
  other_digits_are_a_name = refl;
  two_before = refl;
  one_after = refl;
  none_before = refl;
  number_and_level = refl;
  name_and_level = refl;
  level_past_the_type = refl;
  level_at_the_other_end = refl;
  level_where_none_may_stand = refl;
  level_after_relative = refl;
  nothing_at_all = refl;
  minus_alone = refl;
  sign_and_letter = refl;
  level_of_no_number = refl;
  two_signs = refl;
  blank = refl;
  numbers = refl;
  no_numbers = refl;
}
