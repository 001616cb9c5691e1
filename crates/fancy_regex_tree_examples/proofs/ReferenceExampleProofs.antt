-- Each example by computation.
use Rattle.std.specs.Prelude.{refl}
use Rattle.fancy_regex_tree_examples.proofs.ParseComputing.{parse_computing}
use Rattle.fancy_regex_tree_examples.specs.ReferenceExamples.{ReferenceExamples}

pub reference_examples : ReferenceExamples
unfolding parse_computing
reference_examples = record {
  three_names = (refl, refl);
  numbers_of_a = refl;
  numbers_of_b = refl;
  before_the_last = refl;
  digits = refl;
  digits_casei = refl;
  above_total = refl;
  group_zero = refl;
  past_the_type = refl;
  k_number = refl;
  k_quoted = refl;
  k_name = refl;
  k_name_inside = refl;
  k_before = refl;
  k_after = refl;
  k_level = refl;
  k_name_level = refl;
  k_level_after_relative = refl;
  k_level_past_the_type = refl;
  k_empty = refl;
  k_open = refl;
  k_alone = refl;
  k_minus = refl;
  python_reference = refl;
  python_open = refl;
  too_far_before = refl;
  zero_before = refl;
  condition_too_far_before = refl;
  no_such_name = refl;
  condition_no_such_name = refl;
  condition_before_its_group = refl;
  g_number = refl;
  g_zero = refl;
  g_name = refl;
  g_last_of_name = refl;
  g_relative = refl;
  g_unresolved = refl;
  g_relative_unresolved = refl;
  g_above_total = refl;
  g_level = refl;
  python_call = refl;
  ignored = (refl, refl);
  ignored_without_names = refl;
  ignored_relative = refl;
  ignored_nothing = refl;
  ignored_quantified = refl;
  name_of_digits = refl;
  other_digits_are_a_name = refl;
  python_level = refl;
  python_call_level = refl;
  zero_call = refl;
  faults_of_reading_first = refl;
  leftmost_reference = refl;
  leftmost_reference_name = refl;
}
