-- Each of these rows by computation.
use Rattle.std.specs.Prelude.{refl}
use Rattle.fancy_regex_text.proofs.Computing.{computing}
use Rattle.fancy_regex_template.specs.Numbers.{append_digit, append_digits, leading_number, number_of}
use Rattle.fancy_regex_template.specs.Parts.{leading_name, enclosed_name, bare_reference, reference, strip_sign, part_after_sign, first_part, first_parts, parts}
use Rattle.fancy_regex_template.specs.Examples.{TemplateExamples}

pub template_examples : TemplateExamples
unfolding computing append_digit append_digits leading_number number_of leading_name enclosed_name bare_reference reference strip_sign part_after_sign first_part first_parts parts
template_examples = record {
  two_names = refl;
  longest_name = refl;
  enclosed_name = refl;
  sign_at_the_end = refl;
  two_signs = refl;
  three_signs = refl;
  no_name_enclosed = refl;
  open_bracket = refl;
  sign_enclosed = refl;
  python_name = refl;
  python_bare_name = refl;
  python_open_bracket = refl;
  python_greatest_number = refl;
  python_number_that_fits = refl;
  python_dollar = refl;
  python_expansion = refl;
  unknown_name = refl;
  number_by_name = refl;
  sign_stays = refl;
  name_not_there = refl;
  number_beside_names = refl;
  whole_match_beside_names = refl;
  number_not_there = refl;
  number_past_the_type = refl;
  fault_from_the_left = refl;
  escaped_sign = refl;
  escaped_dot = refl;
  nothing_to_escape = refl;
  escaped_newline = refl;
}
