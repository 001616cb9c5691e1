-- Each of these rows by computation.
use Rattle.std.specs.Prelude.{refl}
use Rattle.fancy_regex_lex.proofs.Computing.{computing}
use Rattle.fancy_regex_lex.specs.ClassExamples.{ClassExamples}

pub class_examples : ClassExamples
unfolding computing
class_examples = record {
  plain_class = refl;
  negated = refl;
  bracket_first = refl;
  bracket_first_negated = refl;
  second_bracket = refl;
  nested_class = refl;
  nested_bracket_first = refl;
  blanks_and_sharps = refl;
  comment_is_none = refl;
  literal_escape = refl;
  quoted_escape = refl;
  quoted_code = refl;
  newline_in_class = refl;
  class_escape = refl;
  backspace = refl;
  brace_after_backspace = refl;
  left_in_class_oniguruma = refl;
  boundary_in_class = refl;
  byte_in_class = refl;
  any_in_class = refl;
  reference_in_class = refl;
  left_in_class = refl;
  unknown_in_class = refl;
  short_hex_in_class = refl;
  name_in_class = refl;
  good_name_in_class = refl;
  backslash_in_class = refl;
  open_class = refl;
  caret_alone = refl;
  bracket_alone = refl;
  open_nested = refl;
  open_property_in_class = refl;
}
