-- Each of these rows by computation.
use Rattle.std.specs.Prelude.{refl}
use Rattle.fancy_regex_lex.proofs.Computing.{computing}
use Rattle.fancy_regex_lex.specs.QuantifierExamples.{QuantifierExamples}

pub quantifier_examples : QuantifierExamples
unfolding computing
quantifier_examples = record {
  optional = refl;
  star = refl;
  plus = refl;
  exactly = refl;
  at_least = refl;
  between = refl;
  at_most = refl;
  reversed = refl;
  open_brace = refl;
  open_range = refl;
  comma_alone = refl;
  braces_alone = refl;
  letter_in_braces = refl;
  sign_in_braces = refl;
  greatest_count = refl;
  past_the_greatest = refl;
  second_past_the_greatest = refl;
  far_past_the_greatest = refl;
  letter = refl;
  nothing_there = refl;
  in_braces = refl;
  comment_in_braces = refl;
  blank_in_braces_without_x = refl;
  blank_in_number = refl;
  open_comment_in_braces = refl;
  no_mark = refl;
  lazy = refl;
  possessive = refl;
  both_marks = refl;
  possessive_first = refl;
  blanks_before = refl;
  comment_before = refl;
  not_after_the_lazy_mark = refl;
  braces_oniguruma = refl;
  lazy_braces_oniguruma = refl;
  sign_oniguruma = refl;
  open_comment_before = refl;
}
