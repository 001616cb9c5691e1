-- Each of these rows by computation.
use Rattle.std.specs.Prelude.{refl}
use Rattle.fancy_regex_text.proofs.Computing.{computing}
use Rattle.fancy_regex_text.specs.LayoutExamples.{LayoutExamples}

pub layout_examples : LayoutExamples
unfolding computing
layout_examples = record {
  nothing_there = refl;
  no_layout = refl;
  a_comment = refl;
  two_comments = refl;
  hidden_in_comment = refl;
  hidden_backslash = refl;
  comment_in_comment = refl;
  blank_is_a_token = refl;
  sharp_is_a_token = refl;
  blanks_and_line = refl;
  return_and_tab = refl;
  line_takes_the_paren = refl;
  form_feed_is_a_token = refl;
  no_break_space_is_a_token = refl;
  line_to_the_end = refl;
  carriage_return_ends_no_line = refl;
  comment_and_blanks = refl;
  open_comment = refl;
  backslash_hides_the_end = refl;
  backslash_hides_the_paren = refl;
}
