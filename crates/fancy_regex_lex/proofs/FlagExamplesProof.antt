-- Each of these rows by computation.
use Rattle.std.specs.Prelude.{refl}
use Rattle.fancy_regex_lex.proofs.Computing.{computing}
use Rattle.fancy_regex_lex.specs.FlagExamples.{FlagExamples}

pub flag_examples : FlagExamples
unfolding computing
flag_examples = record {
  casei = refl;
  multi = refl;
  dot_newline = refl;
  verbose = refl;
  swap_greed = refl;
  crlf = refl;
  every_flag = refl;
  every_flag_cleared = refl;
  set_and_cleared = refl;
  no_letter = refl;
  no_letter_body = refl;
  minus_alone = refl;
  twice = refl;
  unicode_against = refl;
  unicode_cleared_against = refl;
  unknown_letter = refl;
  unknown_after_known = refl;
  not_ascii = refl;
  second_minus = refl;
  first_letter_first = refl;
  other_letter_first = refl;
  open_flags = refl;
  bare_question = refl;
}
