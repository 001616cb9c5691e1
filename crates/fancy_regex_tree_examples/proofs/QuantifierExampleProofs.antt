-- Each example by computation.
use Rattle.std.specs.Prelude.{refl}
use Rattle.fancy_regex_tree_examples.proofs.Computing.{computing}
use Rattle.fancy_regex_tree_examples.specs.QuantifierExamples.{QuantifierExamples}

pub quantifier_examples : QuantifierExamples
unfolding computing
quantifier_examples = record {
  optional = refl;
  star = refl;
  plus = refl;
  exactly = refl;
  at_least = refl;
  between = refl;
  at_most = refl;
  open_brace = refl;
  comma_alone = refl;
  braces_alone = refl;
  greatest_count = refl;
  past_the_greatest = refl;
  lazy = refl;
  possessive = refl;
  lazy_possessive = refl;
  possessive_braces = refl;
  swapped_greed = refl;
  reversed = refl;
  reversed_oniguruma = refl;
  reversed_lazy_oniguruma = refl;
  second_braces = refl;
  second_braces_oniguruma = refl;
  plus_after_braces_oniguruma = refl;
  plus_after_lazy_braces_oniguruma = refl;
  possessive_oniguruma = refl;
  five_oniguruma = refl;
  sixth_oniguruma = refl;
  no_atom = refl;
  no_atom_braces = refl;
  lazy_star_and_blank_plus_oniguruma = refl;
  flags_in_empty_group_oniguruma = refl;
  six_on_empty_group_oniguruma = refl;
  no_atom_oniguruma = refl;
  on_assertion = refl;
  on_look_around = refl;
  on_empty_group = refl;
  on_flags = refl;
  on_assertion_in_group = refl;
  on_empty_capturing = refl;
  empty_group_oniguruma = refl;
  empty_capturing_oniguruma = refl;
  on_keep_out = refl;
  target_before_open_comment = refl;
}
