-- Each example by computation.
use Rattle.std.specs.Prelude.{refl}
use Rattle.fancy_regex_tree_examples.proofs.Computing.{computing}
use Rattle.fancy_regex_tree_examples.specs.ErrorExamples.{ErrorExamples}

pub error_examples : ErrorExamples
unfolding computing
error_examples = record {
  unknown_escape = refl;
  backslash_hides_the_end = refl;
  open_paren = refl;
  last_backslash = refl;
  open_class = refl;
  open_class_in_group = refl;
  two_stars = refl;
  as_many_levels_as_may_be = refl;
  one_level_more = refl;
  closes_nothing = refl;
  non_capturing_counts = refl;
  comment_does_not_count = refl;
}
