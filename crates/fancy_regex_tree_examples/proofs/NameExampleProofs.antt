-- Each example by computation.
use Rattle.std.specs.Prelude.{refl}
use Rattle.fancy_regex_tree_examples.proofs.ParseComputing.{parse_computing}
use Rattle.fancy_regex_tree_examples.specs.NameExamples.{NameExamples}

pub name_examples : NameExamples
unfolding parse_computing
name_examples = record {
  accented = refl;
  superscript = refl;
  roman_number = refl;
  digit_first = refl;
  currency = refl;
  at_a_distance = refl;
  dates = refl;
  balanced = refl;
  defined_digit = refl;
  word_between_boundaries = refl;
  word_between_signs = refl;
  atomic_and_look = refl;
  quite_long = refl;
  many_branches = refl;
}
