-- Each example by computation.
use Rattle.std.specs.Prelude.{refl}
use Rattle.fancy_regex_tree_examples.proofs.ParseComputing.{parse_computing}
use Rattle.fancy_regex_tree_examples.specs.ReferenceSummaryExamples.{ReferenceSummaryExamples}

pub reference_summary_examples : ReferenceSummaryExamples
unfolding parse_computing
reference_summary_examples = record {
  three_groups = refl;
  a_back_reference = refl;
  a_condition = refl;
  group_zero = refl;
  above_the_total = refl;
  a_call_is_none = refl;
  no_calls = refl;
  one_call = refl;
  one_unresolved_call = refl;
  above = refl;
  call_above = refl;
  not_above = refl;
  whole_called = refl;
  group_called = refl;
  number_among_names = refl;
  condition_among_names = refl;
  call_among_names = refl;
  relative_among_names = refl;
  whole_among_names = refl;
  names_among_names = refl;
  numbers_alone = refl;
  not_ignoring = refl;
}
