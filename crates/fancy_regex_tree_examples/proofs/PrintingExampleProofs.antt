-- Each example by computation.
use Rattle.std.specs.Prelude.{refl}
use Rattle.fancy_regex_tree_examples.proofs.PrintingComputing.{printing}
use Rattle.fancy_regex_tree_examples.specs.PrintingExamples.{PrintingExamples}

pub printing_examples : PrintingExamples
unfolding printing
printing_examples = record {
  nothing = (refl, refl);
  disregarded_case = (refl, refl);
  lines = (refl, refl);
  lines_of_crlf = (refl, refl);
  text_ends = (refl, refl);
  boundaries = (refl, refl);
  repeated_row = (refl, refl);
  repeated_repeat = (refl, refl);
  lazy = (refl, refl);
  never = (refl, refl);
  optional = (refl, refl);
  some = (refl, refl);
  between = (refl, refl);
  reversed = (refl, refl);
  greatest_count = (refl, refl);
  captured = (refl, refl);
  captured_branches = (refl, refl);
  branches_in_row = (refl, refl);
  branches_in_branches = (refl, refl);
  empty_branch_first = (refl, refl);
  row_in_row = (refl, refl);
  beyond_ascii = (refl, refl);
  ends_of_lines = (refl, refl);
  newline_in_any_case = (refl, refl);
  signs = (refl, refl);
  dots = (refl, refl);
  negated_property = (refl, refl);
  class_in_any_case = (refl, refl);
  groups_62 = refl;
  groups_63 = refl;
  groups_63_print = refl;
  caret_twice = (refl, refl);
  caret_twice_reads = refl;
  caret_twice_stays = refl;
  short_class = refl;
  no_class = refl;
  class_and_more = refl;
  comment_and_class = refl;
  escape_and_more = refl;
  other_escape = refl;
  dot_form = refl;
  row_form = refl;
  no_references = refl;
  no_trailing_newlines = refl;
  no_line_of_oniguruma = refl;
  no_definitions = refl;
  no_general_newline = refl;
  no_single_branch = refl;
  no_two_characters = refl;
  no_repeated_assertion = refl;
  no_repeated_nothing = refl;
  no_endless_count = refl;
  no_other_class = refl;
}
