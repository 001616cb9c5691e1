-- The definitions of printing, to be unfolded together.
use Rattle.std.specs.Fmt.{digits}
use Rattle.fancy_regex_lex.proofs.Computing.{computing}
use Rattle.fancy_regex_tree.specs.Printed.{escaped_char, escaped, group_start, group_end, in_group, case_start, with_case, dot_text, start_line_text, end_line_text, assertion_text, braces_text, bounds_text, quantifier_text, bar, printed, printed_pieces, printed_branches, later_branches}
use Rattle.fancy_regex_tree.specs.NormalForm.{whole_class, whole_escape, class_alone, node_kind, with_piece, row_of, normal_form, normal_pieces, normal_branches}
use Rattle.fancy_regex_tree.specs.Printable.{can_be_repeated, is_printable_assertion, is_one_character, has_two_branches, is_printable, are_printable, is_same_class, classes_read_back, all_classes_read_back, assertion_levels, printed_levels, most_levels, reprints}

unfoldable pub printing : Unit {0}
unfolding computing digits escaped_char escaped group_start group_end in_group case_start with_case dot_text start_line_text end_line_text assertion_text braces_text bounds_text quantifier_text bar printed printed_pieces printed_branches later_branches whole_class whole_escape class_alone node_kind with_piece row_of normal_form normal_pieces normal_branches can_be_repeated is_printable_assertion is_one_character has_two_branches is_printable are_printable is_same_class classes_read_back all_classes_read_back assertion_levels printed_levels most_levels reprints
printing = tt
