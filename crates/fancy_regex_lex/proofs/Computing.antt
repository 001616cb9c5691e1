-- All of the definitions, to be opened at once.
use Rattle.fancy_regex_text.specs.Text.{bytes, strip_prefix, span, span_at_most, split_once}
use Rattle.fancy_regex_text.specs.Layout.{state_after_blank, begins_comment, state_after, ended, skip_layout_from, next_token, skip, layout_step}
use Rattle.fancy_regex_text.specs.Names.{is_name_char, is_name, number, digits, whole_number, signed, named_target, reference}
use Rattle.fancy_regex_lex.specs.Escapes.{control_letter, class_letter, assertion_letter, other_letter, plain_sign, other_sign, one_letter, code_point, braced_digits, braced_hex, plain_digits, plain_hex, hex, property_class, property, half_boundary, boundary, delimited_reference, bracketed_reference, numbered_reference, single, after_backslash, escape}
use Rattle.fancy_regex_lex.specs.Classes.{quoted, escaped_text, class_escape_at, class_part, nesting_after, class_parts, bracketed_class}
use Rattle.fancy_regex_lex.specs.FlagLetters.{next_letter, closed, flag_letter, flag_letters}
use Rattle.fancy_regex_lex.specs.Quantifiers.{spaced_digits, bounds, no_upper_bound, exactly, range, after_comma, after_number, counted, leading_quantifier, quantifier_suffix}
use Rattle.fancy_regex_lex.specs.Openings.{later_verb, control_verb, named, numbered, bracketed, reference_condition, tested, condition, after_angle, after_tilde, flags, python, after_question, opening}
use Rattle.ucd_derived.specs.Binary.{is_alphabetic}
use Rattle.ucd_table.specs.Rows.{in_ranges, value_in}
use Rattle.ucd_derived.specs.AlphabeticRanges.{alphabetic_ranges}
use Rattle.ucd_category.specs.GeneralCategory.{general_category}
use Rattle.ucd_category.specs.GeneralCategoryRows.{general_category_rows}

unfoldable pub computing : Unit {0}
unfolding is_alphabetic in_ranges value_in alphabetic_ranges general_category general_category_rows bytes strip_prefix span span_at_most split_once state_after_blank begins_comment state_after ended skip_layout_from next_token skip layout_step is_name_char is_name number digits whole_number signed named_target reference control_letter class_letter assertion_letter other_letter plain_sign other_sign one_letter code_point braced_digits braced_hex plain_digits plain_hex hex property_class property half_boundary boundary delimited_reference bracketed_reference numbered_reference single after_backslash escape quoted escaped_text class_escape_at class_part nesting_after class_parts bracketed_class next_letter closed flag_letter flag_letters spaced_digits bounds no_upper_bound exactly range after_comma after_number counted leading_quantifier quantifier_suffix later_verb control_verb named numbered bracketed reference_condition tested condition after_angle after_tilde flags python after_question opening
computing = tt
