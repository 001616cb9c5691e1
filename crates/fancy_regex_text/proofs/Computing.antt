-- All of the definitions, to be opened at once.
use Rattle.fancy_regex_text.specs.Text.{bytes, strip_prefix, span, span_at_most, split_once}
use Rattle.fancy_regex_text.specs.Layout.{state_after_blank, begins_comment, state_after, ended, skip_layout_from, next_token, skip, layout_step}
use Rattle.fancy_regex_text.specs.Names.{is_name_char, is_name, number, digits, whole_number, signed, named_target, reference}
use Rattle.ucd_derived.specs.Binary.{is_alphabetic}
use Rattle.ucd_table.specs.Rows.{in_ranges, value_in}
use Rattle.ucd_derived.specs.AlphabeticRanges.{alphabetic_ranges}
use Rattle.ucd_category.specs.GeneralCategory.{general_category}
use Rattle.ucd_category.specs.GeneralCategoryRows.{general_category_rows}

unfoldable pub computing : Unit {0}
unfolding bytes strip_prefix span span_at_most split_once state_after_blank begins_comment state_after ended skip_layout_from next_token skip layout_step is_name_char is_name number digits whole_number signed named_target reference is_alphabetic in_ranges value_in alphabetic_ranges general_category general_category_rows
computing = tt
