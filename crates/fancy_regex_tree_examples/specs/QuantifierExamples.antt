-- Examples: quantifiers.
use Rattle.std.specs.Prelude.{None, false, true, ◌∷◌, []}
use Rattle.fancy_regex_text.specs.ParseFault.{recursion_exceeded, target_not_repeatable}
use Rattle.fancy_regex_text.specs.Text.{unbounded}
use Rattle.fancy_regex_tree_examples.specs.PatternNotation.{ParsesAs, FailsWith, ch, concat_of, in_oniguruma_mode, list_of_chars, unicode_only}
use Rattle.fancy_regex_tree.specs.Tree.{ast_group, atomic_group, empty, keep_out, repeat}

pub record QuantifierExamples : Type 0 where
  pub optional : ParsesAs unicode_only "a?" (repeat (ch "a") 0 1 true)
  pub star : ParsesAs unicode_only "a*" (repeat (ch "a") 0 unbounded true)
  pub plus : ParsesAs unicode_only "a+" (repeat (ch "a") 1 unbounded true)
  pub exactly : ParsesAs unicode_only "a{2}" (repeat (ch "a") 2 2 true)
  pub at_least : ParsesAs unicode_only "a{2,}" (repeat (ch "a") 2 unbounded true)
  pub between : ParsesAs unicode_only "a{2,3}" (repeat (ch "a") 2 3 true)
  pub at_most : ParsesAs unicode_only "a{,2}" (repeat (ch "a") 0 2 true)
  pub open_brace : ParsesAs unicode_only "a{2" (concat_of (ch "a" ∷ ch "{" ∷ ch "2" ∷ []))
  pub comma_alone : ParsesAs unicode_only "a{,}" (concat_of (ch "a" ∷ ch "{" ∷ ch "," ∷ ch "}" ∷ []))
  pub braces_alone : ParsesAs unicode_only "{}" (concat_of (ch "{" ∷ ch "}" ∷ []))
  pub greatest_count : ParsesAs unicode_only "a{18446744073709551614}" (repeat (ch "a") 18446744073709551614 18446744073709551614 true)
  pub past_the_greatest : ParsesAs unicode_only "a{18446744073709551615}" (concat_of (ch "a" ∷ list_of_chars "{18446744073709551615}"))
  pub lazy : ParsesAs unicode_only "a+?" (repeat (ch "a") 1 unbounded false)
  pub possessive : ParsesAs unicode_only "a++" (atomic_group (repeat (ch "a") 1 unbounded true))
  pub lazy_possessive : ParsesAs unicode_only "a+?+" (atomic_group (repeat (ch "a") 1 unbounded false))
  pub possessive_braces : ParsesAs unicode_only "a{2}+" (atomic_group (repeat (ch "a") 2 2 true))
  pub swapped_greed : ParsesAs unicode_only "(?U)a+b+?" (concat_of (repeat (ch "a") 1 unbounded false ∷ repeat (ch "b") 1 unbounded true ∷ []))
  pub reversed : ParsesAs unicode_only "x{3,0}" (repeat (ch "x") 3 0 true)
  pub reversed_oniguruma : ParsesAs in_oniguruma_mode "x{3,0}" (atomic_group (repeat (ch "x") 0 3 true))
  pub reversed_lazy_oniguruma : ParsesAs in_oniguruma_mode "x{3,0}?" (atomic_group (repeat (ch "x") 0 3 false))
  pub second_braces : FailsWith unicode_only "a{1,2}{3}" target_not_repeatable 6
  pub second_braces_oniguruma : ParsesAs in_oniguruma_mode "a{1,2}{3}" (repeat (repeat (ch "a") 1 2 true) 3 3 true)
  pub plus_after_braces_oniguruma : ParsesAs in_oniguruma_mode "x{2}+" (repeat (repeat (ch "x") 2 2 true) 1 unbounded true)
  pub plus_after_lazy_braces_oniguruma : ParsesAs in_oniguruma_mode "x{2}?+" (repeat (repeat (ch "x") 2 2 false) 1 unbounded true)
  pub possessive_oniguruma : ParsesAs in_oniguruma_mode "x*+" (atomic_group (repeat (ch "x") 0 unbounded true))
  pub five_oniguruma : ParsesAs in_oniguruma_mode "a{1}{2}{3}{4}{5}" (repeat (repeat (repeat (repeat (repeat (ch "a") 1 1 true) 2 2 true) 3 3 true) 4 4 true) 5 5 true)
  pub sixth_oniguruma : FailsWith in_oniguruma_mode "a{1}{1}{1}{1}{1}{1}" recursion_exceeded 16
  pub no_atom : FailsWith unicode_only "a|*" target_not_repeatable 2
  pub no_atom_braces : FailsWith unicode_only "({2})" target_not_repeatable 1
  pub lazy_star_and_blank_plus_oniguruma : ParsesAs in_oniguruma_mode "(?x)a*? +" (repeat (repeat (ch "a") 0 unbounded false) 1 unbounded true)
  pub flags_in_empty_group_oniguruma : ParsesAs in_oniguruma_mode "(?:(?i))*" (empty)
  pub six_on_empty_group_oniguruma : FailsWith in_oniguruma_mode "(?:){1}{1}{1}{1}{1}*" recursion_exceeded 19
  pub no_atom_oniguruma : FailsWith in_oniguruma_mode "*" target_not_repeatable 0
  pub on_assertion : FailsWith unicode_only "^*" target_not_repeatable 1
  pub on_look_around : FailsWith unicode_only "(?=a)*" target_not_repeatable 5
  pub on_empty_group : FailsWith unicode_only "(?:)*" target_not_repeatable 4
  pub on_flags : FailsWith in_oniguruma_mode "(?i)*" target_not_repeatable 4
  pub on_assertion_in_group : FailsWith unicode_only "(?:^)*" target_not_repeatable 5
  pub on_empty_capturing : ParsesAs unicode_only "()*" (repeat (ast_group None empty 0) 0 unbounded true)
  pub empty_group_oniguruma : ParsesAs in_oniguruma_mode "a(?:)*+b" (concat_of (ch "a" ∷ ch "b" ∷ []))
  pub empty_capturing_oniguruma : ParsesAs in_oniguruma_mode "()*" (repeat (ast_group None empty 0) 0 unbounded true)
  pub on_keep_out : ParsesAs unicode_only "\\K*" (repeat keep_out 0 unbounded true)
  pub target_before_open_comment : FailsWith unicode_only "^*(?#" target_not_repeatable 1
