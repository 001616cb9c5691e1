-- Worked examples: names, numbers and references.
use Rattle.std.specs.Prelude.{◌≡◌, Bool, true, false, codes, None, Some, pos, negsuc}
use Prim.Native.String.{String}
use Rattle.fancy_regex_text.specs.Text.{unbounded}
use Rattle.fancy_regex_text.specs.Names.{Referred, by_number, by_name, relative, is_name, reference, digits}

abbrev pub Refers : String → Referred → Type 0
Refers s r = reference true (codes s) ≡ Some r

abbrev pub RefersToNothing : Bool → String → Type 0
RefersToNothing allow_level s = reference allow_level (codes s) ≡ None

abbrev pub IsName : Bool → String → Type 0
IsName answer s = is_name (codes s) ≡ answer

pub record NameExamples : Type 0 where
  pub accented : IsName true "é"
  pub superscript : IsName true "²"
  pub roman_number : IsName true "Ⅷ"
  pub other_digits : IsName true "३"
  pub digit_first : IsName true "1_a"
  pub underscore : IsName true "_"
  pub currency : IsName false "€"
  pub minus : IsName false "a-b"
  pub no_name : IsName false ""
  pub a_number : Refers "1" (by_number 1, None)
  pub leading_zeros : Refers "007" (by_number 7, None)
  pub past_the_type : Refers "18446744073709551616" (by_number unbounded, None)
  pub a_name : Refers "a1" (by_name (codes "a1"), None)
  pub number_and_letter : Refers "1a" (by_name (codes "1a"), None)
  pub other_digits_are_a_name : Refers "३" (by_name (codes "३"), None)
  pub two_before : Refers "-2" (relative (negsuc 1), None)
  pub one_after : Refers "+1" (relative (pos 1), None)
  pub none_before : Refers "-0" (relative (pos 0), None)
  pub number_and_level : Refers "1+2" (by_number 1, Some (pos 2))
  pub name_and_level : Refers "a-1" (by_name (codes "a"), Some (negsuc 0))
  pub level_past_the_type : Refers "1-9223372036854775809" (by_number 1, Some (negsuc 9223372036854775807))
  pub level_at_the_other_end : Refers "1+9223372036854775808" (by_number 1, Some (pos 9223372036854775807))
  pub level_where_none_may_stand : RefersToNothing false "1+0"
  pub level_after_relative : RefersToNothing true "-1+0"
  pub nothing_at_all : RefersToNothing true ""
  pub minus_alone : RefersToNothing true "-"
  pub sign_and_letter : RefersToNothing true "+a"
  pub level_of_no_number : RefersToNothing true "a+b"
  pub two_signs : RefersToNothing true "a+-1"
  pub blank : RefersToNothing true " a"
  pub numbers : digits (codes "12a") ≡ (Some 12, codes "a")
  pub no_numbers : digits (codes "a") ≡ (None, codes "a")
