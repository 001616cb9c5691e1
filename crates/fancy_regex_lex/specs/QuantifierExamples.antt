-- Worked examples: quantifiers and their suffixes.
use Rattle.std.specs.Prelude.{◌≡◌, ℕ, Bool, true, false, Ok, Err, codes, Some, None}
use Prim.Native.String.{String}
use Rattle.fancy_regex_text.specs.Text.{unbounded}
use Rattle.fancy_regex_text.specs.ParseFault.{unclosed_open_paren}
use Rattle.fancy_regex_lex.specs.Quantifiers.{leading_quantifier, quantifier_suffix, sign}

-- the text starts with a quantifier in braces with these bounds, and this text follows it
abbrev pub Quantifiers : Bool → String → ℕ → ℕ → String → Type 0
Quantifiers verbose s lo hi rest = leading_quantifier verbose (codes s) ≡ Some (record { lo = lo; hi = hi; braces = true }, codes rest)

abbrev pub IsNoQuantifier : Bool → String → Type 0
IsNoQuantifier verbose s = leading_quantifier verbose (codes s) ≡ None

-- the suffix of a quantifier, in braces or not, in Oniguruma mode or not, under the flag x
abbrev pub AreMarked : Bool → Bool → String → Bool → Bool → String → Type 0
AreMarked oniguruma braces s lazy possessive rest =
    quantifier_suffix oniguruma true braces (codes s) ≡ Ok (record { lazy = lazy; possessive = possessive }, codes rest)

pub record QuantifierExamples : Type 0 where
  pub optional : leading_quantifier false (codes "?a") ≡ Some (sign 0 1, codes "a")
  pub star : leading_quantifier false (codes "*") ≡ Some (sign 0 unbounded, codes "")
  pub plus : leading_quantifier false (codes "+?") ≡ Some (sign 1 unbounded, codes "?")
  pub exactly : Quantifiers false "{2}" 2 2 ""
  pub at_least : Quantifiers false "{2,}+" 2 unbounded "+"
  pub between : Quantifiers false "{2,3}" 2 3 ""
  pub at_most : Quantifiers false "{,2}" 0 2 ""
  pub reversed : Quantifiers false "{3,0}" 3 0 ""
  pub open_brace : IsNoQuantifier false "{2"
  pub open_range : IsNoQuantifier false "{2,"
  pub comma_alone : IsNoQuantifier false "{,}"
  pub braces_alone : IsNoQuantifier false "{}"
  pub letter_in_braces : IsNoQuantifier false "{2a}"
  pub sign_in_braces : IsNoQuantifier false "{-2}"
  pub greatest_count : Quantifiers false "{18446744073709551614}" 18446744073709551614 18446744073709551614 ""
  pub past_the_greatest : IsNoQuantifier false "{18446744073709551615}"
  pub second_past_the_greatest : IsNoQuantifier false "{1,18446744073709551615}"
  pub far_past_the_greatest : IsNoQuantifier false "{99999999999999999999999,}"
  pub letter : IsNoQuantifier false "a"
  pub nothing_there : IsNoQuantifier false ""
  pub in_braces : Quantifiers true "{ 1 , 2 }" 1 2 ""
  pub comment_in_braces : Quantifiers false "{1(?#c),2}" 1 2 ""
  pub blank_in_braces_without_x : IsNoQuantifier false "{1 }"
  pub blank_in_number : IsNoQuantifier true "{1 2}"
  pub open_comment_in_braces : IsNoQuantifier false "{1(?#b"
  pub no_mark : AreMarked false true "a" false false "a"
  pub lazy : AreMarked false true "?a" true false "a"
  pub possessive : AreMarked false true "+a" false true "a"
  pub both_marks : AreMarked false true "?++" true true "+"
  pub possessive_first : AreMarked false true "+?" false true "?"
  pub blanks_before : AreMarked false false " ?" true false ""
  pub comment_before : AreMarked false false "(?#c)+" false true ""
  pub not_after_the_lazy_mark : AreMarked false false "? +" true false " +"
  pub braces_oniguruma : AreMarked true true "+" false false "+"
  pub lazy_braces_oniguruma : AreMarked true true "?+" true false "+"
  pub sign_oniguruma : AreMarked true false "+" false true ""
  pub open_comment_before : quantifier_suffix false false false (codes "(?#c") ≡ Err (record { kind = unclosed_open_paren; left = 0 })
