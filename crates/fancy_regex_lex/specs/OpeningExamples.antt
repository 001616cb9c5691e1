-- Worked examples: open parentheses.
use Rattle.std.specs.Prelude.{◌≡◌, ℕ, true, Ok, Err, codes, None, Some, pos, negsuc}
use Prim.Native.String.{String}
use Rattle.fancy_regex_text.specs.ParseFault.{Kind, unclosed_open_paren, unknown_flag, invalid_group_name}
use Rattle.fancy_regex_text.specs.Names.{by_number, by_name, relative}
use Rattle.fancy_regex_lex.specs.FlagExamples.{no_flags}
use Rattle.fancy_regex_lex.specs.Openings.{Opening, capturing, non_capturing, set_flags, atomic, look, if_set, if_matches, define, absent, absent_bar, whole_reference, whole_call, whole_verb, opening}
use Rattle.fancy_regex_lex.specs.declared.token.Look.TheVariants.{Ahead, AheadNeg, Behind, BehindNeg}
use Rattle.fancy_regex_lex.specs.declared.token.Verb.TheVariants.{Fail, Accept, Commit, Skip, Prune}

abbrev pub Opens : String → Opening → String → Type 0
Opens s how rest = opening true no_flags (codes s) ≡ Ok (how, codes rest)

abbrev pub OpensNothing : String → Kind → ℕ → Type 0
OpensNothing s kind left = opening true no_flags (codes s) ≡ Err (record { kind = kind; left = left })

pub record OpeningExamples : Type 0 where
  pub capturing_group : Opens "(a)" (capturing None) "a)"
  pub named_group : Opens "(?<n>a)" (capturing (Some (codes "n"))) "a)"
  pub python_named_group : Opens "(?P<n>a)" (capturing (Some (codes "n"))) "a)"
  pub accented : Opens "(?<é>a)" (capturing (Some (codes "é"))) "a)"
  pub digit_name : Opens "(?<1>a)" (capturing (Some (codes "1"))) "a)"
  pub bare_group : Opens "(?:a)" (non_capturing no_flags) "a)"
  pub flags_and_body : Opens "(?i:a)" (non_capturing (record no_flags { casei = true })) "a)"
  pub flags_alone : Opens "(?i)a" (set_flags (record no_flags { casei = true })) "a"
  pub no_flags_at_all : Opens "(?)" (set_flags no_flags) ""
  pub atomic_group : Opens "(?>a)" atomic "a)"
  pub look_ahead : Opens "(?=a)" (look Ahead) "a)"
  pub look_ahead_neg : Opens "(?!a)" (look AheadNeg) "a)"
  pub look_behind : Opens "(?<=a)" (look Behind) "a)"
  pub look_behind_neg : Opens "(?<!a)" (look BehindNeg) "a)"
  pub if_group : Opens "(?(1)b)" (if_set (by_number 1) None) "b)"
  pub if_level : Opens "(?(1+0)b)" (if_set (by_number 1) (Some (pos 0))) "b)"
  pub if_name : Opens "(?(<n>)b)" (if_set (by_name (codes "n")) None) "b)"
  pub if_relative : Opens "(?(<-1>)b)" (if_set (relative (negsuc 0)) None) "b)"
  pub if_quoted_name_level : Opens "(?('n-1')b)" (if_set (by_name (codes "n")) (Some (negsuc 0))) "b)"
  pub if_expression : Opens "(?(a)b)" if_matches "a)b)"
  pub if_digits_and_letter : Opens "(?(1a)b)" if_matches "1a)b)"
  pub if_look_ahead : Opens "(?(?=a)b)" if_matches "?=a)b)"
  pub if_name_open : Opens "(?(<a)b)" if_matches "<a)b)"
  pub if_name_and_letter : Opens "(?(<a>c)b)" if_matches "<a>c)b)"
  pub if_no_name : Opens "(?(<>)b)" if_matches "<>)b)"
  pub if_at_the_end : Opens "(?(1" if_matches "1"
  pub if_nothing : Opens "(?()" if_matches ")"
  pub if_plus : Opens "(?(+1)a)" if_matches "+1)a)"
  pub definitions : Opens "(?(DEFINE)(a))" define "(a))"
  pub other_word : Opens "(?(DEFIN)a)" if_matches "DEFIN)a)"
  pub absent_repeater : Opens "(?~a)" absent "a)"
  pub absent_with_bar : Opens "(?~|a|b)" absent_bar "a|b)"
  pub verb_fail : Opens "(*FAIL)a" (whole_verb Fail) "a"
  pub verb_accept : Opens "(*ACCEPT)" (whole_verb Accept) ""
  pub verb_commit : Opens "(*COMMIT)" (whole_verb Commit) ""
  pub verb_skip : Opens "(*SKIP)" (whole_verb Skip) ""
  pub verb_prune : Opens "(*PRUNE)" (whole_verb Prune) ""
  pub verb_unknown : Opens "(*F)" (capturing None) "*F)"
  pub python_reference : Opens "(?P=n)a" (whole_reference (by_name (codes "n")) None) "a"
  pub python_level : Opens "(?P=n+1)" (whole_reference (by_name (codes "n")) (Some (pos 1))) ""
  pub python_call : Opens "(?P>n)" (whole_call (by_name (codes "n"))) ""
  pub python_call_level : OpensNothing "(?P>n+1)" invalid_group_name 8
  pub python_open : OpensNothing "(?P=n" invalid_group_name 5
  pub open_P : OpensNothing "(?P" (unknown_flag (codes "(?P")) 3
  pub other_P : OpensNothing "(?Pi)" (unknown_flag (codes "(?P")) 5
  pub quoted_name : OpensNothing "(?'n'a)" (unknown_flag (codes "(?'")) 7
  pub open_angle : OpensNothing "(?<" invalid_group_name 3
  pub name_empty : OpensNothing "(?<>a)" invalid_group_name 6
  pub name_open : OpensNothing "(?<a" invalid_group_name 4
  pub name_ill_formed : OpensNothing "(?P<a-b>c)" invalid_group_name 10
  pub currency : OpensNothing "(?<€>a)" invalid_group_name 9
  pub open_flags : OpensNothing "(?i" unclosed_open_paren 0
  pub bare_question : OpensNothing "(?" unclosed_open_paren 0
