-- Examples: groups, look-around, conditionals, absent operators and control verbs.
use Rattle.std.specs.Prelude.{None, Some, codes, false, negsuc, pos, true, ◌∷◌, []}
use Rattle.fancy_regex_text.specs.ParseFault.{changing_unicode_mode_unsupported, general_parse_error, invalid_group_name, target_not_repeatable, unclosed_open_paren, unknown_flag}
use Rattle.fancy_regex_tree_examples.specs.PatternNotation.{ParsesAs, FailsWith, ch, concat_of, list_of_chars_in_a_row, no_options, alt_of, unicode_only}
use Rattle.fancy_regex_tree.specs.Tree.{absent_clear, absent_expression, absent_repeater, absent_stopper, any, ast_condition, ast_group, atomic_group, by_name, by_number, conditional, define_group, empty, literal, look_around, verb}
use Rattle.fancy_regex_tree.specs.declared.expr.BacktrackingControlVerb.TheVariants.{Accept, Commit, Fail, Prune, Skip}
use Rattle.fancy_regex_tree.specs.declared.expr.LookAround.TheVariants.{LookAhead, LookAheadNeg, LookBehind, LookBehindNeg}

pub record GroupExamples : Type 0 where
  pub capturing_group : ParsesAs unicode_only "(a)" (ast_group None (ch "a") 0)
  pub named_group : ParsesAs unicode_only "(?<n>a)" (ast_group (Some (codes "n")) (ch "a") 0)
  pub python_named_group : ParsesAs unicode_only "(?P<n>a)" (ast_group (Some (codes "n")) (ch "a") 0)
  pub body_itself : ParsesAs unicode_only "(?:ab)c" (concat_of (concat_of (ch "a" ∷ ch "b" ∷ []) ∷ ch "c" ∷ []))
  pub flags_in_group : ParsesAs unicode_only "(?i:a)b" (concat_of (literal (codes "a") true ∷ ch "b" ∷ []))
  pub flags_restored : ParsesAs unicode_only "(?:(?i)a)b" (concat_of (literal (codes "a") true ∷ ch "b" ∷ []))
  pub flags_not_restored : ParsesAs unicode_only "((?i)a)b" (concat_of (ast_group None (literal (codes "a") true) 0 ∷ literal (codes "b") true ∷ []))
  pub flags_in_later_branches : ParsesAs unicode_only "a(?i)|b" (alt_of (ch "a" ∷ literal (codes "b") true ∷ []))
  pub set_and_cleared : ParsesAs unicode_only "(?is-i)a." (concat_of (ch "a" ∷ any true false ∷ []))
  pub no_flags_at_all : ParsesAs unicode_only "(?)(?-)" (empty)
  pub unicode_as_set : ParsesAs unicode_only "(?u)a" (ch "a")
  pub unicode_cleared_as_set : ParsesAs no_options "(?-u)a" (ch "a")
  pub unicode_against : FailsWith no_options "(?u)a" changing_unicode_mode_unsupported 0
  pub unicode_cleared_against : FailsWith unicode_only "a(?i-u)" changing_unicode_mode_unsupported 1
  pub unknown_letter : FailsWith unicode_only "(?q)" (unknown_flag (codes "(?q")) 0
  pub unknown_after_known : FailsWith unicode_only "a(?im!" (unknown_flag (codes "(?im!")) 1
  pub second_minus : FailsWith unicode_only "(?i-m-s)" (unknown_flag (codes "(?i-m-")) 0
  pub quoted_name : FailsWith unicode_only "(?'n'a)" (unknown_flag (codes "(?'")) 0
  pub open_flags : FailsWith unicode_only "(?i" unclosed_open_paren 3
  pub bare_question : FailsWith unicode_only "(?" unclosed_open_paren 2
  pub atomic_group_row : ParsesAs unicode_only "(?>a)" (atomic_group (ch "a"))
  pub look_ahead : ParsesAs unicode_only "(?=a)" (look_around (ch "a") LookAhead)
  pub look_ahead_neg : ParsesAs unicode_only "(?!a)" (look_around (ch "a") LookAheadNeg)
  pub look_behind : ParsesAs unicode_only "(?<=a)" (look_around (ch "a") LookBehind)
  pub look_behind_neg : ParsesAs unicode_only "(?<!a)" (look_around (ch "a") LookBehindNeg)
  pub if_group : ParsesAs unicode_only "(a)(?(1)b|c)" (concat_of (ast_group None (ch "a") 0 ∷ conditional (ast_condition (by_number 1) None 3) (ch "b") (ch "c") ∷ []))
  pub if_without_else : ParsesAs unicode_only "(?(1)b)" (conditional (ast_condition (by_number 1) None 0) (ch "b") empty)
  pub if_three : ParsesAs unicode_only "(?(1)b|c|d)" (conditional (ast_condition (by_number 1) None 0) (ch "b") (alt_of (ch "c" ∷ ch "d" ∷ [])))
  pub bare_condition : ParsesAs unicode_only "(?(1))" (ast_condition (by_number 1) None 0)
  pub two_empty_branches_of_if : ParsesAs unicode_only "(?(1)|)" (conditional (ast_condition (by_number 1) None 0) empty empty)
  pub if_level : ParsesAs unicode_only "(?(1+0)b)" (conditional (ast_condition (by_number 1) (Some (pos 0)) 0) (ch "b") empty)
  pub if_name : ParsesAs unicode_only "(?<n>a)(?(<n>)b)" (concat_of (ast_group (Some (codes "n")) (ch "a") 0 ∷ conditional (ast_condition (by_name (codes "n")) None 7) (ch "b") empty ∷ []))
  pub if_quoted_name_level : ParsesAs unicode_only "(?<n>a)(?('n-1')b)" (concat_of (ast_group (Some (codes "n")) (ch "a") 0 ∷ conditional (ast_condition (by_name (codes "n")) (Some (negsuc 0)) 7) (ch "b") empty ∷ []))
  pub if_expression : ParsesAs unicode_only "(?(a)b|c)" (conditional (ch "a") (ch "b") (ch "c"))
  pub if_expression_of_branches : ParsesAs unicode_only "(?(a|b)c)" (conditional (alt_of (ch "a" ∷ ch "b" ∷ [])) (ch "c") empty)
  pub if_digits_and_letter : ParsesAs unicode_only "(?(1a)b)" (conditional (concat_of (ch "1" ∷ ch "a" ∷ [])) (ch "b") empty)
  pub if_expression_alone : FailsWith unicode_only "a(?(b))" (general_parse_error (codes "condition without branches")) 1
  pub if_open : FailsWith unicode_only "(?(a)" unclosed_open_paren 5
  pub if_look_ahead_needs_its_own : FailsWith unicode_only "(?(?=a)b)" target_not_repeatable 3
  pub if_name_open : ParsesAs unicode_only "(?(<a)b)" (conditional (concat_of (ch "<" ∷ ch "a" ∷ [])) (ch "b") empty)
  pub if_name_and_letter : ParsesAs unicode_only "(?(<a>c)b)" (conditional (list_of_chars_in_a_row "<a>c") (ch "b") empty)
  pub if_name_at_the_end : FailsWith unicode_only "(?(<a" unclosed_open_paren 5
  pub if_empty_condition : FailsWith unicode_only "(?()" unclosed_open_paren 4
  pub if_plus : FailsWith unicode_only "(?(+1)a)" target_not_repeatable 3
  pub open_P : FailsWith unicode_only "(?P" (unknown_flag (codes "(?P")) 0
  pub open_angle : FailsWith unicode_only "a(?<" invalid_group_name 1
  pub condition_flags_go_on : ParsesAs unicode_only "(?((?i)a)b)" (conditional (literal (codes "a") true) (literal (codes "b") true) empty)
  pub condition_flags_alone : ParsesAs unicode_only "(?(1)(?i))" (conditional (ast_condition (by_number 1) None 0) empty empty)
  pub condition_comment_alone : ParsesAs unicode_only "(?(1)(?#c))" (ast_condition (by_number 1) None 0)
  pub first_letter_first : FailsWith no_options "(?uq)" changing_unicode_mode_unsupported 0
  pub clear_after_comment : ParsesAs unicode_only "(?~|(?#c))" (absent_clear)
  pub stopper_of_nothing : ParsesAs unicode_only "(?~|(?:))" (absent_stopper empty)
  pub definitions : ParsesAs unicode_only "(?(DEFINE)(a))" (define_group (ast_group None (ch "a") 10))
  pub no_definitions : ParsesAs unicode_only "(?(DEFINE))" (define_group empty)
  pub absent_repeater_row : ParsesAs unicode_only "(?~ab)" (absent_repeater (concat_of (ch "a" ∷ ch "b" ∷ [])))
  pub absent_expression_row : ParsesAs unicode_only "(?~|a|b)" (absent_expression (ch "a") (ch "b"))
  pub absent_expression_branches : ParsesAs unicode_only "(?~|a|b|c)" (absent_expression (ch "a") (alt_of (ch "b" ∷ ch "c" ∷ [])))
  pub absent_nothing : ParsesAs unicode_only "(?~||b)" (absent_expression empty (ch "b"))
  pub absent_stopper_row : ParsesAs unicode_only "(?~|a)" (absent_stopper (ch "a"))
  pub absent_clear_row : ParsesAs unicode_only "(?~|)" (absent_clear)
  pub verb_fail : ParsesAs unicode_only "(*FAIL)" (verb Fail)
  pub verb_accept : ParsesAs unicode_only "(*ACCEPT)" (verb Accept)
  pub verb_commit : ParsesAs unicode_only "(*COMMIT)" (verb Commit)
  pub verb_skip : ParsesAs unicode_only "(*SKIP)" (verb Skip)
  pub verb_prune : ParsesAs unicode_only "(*PRUNE)" (verb Prune)
  pub verb_unknown : FailsWith unicode_only "a(*F)" target_not_repeatable 2
  pub name_empty : FailsWith unicode_only "(?<>a)" invalid_group_name 0
  pub name_open : FailsWith unicode_only "b(?<a" invalid_group_name 1
  pub name_ill_formed : FailsWith unicode_only "(?P<a-b>c)" invalid_group_name 0
  pub open_group_in_group : FailsWith unicode_only "((a)" unclosed_open_paren 4
  pub leak_from_look_around : ParsesAs unicode_only "(?=(?i)a)b" (concat_of (look_around (literal (codes "a") true) LookAhead ∷ literal (codes "b") true ∷ []))
