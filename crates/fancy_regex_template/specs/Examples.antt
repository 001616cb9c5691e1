-- Worked examples: templates and their parts, expansions, faults and escaped texts.
use Rattle.std.specs.Prelude.{◌≡◌, ◌==◌, true, false, List, [], ◌∷◌, codes, Option, Some, None, if◌then◌else◌}
use Prim.Native.String.{String}
use Rattle.fancy_regex_template.specs.Parts.{Part, literal, doubled_sign, named, numbered, loose_sign, parts}
use Rattle.fancy_regex_template.specs.Expansion.{Texts, expansion, escaped}
use Rattle.fancy_regex_template.specs.Faults.{TemplateFault, begins_nothing, named_backref_only, invalid_backref, invalid_group_name_backref, Groups, first_fault}
use Rattle.fancy_regex_template.specs.PatternEscape.{escaped_pattern}
use Rattle.fancy_regex_template.specs.declared.syntax.TemplateSyntax.{TemplateSyntax}
use Rattle.fancy_regex_template.specs.declared.syntax.TemplateSyntax.TheVariants.{Dollar, Python}

abbrev pub IsCut : TemplateSyntax → String → List Part → Type 0
IsCut syntax template ps = parts syntax (codes template) ≡ ps

-- the texts of a match of `(a)`, where group 2 does not exist
abbrev pub one_group : Texts
one_group = record { by_name = λ name. None; by_number = λ n. if n == 0 then Some (codes "a") else if n == 1 then Some (codes "a") else None }

abbrev pub Expands : TemplateSyntax → String → String → Type 0
Expands syntax template text = expansion syntax one_group (codes template) ≡ codes text

-- the groups of `(a)`, and those of `(?<n>a)`
abbrev pub unnamed : Groups
unnamed = record { contains_name = λ name. false; has_names = false; count = 2 }

abbrev pub with_names : Groups
with_names = record { contains_name = λ name. false; has_names = true; count = 2 }

abbrev pub HasFault : Groups → String → Option TemplateFault → Type 0
HasFault groups template fault = first_fault groups (parts Dollar (codes template)) ≡ fault

pub record TemplateExamples : Type 0 where
  pub two_names : IsCut Dollar "${first}_$second" (named (codes "first") ∷ literal (codes "_") ∷ named (codes "second") ∷ [])
  pub longest_name : IsCut Dollar "$1a" (named (codes "1a") ∷ [])
  pub enclosed_name : IsCut Dollar "${1}a" (named (codes "1") ∷ literal (codes "a") ∷ [])
  pub sign_at_the_end : IsCut Dollar "x$" (literal (codes "x") ∷ loose_sign ∷ [])
  pub two_signs : IsCut Dollar "$$1" (doubled_sign ∷ literal (codes "1") ∷ [])
  pub three_signs : IsCut Dollar "$$$a" (doubled_sign ∷ named (codes "a") ∷ [])
  pub no_name_enclosed : IsCut Dollar "${}" (loose_sign ∷ literal (codes "{}") ∷ [])
  pub open_bracket : IsCut Dollar "${a" (loose_sign ∷ literal (codes "{a") ∷ [])
  pub sign_enclosed : IsCut Dollar "${-1}" (loose_sign ∷ literal (codes "{-1}") ∷ [])
  pub python_name : IsCut Python "\\g<1>-\\10\\\\" (named (codes "1") ∷ literal (codes "-") ∷ numbered 10 ∷ doubled_sign ∷ [])
  pub python_bare_name : IsCut Python "\\a" (loose_sign ∷ literal (codes "a") ∷ [])
  pub python_open_bracket : IsCut Python "\\g<a" (loose_sign ∷ literal (codes "g<a") ∷ [])
  pub python_greatest_number : IsCut Python "\\18446744073709551615" (numbered 18446744073709551615 ∷ [])
  pub python_number_that_fits : IsCut Python "\\18446744073709551616" (numbered 1844674407370955161 ∷ literal (codes "6") ∷ [])
  pub python_dollar : IsCut Python "$1" (literal (codes "$1") ∷ [])
  pub python_expansion : Expands Python "\\g<1>-\\10\\\\" "a-\\"
  pub unknown_name : Expands Dollar "<$1a>" "<>"
  pub number_by_name : Expands Dollar "<${1}a>" "<aa>"
  pub sign_stays : Expands Dollar "x$" "x$"
  pub name_not_there : HasFault unnamed "$x" (Some (invalid_group_name_backref (codes "x")))
  pub number_beside_names : HasFault with_names "$1" (Some named_backref_only)
  pub whole_match_beside_names : HasFault with_names "$0" None
  pub number_not_there : HasFault unnamed "$1$2" (Some (invalid_backref 2))
  pub number_past_the_type : HasFault unnamed "$18446744073709551616" (Some (invalid_group_name_backref (codes "18446744073709551616")))
  pub fault_from_the_left : HasFault unnamed "a$ $x" (Some begins_nothing)
  pub escaped_sign : escaped Dollar (codes "Has a literal $ sign.") ≡ codes "Has a literal $$ sign."
  pub escaped_dot : escaped_pattern (codes "a.b") ≡ codes "a\\.b"
  pub nothing_to_escape : escaped_pattern (codes "a\nb") ≡ codes "a\nb"
  pub escaped_newline : escaped_pattern (codes "#\n\t\r") ≡ codes "\\#\\n\\t\\r"
