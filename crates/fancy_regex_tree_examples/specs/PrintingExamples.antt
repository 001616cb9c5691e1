-- Examples: printed texts, and trees that are not printable.
use Rattle.std.specs.Prelude.{◌≡◌, ℕ, zero, suc, true, false, [], ◌∷◌, Some, None, codes}
use Prim.Native.String.{String}
use Rattle.fancy_regex_text.specs.Text.{unbounded}
use Rattle.fancy_regex_tree.specs.Tree.{Tree, trees, empty, any, assertion, general_newline, literal, concat, alt, group, repeat, delegate, backref, define_group}
use Rattle.fancy_regex_tree.specs.Printed.{printed}
use Rattle.fancy_regex_tree.specs.NormalForm.{class_alone, normal_form}
use Rattle.fancy_regex_tree.specs.Printable.{is_printable, reprints}
use Rattle.fancy_regex_tree.specs.declared.expr.Assertion.TheVariants.{StartText, EndText, EndTextIgnoreTrailingNewlines, StartLine, StartLineOniguruma, EndLine, LeftWordBoundary, LeftWordHalfBoundary, RightWordBoundary, RightWordHalfBoundary, WordBoundary, NotWordBoundary}

abbrev pub a : Tree
a = literal (codes "a") false

abbrev pub b : Tree
b = literal (codes "b") false

abbrev pub c : Tree
c = literal (codes "c") false

abbrev pub any_case_a : Tree
any_case_a = literal (codes "a") true

abbrev pub row_ab : Tree
row_ab = concat (trees (a ∷ b ∷ []))

abbrev pub class : String → Tree
class s = delegate (codes s) false

-- the tree in so many capture groups
abbrev pub grouped : ℕ → Tree → Tree
grouped zero t = t
grouped (suc n) t = group (grouped n t)

-- the tree is printable, and this is its text
abbrev pub Prints : Tree → String → Type 0
Prints t s = (is_printable t ≡ true) × (printed 0 t ≡ codes s)

abbrev pub Reprints : Tree → String → Type 0
Reprints t s = (reprints t ≡ true) × (printed 0 t ≡ codes s)

abbrev pub HasNoText : Tree → Type 0
HasNoText t = is_printable t ≡ false

pub record PrintingExamples : Type 0 where
  pub nothing : Reprints empty ""
  pub disregarded_case : Reprints any_case_a "(?i:a)"
  pub lines : Reprints (concat (trees (assertion (StartLine false) ∷ a ∷ assertion (EndLine false) ∷ []))) "(?m:^)a(?m:$)"
  pub lines_of_crlf : Reprints (concat (trees (assertion (StartLine true) ∷ assertion (EndLine true) ∷ []))) "(?Rm:^)(?Rm:$)"
  pub text_ends : Reprints (concat (trees (assertion StartText ∷ assertion EndText ∷ []))) "^$"
  pub boundaries : Reprints (concat (trees (assertion WordBoundary ∷ assertion NotWordBoundary ∷ assertion LeftWordBoundary ∷ assertion RightWordBoundary ∷ assertion LeftWordHalfBoundary ∷ assertion RightWordHalfBoundary ∷ []))) "\\b\\B\\<\\>\\b{start-half}\\b{end-half}"
  pub repeated_row : Reprints (repeat row_ab 0 unbounded true) "(?:ab)*"
  pub repeated_repeat : Reprints (repeat (repeat a 2 2 true) 0 unbounded true) "(?:a{2})*"
  pub lazy : Reprints (repeat a 2 unbounded false) "a{2,}?"
  pub never : Reprints (repeat a 0 0 true) "a{0}"
  pub optional : Reprints (repeat a 0 1 true) "a?"
  pub some : Reprints (repeat a 1 unbounded false) "a+?"
  pub between : Reprints (repeat row_ab 2 3 true) "(?:ab){2,3}"
  pub reversed : Reprints (repeat a 3 0 true) "a{3,0}"
  pub greatest_count : Reprints (repeat a 18446744073709551614 unbounded true) "a{18446744073709551614,}"
  pub captured : Reprints (group a) "(a)"
  pub captured_branches : Reprints (group (alt (trees (a ∷ b ∷ [])))) "(a|b)"
  pub branches_in_row : Reprints (concat (trees (alt (trees (a ∷ b ∷ [])) ∷ c ∷ []))) "(?:a|b)c"
  pub branches_in_branches : Reprints (alt (trees (alt (trees (a ∷ b ∷ [])) ∷ row_ab ∷ []))) "(?:a|b)|ab"
  pub empty_branch_first : Reprints (alt (trees (empty ∷ a ∷ []))) "|a"
  pub row_in_row : Reprints (concat (trees (row_ab ∷ c ∷ []))) "(?:ab)c"
  pub beyond_ascii : Reprints (literal (0xE9 ∷ []) false) "é"
  pub ends_of_lines : Reprints (concat (trees (literal (0x0A ∷ []) false ∷ literal (0x0D ∷ []) false ∷ literal (0x09 ∷ []) false ∷ []))) "\\n\\r\\t"
  pub newline_in_any_case : Reprints (literal (0x0A ∷ []) true) "(?i:\\n)"
  pub signs : Reprints (concat (trees (literal (codes "#") false ∷ literal (codes "}") false ∷ literal (codes "-") false ∷ literal (codes " ") false ∷ []))) "\\#\\}- "
  pub dots : Reprints (concat (trees (any false false ∷ any true false ∷ any false true ∷ []))) ".(?s:.)(?R-s:.)"
  pub negated_property : Reprints (class "\\P{Lu}") "\\P{Lu}"
  pub class_in_any_case : Reprints (delegate (codes "[k]") true) "(?i:[k])"
  pub groups_62 : reprints (grouped 62 any_case_a) ≡ true
  pub groups_63 : reprints (grouped 63 any_case_a) ≡ false
  pub groups_63_print : is_printable (grouped 63 any_case_a) ≡ true
  pub caret_twice : Prints (class "\\P{^Lu}") "\\P{^Lu}"
  pub caret_twice_reads : class_alone (codes "\\P{^Lu}") ≡ Some (codes "\\p{Lu}")
  pub caret_twice_stays : reprints (class "\\P{^Lu}") ≡ false
  pub short_class : normal_form (class "\\h") ≡ class "[0-9A-Fa-f]"
  pub no_class : class_alone (codes "a") ≡ None
  pub class_and_more : class_alone (codes "[a]b") ≡ None
  pub comment_and_class : class_alone (codes "(?#)[a]") ≡ None
  pub escape_and_more : class_alone (codes "\\da") ≡ None
  pub other_escape : class_alone (codes "\\b") ≡ None
  pub dot_form : normal_form (any true true) ≡ any true false
  pub row_form : normal_form (concat (trees (empty ∷ concat (trees []) ∷ concat (trees (a ∷ [])) ∷ []))) ≡ a
  pub no_references : HasNoText (concat (trees (group a ∷ backref 1 false ∷ [])))
  pub no_trailing_newlines : HasNoText (assertion (EndTextIgnoreTrailingNewlines false))
  pub no_line_of_oniguruma : HasNoText (assertion (StartLineOniguruma false))
  pub no_definitions : HasNoText (define_group a)
  pub no_general_newline : HasNoText (general_newline true)
  pub no_single_branch : HasNoText (alt (trees (a ∷ [])))
  pub no_two_characters : HasNoText (literal (codes "ab") false)
  pub no_repeated_assertion : HasNoText (repeat (concat (trees (empty ∷ assertion WordBoundary ∷ []))) 0 1 true)
  pub no_repeated_nothing : HasNoText (repeat (concat (trees [])) 0 1 true)
  pub no_endless_count : HasNoText (repeat a unbounded unbounded true)
  pub no_other_class : HasNoText (class "[a")
