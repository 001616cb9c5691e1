-- The trees of sequences, alternations, anchors, conditionals, absent operators and escapes, as relations.
use Rattle.std.specs.Prelude.{◌≡◌, ◌≢◌, ◌↔◌, ℕ, ℤ, Bool, true, false, List, [], ◌∷◌, Option}
use Rattle.fancy_regex_text.specs.Text.{Text}
use Rattle.fancy_regex_text.specs.Names.{Named}
use Rattle.fancy_regex_lex.specs.Escapes.{Escape, char_escape, byte_escape, class_escape, any_escape, newline_escape, assertion_escape, continue_escape, keep_out_escape, reference_escape, call_escape}
use Rattle.fancy_regex_lex.specs.declared.token.AssertionEscape.{AssertionEscape}
use Rattle.fancy_regex_lex.specs.declared.token.AssertionEscape.TheVariants as places
use Rattle.fancy_regex_lex.specs.declared.token.Flags.{Flags}
use Rattle.fancy_regex_tree.specs.declared.parser_config.ParserConfig.{ParserConfig}
use Rattle.fancy_regex_tree.specs.declared.expr.Assertion.{Assertion}
use Rattle.fancy_regex_tree.specs.declared.expr.Assertion.TheVariants.{StartText, EndText, StartLine, StartLineOniguruma, EndLine, EndTextIgnoreTrailingNewlines, WordBoundary, NotWordBoundary, LeftWordBoundary, RightWordBoundary, LeftWordHalfBoundary, RightWordHalfBoundary}
use Rattle.fancy_regex_tree.specs.Tree.{Tree, trees, empty, any, assertion, general_newline, literal, literal_bytes, delegate, keep_out, continue, concat, alt, conditional, ast_backref, ast_call, absent_clear, absent_stopper, absent_expression}
use Rattle.fancy_regex_tree.specs.TreeBuilders.{branch_of, pattern_of}
use Rattle.fancy_regex_tree.specs.Atoms.{target_named, escape_tree, line_start, line_end}
use Rattle.fancy_regex_tree.specs.Parser.{Branches, make_conditional, conditional_of_branches, absent_bar_of}

-- the pieces without the `Empty` ones
pub data IsWithoutEmpty : List Tree → List Tree → Type 0 where
  none_kept : IsWithoutEmpty [] []
  dropped : {es ds : List Tree} → IsWithoutEmpty es ds → IsWithoutEmpty (empty ∷ es) ds
  kept : {e : Tree} {es ds : List Tree} → e ≢ empty → IsWithoutEmpty es ds → IsWithoutEmpty (e ∷ es) (e ∷ ds)

-- a sequence of pieces
pub data IsConcatenation : List Tree → Tree → Type 0 where
  no_piece : {es : List Tree} → IsWithoutEmpty es [] → IsConcatenation es empty
  one_piece : {es : List Tree} {e : Tree} → IsWithoutEmpty es (e ∷ []) → IsConcatenation es e
  more_pieces : {es ds : List Tree} {d e : Tree} → IsWithoutEmpty es (d ∷ e ∷ ds) → IsConcatenation es (concat (trees (d ∷ e ∷ ds)))

pub data AreConcatenations : Branches → List Tree → Type 0 where
  no_rows : AreConcatenations [] []
  and_row : {b : List Tree} {bs : Branches} {e : Tree} {es : List Tree} → IsConcatenation b e → AreConcatenations bs es → AreConcatenations (b ∷ bs) (e ∷ es)

-- branches separated by `|`
pub data IsAlternation : Branches → Tree → Type 0 where
  one_branch : {b : List Tree} {e : Tree} → IsConcatenation b e → IsAlternation (b ∷ []) e
  more_branches : {b c : List Tree} {bs : Branches} {es : List Tree} → AreConcatenations (b ∷ c ∷ bs) es → IsAlternation (b ∷ c ∷ bs) (alt (trees es))

-- a condition and the branches after it
pub data IsConditional (c : Tree) : Branches → Tree → Type 0 where
  yes_alone : {b : List Tree} {yes : Tree} → IsConcatenation b yes → IsConditional c (b ∷ []) (conditional c yes empty)
  yes_and_others : {b d : List Tree} {bs : Branches} {yes no : Tree} → IsConcatenation b yes → IsAlternation (d ∷ bs) no → IsConditional c (b ∷ d ∷ bs) (conditional c yes no)

-- one branch without a piece
pub data IsEmptyBranch : Branches → Type 0 where
  no_piece_at_all : IsEmptyBranch ([] ∷ [])

-- a conditional whose condition is a reference
pub data IsReferenceConditional (c : Tree) : Branches → Tree → Type 0 where
  condition_alone : {bs : Branches} → IsEmptyBranch bs → IsReferenceConditional c bs c
  with_body : {bs : Branches} {e : Tree} → (IsEmptyBranch bs → ⊥) → IsConditional c bs e → IsReferenceConditional c bs e

-- the absent operators that begin with `(?~|`
pub data IsAbsentBar : Branches → Tree → Type 0 where
  clear : {bs : Branches} → IsEmptyBranch bs → IsAbsentBar bs absent_clear
  stopper : {b : List Tree} {e : Tree} → (IsEmptyBranch (b ∷ []) → ⊥) → IsConcatenation b e → IsAbsentBar (b ∷ []) (absent_stopper e)
  expression : {b d : List Tree} {bs : Branches} {e inside : Tree} → IsConcatenation b e → IsAlternation (d ∷ bs) inside → IsAbsentBar (b ∷ d ∷ bs) (absent_expression e inside)

-- `^`
pub data IsLineStart (p : ParserConfig) (f : Flags) (in_look : Bool) : Tree → Type 0 where
  at_text_start : f.multi ≡ false → IsLineStart p f in_look (assertion StartText)
  in_plain_mode : f.multi ≡ true → p.oniguruma ≡ false → IsLineStart p f in_look (assertion (StartLine f.crlf))
  inside_look_around : f.multi ≡ true → in_look ≡ true → IsLineStart p f in_look (assertion (StartLine f.crlf))
  outside_look_around : f.multi ≡ true → p.oniguruma ≡ true → in_look ≡ false → IsLineStart p f in_look (assertion (StartLineOniguruma f.crlf))

-- `$`
pub data IsLineEnd (f : Flags) : Tree → Type 0 where
  at_text_end : f.multi ≡ false → IsLineEnd f (assertion EndText)
  at_line_end : f.multi ≡ true → IsLineEnd f (assertion (EndLine f.crlf))

-- the assertion of an escape
pub data IsAssertion (f : Flags) : AssertionEscape → Assertion → Type 0 where
  start_of_text : IsAssertion f places.TextStart StartText
  end_of_text : IsAssertion f places.TextEnd EndText
  end_or_newlines : IsAssertion f places.TextEndOrNewlines (EndTextIgnoreTrailingNewlines f.crlf)
  word_boundary : IsAssertion f places.WordBoundary WordBoundary
  not_word_boundary : IsAssertion f places.NotWordBoundary NotWordBoundary
  left_boundary : IsAssertion f places.LeftWordBoundary LeftWordBoundary
  right_boundary : IsAssertion f places.RightWordBoundary RightWordBoundary
  left_half_boundary : IsAssertion f places.LeftWordHalfBoundary LeftWordHalfBoundary
  right_half_boundary : IsAssertion f places.RightWordHalfBoundary RightWordHalfBoundary

-- the tree of an escape whose backslash has this byte position
pub data IsEscapeTree (p : ParserConfig) (f : Flags) (position : ℕ) : Escape → Tree → Type 0 where
  a_character : {c : ℕ} → IsEscapeTree p f position (char_escape c) (literal (c ∷ []) f.casei)
  a_byte : {b : ℕ} → IsEscapeTree p f position (byte_escape b) (literal_bytes (b ∷ []))
  a_class : {t : Text} → IsEscapeTree p f position (class_escape t) (delegate t f.casei)
  any_character : {newline : Bool} → IsEscapeTree p f position (any_escape newline) (any newline false)
  a_newline : IsEscapeTree p f position newline_escape (general_newline p.unicode)
  a_place : {place : AssertionEscape} {a : Assertion} → IsAssertion f place a → IsEscapeTree p f position (assertion_escape place) (assertion a)
  continues : IsEscapeTree p f position continue_escape continue
  keeps_out : IsEscapeTree p f position keep_out_escape keep_out
  a_reference : {target : Named} {level : Option ℤ} →
      IsEscapeTree p f position (reference_escape target level) (ast_backref (target_named target) f.casei level position)
  a_call : {target : Named} → IsEscapeTree p f position (call_escape target) (ast_call (target_named target) position)

-- The functions build exactly these trees; a construct has at least one branch.
pub record ShapesAreExact : Type 0 where
  pub of_row : (es : List Tree) (e : Tree) → (branch_of es ≡ e) ↔ IsConcatenation es e
  pub of_choice : (b : List Tree) (bs : Branches) (e : Tree) → (pattern_of (b ∷ bs) ≡ e) ↔ IsAlternation (b ∷ bs) e
  pub of_conditional : (c : Tree) (b : List Tree) (bs : Branches) (e : Tree) → (conditional_of_branches c (b ∷ bs) ≡ e) ↔ IsConditional c (b ∷ bs) e
  pub of_reference : (c : Tree) (b : List Tree) (bs : Branches) (e : Tree) → (make_conditional c (b ∷ bs) ≡ e) ↔ IsReferenceConditional c (b ∷ bs) e
  pub of_bounds : (b : List Tree) (bs : Branches) (e : Tree) → (absent_bar_of (b ∷ bs) ≡ e) ↔ IsAbsentBar (b ∷ bs) e
  pub of_line_start : (p : ParserConfig) (f : Flags) (in_look : Bool) (e : Tree) → (line_start p f in_look ≡ e) ↔ IsLineStart p f in_look e
  pub of_escape : (p : ParserConfig) (f : Flags) (position : ℕ) (escape : Escape) (e : Tree) →
      (escape_tree p f position escape ≡ e) ↔ IsEscapeTree p f position escape e
  pub of_line_end : (f : Flags) (e : Tree) → (line_end f ≡ e) ↔ IsLineEnd f e
