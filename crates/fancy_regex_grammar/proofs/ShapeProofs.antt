-- The trees of rows, branches, anchors, conditionals and absent operators, as the functions make them.
use Rattle.std.proofs.Common.{◌≡◌, ℕ, Bool, true, false, not, ◌&&◌, List, [], ◌∷◌, refl, sym, ap, ap₂, ◌∙◌, subst, true≢false, if◌then◌else◌}
use Rattle.std.proofs.lemmas.Bool.{false_from_ne_true, and_left, and_right}
use Rattle.fancy_regex_lex.specs.Escapes.{Escape, char_escape, byte_escape, class_escape, any_escape, newline_escape, assertion_escape, continue_escape, keep_out_escape, reference_escape, call_escape}
use Rattle.fancy_regex_lex.specs.declared.token.AssertionEscape.{AssertionEscape}
use Rattle.fancy_regex_lex.specs.declared.token.AssertionEscape.TheVariants as places
use Rattle.fancy_regex_lex.specs.declared.token.Flags.{Flags}
use Rattle.fancy_regex_tree.specs.declared.parser_config.ParserConfig.{ParserConfig}
use Rattle.fancy_regex_tree.specs.declared.expr.Assertion.{Assertion}
use Rattle.fancy_regex_tree.specs.declared.expr.Assertion.TheVariants.{StartText, EndText, StartLine, StartLineOniguruma, EndLine}
use Rattle.fancy_regex_tree.specs.Tree.{Tree, trees, empty, assertion, concat, alt, conditional, absent_clear, absent_stopper, absent_expression}
use Rattle.fancy_regex_tree.specs.TreeBuilders.{is_empty_tree, without_empty, joined, branch_of, all_branches, pattern_of}
use Rattle.fancy_regex_tree.specs.Atoms.{assertion_at, escape_tree, line_start, line_end}
use Rattle.fancy_regex_tree.specs.Parser.{Branches, is_empty_body, make_conditional, conditional_of_branches, absent_of_branches, absent_bar_of}
use Rattle.fancy_regex_grammar.specs.Shapes.{IsWithoutEmpty, none_kept, dropped, kept, IsConcatenation, no_piece, one_piece, more_pieces, AreConcatenations, no_rows, and_row, IsAlternation, one_branch, more_branches, IsConditional, yes_alone, yes_and_others, IsEmptyBranch, no_piece_at_all, IsReferenceConditional, condition_alone, with_body, IsAbsentBar, clear, stopper, expression, IsLineStart, at_text_start, in_plain_mode, inside_look_around, outside_look_around, IsLineEnd, at_text_end, at_line_end, IsAssertion, start_of_text, end_of_text, end_or_newlines, word_boundary, not_word_boundary, left_boundary, right_boundary, left_half_boundary, right_half_boundary, IsEscapeTree, a_character, a_byte, a_class, any_character, a_newline, a_place, continues, keeps_out, a_reference, a_call, ShapesAreExact}
use Rattle.fancy_regex_grammar.proofs.QuantifierProofs.{empty_tree}

kept_step : (e : Tree) (es ds : List Tree) → IsWithoutEmpty es ds → (b : Bool) → is_empty_tree e ≡ b →
    IsWithoutEmpty (e ∷ es) (elim b as (λ _. List Tree) [ true ↦ ds | false ↦ e ∷ ds ])
kept_step e es ds k true h = subst (λ x. IsWithoutEmpty (x ∷ es) ds) (sym (empty_tree e h)) (dropped k)
kept_step e es ds k false h = kept (λ is. true≢false (sym (ap is_empty_tree is) ∙ h)) k

kept_of : (es : List Tree) → IsWithoutEmpty es (without_empty es)
kept_of [] = none_kept
kept_of (e ∷ es) = kept_step e es (without_empty es) (kept_of es) (is_empty_tree e) refl

kept_read : {es ds : List Tree} → IsWithoutEmpty es ds → without_empty es ≡ ds
kept_read none_kept = refl
kept_read (dropped k) = kept_read k
kept_read (kept {e} {es} n k) =
    ap (λ b. elim b as (λ _. List Tree) [ true ↦ without_empty es | false ↦ e ∷ without_empty es ])
    (false_from_ne_true (is_empty_tree e) (λ h. n (empty_tree e h)))
    ∙ ap (λ ds. e ∷ ds) (kept_read k)

row_from : (es ds : List Tree) → IsWithoutEmpty es ds → IsConcatenation es (joined concat ds)
row_from es [] k = no_piece k
row_from es (e ∷ []) k = one_piece k
row_from es (d ∷ e ∷ ds) k = more_pieces k

row_of : (es : List Tree) → IsConcatenation es (branch_of es)
row_of es = row_from es (without_empty es) (kept_of es)

row_read : {es : List Tree} {e : Tree} → IsConcatenation es e → branch_of es ≡ e
row_read (no_piece k) = ap (joined concat) (kept_read k)
row_read (one_piece k) = ap (joined concat) (kept_read k)
row_read (more_pieces k) = ap (joined concat) (kept_read k)

rows_of : (bs : Branches) → AreConcatenations bs (all_branches bs)
rows_of [] = no_rows
rows_of (b ∷ bs) = and_row (row_of b) (rows_of bs)

rows_read : {bs : Branches} {es : List Tree} → AreConcatenations bs es → all_branches bs ≡ es
rows_read no_rows = refl
rows_read (and_row r rs) = ap₂ (λ e es. e ∷ es) (row_read r) (rows_read rs)

choice_of : (b : List Tree) (bs : Branches) → IsAlternation (b ∷ bs) (pattern_of (b ∷ bs))
choice_of b [] = one_branch (row_of b)
choice_of b (c ∷ bs) = more_branches (rows_of (b ∷ c ∷ bs))

choice_read : {bs : Branches} {e : Tree} → IsAlternation bs e → pattern_of bs ≡ e
choice_read (one_branch r) = row_read r
choice_read (more_branches rs) = ap (λ es. joined alt es) (rows_read rs) ∙ more_joined rs
  where
    more_joined : {b c : List Tree} {bs : Branches} {es : List Tree} → AreConcatenations (b ∷ c ∷ bs) es → joined alt es ≡ alt (trees es)
    more_joined (and_row r (and_row s rs)) = refl

conditional_of : (c : Tree) (b : List Tree) (bs : Branches) → IsConditional c (b ∷ bs) (conditional_of_branches c (b ∷ bs))
conditional_of c b [] = yes_alone (row_of b)
conditional_of c b (d ∷ bs) = yes_and_others (row_of b) (choice_of d bs)

conditional_read : {c : Tree} {bs : Branches} {e : Tree} → IsConditional c bs e → conditional_of_branches c bs ≡ e
conditional_read {c} (yes_alone r) = ap (λ yes. conditional c yes empty) (row_read r)
conditional_read {c} (yes_and_others r s) = ap₂ (conditional c) (row_read r) (choice_read s)

nothing_of : (b : List Tree) (bs : Branches) → is_empty_body (b ∷ bs) ≡ true → IsEmptyBranch (b ∷ bs)
nothing_of [] [] h = no_piece_at_all
nothing_of [] (c ∷ bs) h = absurd (true≢false (sym h))
nothing_of (e ∷ es) bs h = absurd (true≢false (sym h))

nothing_test : {bs : Branches} → IsEmptyBranch bs → is_empty_body bs ≡ true
nothing_test no_piece_at_all = refl

something : {bs : Branches} → is_empty_body bs ≡ false → IsEmptyBranch bs → ⊥
something h n = true≢false (sym (nothing_test n) ∙ h)

no_nothing : (b : List Tree) (bs : Branches) → (IsEmptyBranch (b ∷ bs) → ⊥) → is_empty_body (b ∷ bs) ≡ false
no_nothing b bs n = false_from_ne_true (is_empty_body (b ∷ bs)) (λ h. n (nothing_of b bs h))

tested_of : (c : Tree) (b : List Tree) (bs : Branches) → IsReferenceConditional c (b ∷ bs) (make_conditional c (b ∷ bs))
tested_of c b bs = by_test (is_empty_body (b ∷ bs)) refl
  where
    by_test : (k : Bool) → is_empty_body (b ∷ bs) ≡ k → IsReferenceConditional c (b ∷ bs) (if k then c else conditional_of_branches c (b ∷ bs))
    by_test true h = condition_alone (nothing_of b bs h)
    by_test false h = with_body (something h) (conditional_of c b bs)

tested_read : (c : Tree) (b : List Tree) (bs : Branches) (e : Tree) → IsReferenceConditional c (b ∷ bs) e → make_conditional c (b ∷ bs) ≡ e
tested_read c b bs e (condition_alone n) = ap (λ k. if k then c else conditional_of_branches c (b ∷ bs)) (nothing_test n)
tested_read c b bs e (with_body n h) = ap (λ k. if k then c else conditional_of_branches c (b ∷ bs)) (no_nothing b bs n) ∙ conditional_read h

bounds_from : (b : List Tree) (bs : Branches) → is_empty_body (b ∷ bs) ≡ false → IsAbsentBar (b ∷ bs) (absent_of_branches (b ∷ bs))
bounds_from b [] h = stopper (something h) (row_of b)
bounds_from b (d ∷ bs) h = expression (row_of b) (choice_of d bs)

bounds_of : (b : List Tree) (bs : Branches) → IsAbsentBar (b ∷ bs) (absent_bar_of (b ∷ bs))
bounds_of b bs = by_test (is_empty_body (b ∷ bs)) refl
  where
    by_test : (k : Bool) → is_empty_body (b ∷ bs) ≡ k → IsAbsentBar (b ∷ bs) (if k then absent_clear else absent_of_branches (b ∷ bs))
    by_test true h = clear (nothing_of b bs h)
    by_test false h = bounds_from b bs h

two_are_something : (b d : List Tree) (bs : Branches) → is_empty_body (b ∷ d ∷ bs) ≡ false
two_are_something [] d bs = refl
two_are_something (e ∷ es) d bs = refl

bounds_read : {bs : Branches} {e : Tree} → IsAbsentBar bs e → absent_bar_of bs ≡ e
bounds_read (clear {bs} n) = ap (λ k. if k then absent_clear else absent_of_branches bs) (nothing_test n)
bounds_read (stopper {b} n r) = ap (λ k. if k then absent_clear else absent_of_branches (b ∷ [])) (no_nothing b [] n) ∙ ap absent_stopper (row_read r)
bounds_read (expression {b} {d} {bs} r s) =
    ap (λ k. if k then absent_clear else absent_of_branches (b ∷ d ∷ bs)) (two_are_something b d bs) ∙ ap₂ absent_expression (row_read r) (choice_read s)

module _ (p : ParserConfig) (f : Flags) (in_look : Bool) where
  start_of : IsLineStart p f in_look (line_start p f in_look)
  start_of = by_flags f.multi refl p.oniguruma refl in_look refl
    where
      by_flags : (m : Bool) → f.multi ≡ m → (o : Bool) → p.oniguruma ≡ o → (l : Bool) → in_look ≡ l →
          IsLineStart p f in_look (assertion (if not m then StartText else if o && not l then StartLineOniguruma f.crlf else StartLine f.crlf))
      by_flags false a o b l c = at_text_start a
      by_flags true a false b l c = in_plain_mode a b
      by_flags true a true b true c = inside_look_around a c
      by_flags true a true b false c = outside_look_around a b c

  abbrev start_by : Bool → Bool → Tree
  start_by m k = assertion (if not m then StartText else if k then StartLineOniguruma f.crlf else StartLine f.crlf)

  start_read : {e : Tree} → IsLineStart p f in_look e → line_start p f in_look ≡ e
  start_read (at_text_start a) = ap (λ m. start_by m (p.oniguruma && not in_look)) a
  start_read (in_plain_mode a b) = ap₂ start_by a (and_left p.oniguruma (not in_look) b)
  start_read (inside_look_around a b) = ap₂ start_by a (and_right p.oniguruma (not in_look) (ap not b))
  start_read (outside_look_around a b c) = ap₂ start_by a (ap₂ (λ o l. o && not l) b c)

end_of : (f : Flags) → IsLineEnd f (line_end f)
end_of f = by_flag f.multi refl
  where
    by_flag : (m : Bool) → f.multi ≡ m → IsLineEnd f (assertion (if m then EndLine f.crlf else EndText))
    by_flag true a = at_line_end a
    by_flag false a = at_text_end a

end_read : (f : Flags) {e : Tree} → IsLineEnd f e → line_end f ≡ e
end_read f (at_text_end a) = ap (λ m. assertion (if m then EndLine f.crlf else EndText)) a
end_read f (at_line_end a) = ap (λ m. assertion (if m then EndLine f.crlf else EndText)) a

assertion_of : (f : Flags) (place : AssertionEscape) → IsAssertion f place (assertion_at f place)
assertion_of f places.TextStart = start_of_text
assertion_of f places.TextEnd = end_of_text
assertion_of f places.TextEndOrNewlines = end_or_newlines
assertion_of f places.WordBoundary = word_boundary
assertion_of f places.NotWordBoundary = not_word_boundary
assertion_of f places.LeftWordBoundary = left_boundary
assertion_of f places.RightWordBoundary = right_boundary
assertion_of f places.LeftWordHalfBoundary = left_half_boundary
assertion_of f places.RightWordHalfBoundary = right_half_boundary

assertion_read : {f : Flags} {place : AssertionEscape} {a : Assertion} → IsAssertion f place a → assertion_at f place ≡ a
assertion_read start_of_text = refl
assertion_read end_of_text = refl
assertion_read end_or_newlines = refl
assertion_read word_boundary = refl
assertion_read not_word_boundary = refl
assertion_read left_boundary = refl
assertion_read right_boundary = refl
assertion_read left_half_boundary = refl
assertion_read right_half_boundary = refl

module _ (p : ParserConfig) (f : Flags) (position : ℕ) where
  escape_of : (escape : Escape) → IsEscapeTree p f position escape (escape_tree p f position escape)
  escape_of (char_escape c) = a_character
  escape_of (byte_escape b) = a_byte
  escape_of (class_escape t) = a_class
  escape_of (any_escape newline) = any_character
  escape_of newline_escape = a_newline
  escape_of (assertion_escape place) = a_place (assertion_of f place)
  escape_of continue_escape = continues
  escape_of keep_out_escape = keeps_out
  escape_of (reference_escape target level) = a_reference
  escape_of (call_escape target) = a_call

  escape_read : {escape : Escape} {e : Tree} → IsEscapeTree p f position escape e → escape_tree p f position escape ≡ e
  escape_read a_character = refl
  escape_read a_byte = refl
  escape_read a_class = refl
  escape_read any_character = refl
  escape_read a_newline = refl
  escape_read (a_place h) = ap assertion (assertion_read h)
  escape_read continues = refl
  escape_read keeps_out = refl
  escape_read a_reference = refl
  escape_read a_call = refl

pub shapes_are_exact : ShapesAreExact
shapes_are_exact = record {
  of_row = λ es e. (λ h. subst (IsConcatenation es) h (row_of es), λ r. row_read r);
  of_choice = λ b bs e. (λ h. subst (IsAlternation (b ∷ bs)) h (choice_of b bs), λ r. choice_read r);
  of_conditional = λ c b bs e. (λ h. subst (IsConditional c (b ∷ bs)) h (conditional_of c b bs), λ r. conditional_read r);
  of_reference = λ c b bs e. (λ h. subst (IsReferenceConditional c (b ∷ bs)) h (tested_of c b bs), λ r. tested_read c b bs e r);
  of_bounds = λ b bs e. (λ h. subst (IsAbsentBar (b ∷ bs)) h (bounds_of b bs), λ r. bounds_read r);
  of_line_start = λ p f in_look e. (λ h. subst (IsLineStart p f in_look) h (start_of p f in_look), λ r. start_read p f in_look r);
  of_escape = λ p f position escape e. (λ h. subst (IsEscapeTree p f position escape) h (escape_of p f position escape), λ r. escape_read p f position r);
  of_line_end = λ f e. (λ h. subst (IsLineEnd f) h (end_of f), λ r. end_read f r);
}
