-- The atoms of printed texts and what they are read as.
use Rattle.std.proofs.Common.{◌≡◌, ℕ, zero, suc, ◌≤◌, Bool, true, false, ◌||◌, ◌==◌, [], ◌∷◌, ◌++◌, codes, Some, None, Ok, Err, refl, sym, ap, subst, ◌∙◌, cond, arith, append_assoc, append-nil}
use Rattle.std.proofs.lemmas.Bool.{eqb-true, false≢true, true≢false}
use Rattle.std.proofs.lemmas.Option.{none-some, same_Some}
use Rattle.fancy_regex_text.specs.Text.{Text}
use Rattle.fancy_regex_text.specs.ParseFault.{ParseOutcome}
use Rattle.fancy_regex_lex.specs.Escapes.{Escape, char_escape, byte_escape, class_escape, any_escape, newline_escape, assertion_escape, continue_escape, keep_out_escape, reference_escape}
use Rattle.fancy_regex_lex.specs.Escapes.{call_escape, escape}
use Rattle.fancy_regex_lex.specs.Classes.{bracketed_class}
use Rattle.fancy_regex_lex.specs.declared.token.AssertionEscape.{AssertionEscape}
use Rattle.fancy_regex_lex_grammar.specs.Flags.{before_body, and_flag, case_insensitive, multi_line, dot_matches_newline, carriage_returns, clear_from_here}
use Rattle.fancy_regex_lex_grammar.specs.Openings.{flags_for_body}
use Rattle.fancy_regex_lex_grammar.specs.Escapes.{a_sign, named_boundary, word_boundary, not_word_boundary, left_word_boundary, right_word_boundary, IsBoundaryName, start, end, start_half, end_half}
use Rattle.fancy_regex_lex_grammar.specs.Classes as classes
use Rattle.fancy_regex_lex_grammar.proofs.ClassProofs.{classes_are_exact}
use Rattle.fancy_regex_lex_grammar.proofs.EscapeProofs.{escapes_are_exact}
use Rattle.fancy_regex_grammar.specs.Patterns.{IsAtom, dot, caret, dollar, a_class, escaped, bare_group}
use Rattle.fancy_regex_tree.specs.Tree.{Tree, any, assertion, delegate}
use Rattle.fancy_regex_tree.specs.TreeBuilders.{pattern_of}
use Rattle.fancy_regex_tree.specs.Quantifiers.{Atom}
use Rattle.fancy_regex_tree.specs.Parser.{plain}
use Rattle.fancy_regex_tree.specs.Printed.{with_case, case_start, group_end, dot_text, start_line_text, end_line_text, assertion_text}
use Rattle.fancy_regex_tree.specs.NormalForm.{whole_class, whole_escape, class_alone, normal_form}
use Rattle.fancy_regex_tree.specs.Printable.{level, is_printable_assertion, assertion_levels}
use Rattle.fancy_regex_tree.specs.declared.expr.Assertion.{Assertion}
use Rattle.fancy_regex_tree.specs.declared.expr.Assertion.TheVariants.{StartText, EndText, EndTextIgnoreTrailingNewlines, StartLine, StartLineOniguruma, EndLine, LeftWordBoundary}
use Rattle.fancy_regex_tree.specs.declared.expr.Assertion.TheVariants.{RightWordBoundary, LeftWordHalfBoundary, RightWordHalfBoundary, WordBoundary, NotWordBoundary}
use Rattle.fancy_regex_print_laws.specs.ReprintLaws.{plain_mode, no_flags}
use Rattle.fancy_regex_print_laws.proofs.NamelessTrees.{nameless_tree}
use Rattle.fancy_regex_print_laws.proofs.Tokens.{flags, alone}
use Rattle.fancy_regex_print_laws.proofs.Longer.{escape_longer, class_longer}
use Rattle.fancy_regex_print_laws.proofs.Nodes.{is_look}
use Rattle.fancy_regex_print_laws.specs.PrintedParts.{begins_no_quantifier, is_comment, PlainStart}

-- the front of the text is an atom, which is read as this form
pub record AtomRead (size : ℕ) (unicode : Bool) (n : ℕ) (t : Text) (form : Tree) (rest : Text) : Type 0 where
  pub atom : Atom
  pub reading : IsAtom (plain_mode size unicode) n false no_flags t atom no_flags rest
  pub is_form : nameless_tree (atom.tree) ≡ form
  pub no_look : is_look (atom.tree) ≡ false

-- the same of another text
pub same_text : {size n : ℕ} {unicode : Bool} {t u rest : Text} {form : Tree} → u ≡ t → AtomRead size unicode n t form rest → AtomRead size unicode n u form rest
same_text {size = size} {n = n} {unicode = unicode} {rest = rest} {form = form} is read = subst (λ (v : Text). AtomRead size unicode n v form rest) (sym is) read

whole_class_is : (r : ParseOutcome (Text × Text)) (class : Text) → whole_class r ≡ Some class → r ≡ Ok (class, [])
unfolding whole_class
whole_class_is (Ok (found, [])) class h = ap (λ t. Ok (t, [])) (same_Some found class h)
whole_class_is (Ok (found, c ∷ rest)) class h = absurd (none-some class h)
whole_class_is (Err e) class h = absurd (none-some class h)

whole_escape_is : (r : ParseOutcome (Escape × Text)) (class : Text) → whole_escape r ≡ Some class → r ≡ Ok (class_escape class, [])
unfolding whole_escape
whole_escape_is (Ok (class_escape found, [])) class h = ap (λ t. Ok (class_escape t, [])) (same_Some found class h)
whole_escape_is (Ok (class_escape found, c ∷ rest)) class h = absurd (none-some class h)
whole_escape_is (Ok (char_escape c, rest)) class h = absurd (none-some class h)
whole_escape_is (Ok (byte_escape b, rest)) class h = absurd (none-some class h)
whole_escape_is (Ok (any_escape b, rest)) class h = absurd (none-some class h)
whole_escape_is (Ok (newline_escape, rest)) class h = absurd (none-some class h)
whole_escape_is (Ok (assertion_escape a, rest)) class h = absurd (none-some class h)
whole_escape_is (Ok (continue_escape, rest)) class h = absurd (none-some class h)
whole_escape_is (Ok (keep_out_escape, rest)) class h = absurd (none-some class h)
whole_escape_is (Ok (reference_escape r level, rest)) class h = absurd (none-some class h)
whole_escape_is (Ok (call_escape r, rest)) class h = absurd (none-some class h)
whole_escape_is (Err e) class h = absurd (none-some class h)

boundary_is_loud : {name : Text} {place : AssertionEscape} (rest : Text) → IsBoundaryName name place → begins_no_quantifier (name ++ rest) ≡ false
boundary_is_loud rest start = refl
boundary_is_loud rest end = refl
boundary_is_loud rest start_half = refl
boundary_is_loud rest end_half = refl

-- what opens a group, a text and the parenthesis that closes it
pub closed_text : (front t rest : Text) → (front ++ t ++ codes ")") ++ rest ≡ front ++ (t ++ (0x29 ∷ rest))
closed_text front t rest = append_assoc (front ++ t) (codes ")") rest ∙ append_assoc front t (0x29 ∷ rest)

module _ (size : ℕ) (unicode : Bool) where
  -- a token that may disregard case
  pub cased : (n : ℕ) (casei : Bool) (t rest : Text) (tree : Bool → Tree) → level casei 0 ≤ n →
      ((k : ℕ) (c : Bool) (after : Text) → IsAtom (plain_mode size unicode) k false (flags c false false false) (t ++ after) (plain (tree c)) (flags c false false false) after) →
      ((after : Text) → is_comment (t ++ after) ≡ false) → ((c : Bool) → pattern_of ((tree c ∷ []) ∷ []) ≡ tree c) →
      ((c : Bool) → nameless_tree (tree c) ≡ tree c) → ((c : Bool) → is_look (tree c) ≡ false) →
      AtomRead size unicode n (with_case casei t ++ rest) (tree casei) rest
  unfolding with_case case_start group_end
  cased n false t rest tree levels token begins alone_is form look =
      same_text (ap (λ u. u ++ rest) (append-nil t)) (record { atom = plain (tree false); reading = token n false rest; is_form = form false; no_look = look false })
  cased zero true t rest tree levels token begins alone_is form look = absurd (omega arith)
  cased (suc n) true t rest tree levels token begins alone_is form look =
      same_text (closed_text (codes "(?i:") t rest) (record {
        atom = record { tree = pattern_of ((tree true ∷ []) ∷ []); is_non_capturing_group = true };
        reading = bare_group (flags_for_body (and_flag case_insensitive before_body)) (alone size unicode (begins (0x29 ∷ rest)) (token n true (0x29 ∷ rest)));
        is_form = ap nameless_tree (alone_is true) ∙ form true;
        no_look = ap is_look (alone_is true) ∙ look true;
      })

  -- a class that reads alone
  pub class_atom : (inner class : Text) → class_alone inner ≡ Some class → (k : ℕ) (c : Bool) (after : Text) →
      IsAtom (plain_mode size unicode) k false (flags c false false false) (inner ++ after) (plain (delegate class c)) (flags c false false false) after
  unfolding class_alone
  class_atom [] class h k c after = absurd (none-some class h)
  class_atom (d ∷ t) class h k c after = at_bracket (d == 0x5B) refl h
    where
      Is : ℕ → Type 0
      Is first = IsAtom (plain_mode size unicode) k false (flags c false false false) (first ∷ (t ++ after)) (plain (delegate class c)) (flags c false false false) after

      at_backslash : (b : Bool) → (d == 0x5C) ≡ b → cond b (whole_escape (escape false (d ∷ t))) None ≡ Some class → Is d
      at_backslash false is found = absurd (none-some class found)
      at_backslash true is found =
          let first = eqb-true d 0x5C is in
          let read = whole_escape_is (escape false (0x5C ∷ t)) class (ap (λ e. whole_escape (escape false (e ∷ t))) (sym first) ∙ found) in
          subst Is (sym first) (escaped (escape_longer after ((escapes_are_exact false t).sound (class_escape class, []) read) classes.a_class))

      at_bracket : (b : Bool) → (d == 0x5B) ≡ b →
          cond b (whole_class (bracketed_class false (d ∷ t))) (cond (d == 0x5C) (whole_escape (escape false (d ∷ t))) None) ≡ Some class → Is d
      at_bracket false is found = at_backslash (d == 0x5C) refl found
      at_bracket true is found =
          let first = eqb-true d 0x5B is in
          let read = whole_class_is (bracketed_class false (0x5B ∷ t)) class (ap (λ e. whole_class (bracketed_class false (e ∷ t))) (sym first) ∙ found) in
          subst Is (sym first) (a_class (class_longer after ((classes_are_exact false t).sound (class, []) read)))

  -- a dot with its flags
  pub dot_read : (n : ℕ) (newline crlf : Bool) (rest : Text) → level (newline || crlf) 0 ≤ n →
      AtomRead size unicode n (dot_text newline crlf ++ rest) (normal_form (any newline crlf)) rest
  unfolding dot_text normal_form nameless_tree
  dot_read n false false rest levels = record { atom = plain (any false false); reading = dot; is_form = refl; no_look = refl }
  dot_read zero true crlf rest levels = absurd (omega arith)
  dot_read zero false true rest levels = absurd (omega arith)
  dot_read (suc n) true crlf rest levels = record {
    atom = record { tree = any true false; is_non_capturing_group = true };
    reading = bare_group (flags_for_body (and_flag dot_matches_newline before_body)) (alone size unicode refl dot);
    is_form = refl;
    no_look = refl;
  }
  dot_read (suc n) false true rest levels = record {
    atom = record { tree = any false true; is_non_capturing_group = true };
    reading = bare_group (flags_for_body (and_flag carriage_returns (and_flag clear_from_here (and_flag dot_matches_newline before_body)))) (alone size unicode refl dot);
    is_form = refl;
    no_look = refl;
  }

  -- an assertion, before a text that begins with no sign of a quantifier
  pub assertion_read : (n : ℕ) (a : Assertion) (rest : Text) → is_printable_assertion a ≡ true → assertion_levels a ≤ n → PlainStart rest →
      AtomRead size unicode n (assertion_text a ++ rest) (assertion a) rest
  unfolding assertion_text start_line_text end_line_text is_printable_assertion assertion_levels nameless_tree
  assertion_read n StartText rest printable levels plain_start = record { atom = plain (assertion StartText); reading = caret; is_form = refl; no_look = refl }
  assertion_read n EndText rest printable levels plain_start = record { atom = plain (assertion EndText); reading = dollar; is_form = refl; no_look = refl }
  assertion_read n LeftWordBoundary rest printable levels plain_start =
      record { atom = plain (assertion LeftWordBoundary); reading = escaped (a_sign (left_word_boundary refl)); is_form = refl; no_look = refl }
  assertion_read n RightWordBoundary rest printable levels plain_start =
      record { atom = plain (assertion RightWordBoundary); reading = escaped (a_sign (right_word_boundary refl)); is_form = refl; no_look = refl }
  assertion_read n LeftWordHalfBoundary rest printable levels plain_start =
      record { atom = plain (assertion LeftWordHalfBoundary); reading = escaped (named_boundary start_half); is_form = refl; no_look = refl }
  assertion_read n RightWordHalfBoundary rest printable levels plain_start =
      record { atom = plain (assertion RightWordHalfBoundary); reading = escaped (named_boundary end_half); is_form = refl; no_look = refl }
  assertion_read n WordBoundary rest printable levels plain_start = record {
    atom = plain (assertion WordBoundary);
    reading = escaped (word_boundary (λ name after place is same. true≢false (sym plain_start.quiet ∙ ap begins_no_quantifier same ∙ boundary_is_loud after is)));
    is_form = refl;
    no_look = refl;
  }
  assertion_read n NotWordBoundary rest printable levels plain_start =
      record { atom = plain (assertion NotWordBoundary); reading = escaped (a_sign not_word_boundary); is_form = refl; no_look = refl }
  assertion_read n (EndTextIgnoreTrailingNewlines crlf) rest printable levels plain_start = absurd (false≢true printable)
  assertion_read n (StartLineOniguruma crlf) rest printable levels plain_start = absurd (false≢true printable)
  assertion_read zero (StartLine crlf) rest printable levels plain_start = absurd (omega arith)
  assertion_read zero (EndLine crlf) rest printable levels plain_start = absurd (omega arith)
  assertion_read (suc n) (StartLine true) rest printable levels plain_start = record {
    atom = record { tree = assertion (StartLine true); is_non_capturing_group = true };
    reading = bare_group (flags_for_body (and_flag carriage_returns (and_flag multi_line before_body))) (alone size unicode refl caret);
    is_form = refl;
    no_look = refl;
  }
  assertion_read (suc n) (StartLine false) rest printable levels plain_start = record {
    atom = record { tree = assertion (StartLine false); is_non_capturing_group = true };
    reading = bare_group (flags_for_body (and_flag multi_line before_body)) (alone size unicode refl caret);
    is_form = refl;
    no_look = refl;
  }
  assertion_read (suc n) (EndLine true) rest printable levels plain_start = record {
    atom = record { tree = assertion (EndLine true); is_non_capturing_group = true };
    reading = bare_group (flags_for_body (and_flag carriage_returns (and_flag multi_line before_body))) (alone size unicode refl dollar);
    is_form = refl;
    no_look = refl;
  }
  assertion_read (suc n) (EndLine false) rest printable levels plain_start = record {
    atom = record { tree = assertion (EndLine false); is_non_capturing_group = true };
    reading = bare_group (flags_for_body (and_flag multi_line before_body)) (alone size unicode refl dollar);
    is_form = refl;
    no_look = refl;
  }
