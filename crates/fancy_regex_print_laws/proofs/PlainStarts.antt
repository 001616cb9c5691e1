-- Printed texts begin with neither a quantifier nor layout.
use Rattle.std.proofs.Common.{◌≡◌, ℕ, Bool, true, false, ◌==◌, [], ◌∷◌, ◌++◌, codes, None, is_some, refl, sym, ap, subst, cond, append_assoc, append-nil, nat_lt}
use Rattle.std.proofs.lemmas.Bool.{eqb-true, false≢true, true≢false, and_parts}
use Rattle.fancy_regex_text.specs.Text.{Text}
use Rattle.fancy_regex_lex.specs.Escapes.{escape}
use Rattle.fancy_regex_lex.specs.Classes.{bracketed_class}
use Rattle.fancy_regex_tree.specs.Tree.{Tree, Trees, no_trees, more_trees, empty, any, assertion, general_newline, literal, literal_bytes, concat, alt, group, look_around, repeat, delegate}
use Rattle.fancy_regex_tree.specs.Tree.{backref, backref_with_level, atomic_group, keep_out, continue, backref_exists, conditional, subroutine_call, verb, absent_repeater}
use Rattle.fancy_regex_tree.specs.Tree.{absent_expression, absent_stopper, absent_clear, define_group, ast_group, ast_backref, ast_call, ast_condition}
use Rattle.fancy_regex_tree.specs.TreeBuilders.{is_empty_tree}
use Rattle.fancy_regex_tree.specs.Printed.{is_metacharacter, escaped_char, escaped, with_case, case_start, in_group, group_start, group_end, dot_text, start_line_text, end_line_text}
use Rattle.fancy_regex_tree.specs.Printed.{assertion_text, quantifier_text, printed, printed_pieces, printed_branches, later_branches}
use Rattle.fancy_regex_tree.specs.NormalForm.{whole_class, whole_escape, class_alone, node_kind, normal_form}
use Rattle.fancy_regex_tree.specs.Printable.{can_be_repeated, is_printable_assertion, is_one_character, has_two_branches, is_printable, are_printable}
use Rattle.fancy_regex_tree.specs.declared.expr.Assertion.{Assertion}
use Rattle.fancy_regex_tree.specs.declared.expr.Assertion.TheVariants.{StartText, EndText, EndTextIgnoreTrailingNewlines, StartLine, StartLineOniguruma, EndLine, LeftWordBoundary}
use Rattle.fancy_regex_tree.specs.declared.expr.Assertion.TheVariants.{RightWordBoundary, LeftWordHalfBoundary, RightWordHalfBoundary, WordBoundary, NotWordBoundary}
use Rattle.fancy_regex_print_laws.proofs.Starts.{paren_token, character_plain_start}
use Rattle.fancy_regex_print_laws.specs.PrintedParts.{begins_no_quantifier, PlainStart}

same_calm : {t u : Text} → u ≡ t → PlainStart t → PlainStart u
same_calm is plain_start = subst PlainStart (sym is) plain_start

backslash_calm : (t : Text) → PlainStart (0x5C ∷ t)
backslash_calm t = record { quiet = refl; token = refl }

pub escaped_plain_start : (c : ℕ) (t : Text) → PlainStart (escaped_char c ++ t)
unfolding escaped_char
escaped_plain_start c t = at_newline (c == 0x0A) refl
  where
    at_sign : (b : Bool) → is_metacharacter c ≡ b → PlainStart (cond b (0x5C ∷ c ∷ []) (c ∷ []) ++ t)
    at_sign true is = backslash_calm (c ∷ t)
    at_sign false is = character_plain_start c t is

    at_tab : (b : Bool) → (c == 0x09) ≡ b → PlainStart (cond b (codes "\\t") (cond (is_metacharacter c) (0x5C ∷ c ∷ []) (c ∷ [])) ++ t)
    at_tab true is = backslash_calm (0x74 ∷ t)
    at_tab false is = at_sign (is_metacharacter c) refl

    at_return : (b : Bool) → (c == 0x0D) ≡ b → PlainStart (cond b (codes "\\r") (cond (c == 0x09) (codes "\\t") (cond (is_metacharacter c) (0x5C ∷ c ∷ []) (c ∷ []))) ++ t)
    at_return true is = backslash_calm (0x72 ∷ t)
    at_return false is = at_tab (c == 0x09) refl

    at_newline : (b : Bool) → (c == 0x0A) ≡ b → PlainStart (cond b (codes "\\n") (cond (c == 0x0D) (codes "\\r") (cond (c == 0x09) (codes "\\t") (cond (is_metacharacter c) (0x5C ∷ c ∷ []) (c ∷ [])))) ++ t)
    at_newline true is = backslash_calm (0x6E ∷ t)
    at_newline false is = at_return (c == 0x0D) refl

pub class_plain_start : (inner t : Text) → is_some (class_alone inner) ≡ true → PlainStart (inner ++ t)
unfolding class_alone
class_plain_start [] t h = absurd (false≢true h)
class_plain_start (d ∷ u) t h = at_bracket (d == 0x5B) refl h
  where
    at_backslash : (b : Bool) → (d == 0x5C) ≡ b → is_some (cond b (whole_escape (escape false (d ∷ u))) None) ≡ true → PlainStart (d ∷ (u ++ t))
    at_backslash false is found = absurd (false≢true found)
    at_backslash true is found = same_calm (ap (λ e. e ∷ (u ++ t)) (eqb-true d 0x5C is)) (backslash_calm (u ++ t))

    at_bracket : (b : Bool) → (d == 0x5B) ≡ b →
        is_some (cond b (whole_class (bracketed_class false (d ∷ u))) (cond (d == 0x5C) (whole_escape (escape false (d ∷ u))) None)) ≡ true → PlainStart (d ∷ (u ++ t))
    at_bracket false is found = at_backslash (d == 0x5C) refl found
    at_bracket true is found = same_calm (ap (λ e. e ∷ (u ++ t)) (eqb-true d 0x5B is)) (record { quiet = refl; token = refl })

dot_calm : (newline crlf : Bool) (s : Text) → PlainStart (dot_text newline crlf ++ s)
unfolding dot_text
dot_calm true crlf s = record { quiet = refl; token = refl }
dot_calm false true s = record { quiet = refl; token = refl }
dot_calm false false s = record { quiet = refl; token = refl }

assertion_calm : (a : Assertion) (s : Text) → is_printable_assertion a ≡ true → PlainStart (assertion_text a ++ s)
unfolding assertion_text start_line_text end_line_text is_printable_assertion
assertion_calm StartText s h = record { quiet = refl; token = refl }
assertion_calm EndText s h = record { quiet = refl; token = refl }
assertion_calm (StartLine true) s h = record { quiet = refl; token = refl }
assertion_calm (StartLine false) s h = record { quiet = refl; token = refl }
assertion_calm (EndLine true) s h = record { quiet = refl; token = refl }
assertion_calm (EndLine false) s h = record { quiet = refl; token = refl }
assertion_calm LeftWordBoundary s h = record { quiet = refl; token = refl }
assertion_calm RightWordBoundary s h = record { quiet = refl; token = refl }
assertion_calm LeftWordHalfBoundary s h = record { quiet = refl; token = refl }
assertion_calm RightWordHalfBoundary s h = record { quiet = refl; token = refl }
assertion_calm WordBoundary s h = record { quiet = refl; token = refl }
assertion_calm NotWordBoundary s h = record { quiet = refl; token = refl }
assertion_calm (EndTextIgnoreTrailingNewlines crlf) s h = absurd (false≢true h)
assertion_calm (StartLineOniguruma crlf) s h = absurd (false≢true h)

cased_calm : (casei : Bool) (t s : Text) → ((after : Text) → PlainStart (t ++ after)) → PlainStart (with_case casei t ++ s)
unfolding with_case case_start group_end
cased_calm true t s plain_start = record { quiet = refl; token = refl }
cased_calm false t s plain_start = same_calm (ap (λ u. u ++ s) (append-nil t)) (plain_start s)

literal_calm : (val : Text) (s : Text) → is_one_character val ≡ true → PlainStart (escaped val ++ s)
unfolding escaped is_one_character
literal_calm [] s h = absurd (false≢true h)
literal_calm (c ∷ []) s h = same_calm (ap (λ u. u ++ s) (append-nil (escaped_char c))) (escaped_plain_start c s)
literal_calm (c ∷ d ∷ t) s h = absurd (false≢true h)

grouped_calm : (b : Bool) (t s : Text) → PlainStart (t ++ s) → PlainStart (in_group b t ++ s)
unfolding in_group group_start group_end
grouped_calm true t s plain_start = record { quiet = refl; token = refl }
grouped_calm false t s plain_start = same_calm (ap (λ u. u ++ s) (append-nil t)) plain_start

-- what can be repeated is not `Empty`
pub some_target : (t : Tree) → can_be_repeated (node_kind (normal_form t)) ≡ true → is_empty_tree t ≡ false
unfolding can_be_repeated node_kind normal_form
some_target empty h = absurd (false≢true h)
some_target (any a b) h = refl
some_target (assertion a) h = refl
some_target (general_newline a) h = refl
some_target (literal a b) h = refl
some_target (literal_bytes a) h = refl
some_target (concat a) h = refl
some_target (alt a) h = refl
some_target (group a) h = refl
some_target (look_around a b) h = refl
some_target (repeat a b d e) h = refl
some_target (delegate a b) h = refl
some_target (backref a b) h = refl
some_target (backref_with_level a b d) h = refl
some_target (atomic_group a) h = refl
some_target keep_out h = refl
some_target continue h = refl
some_target (backref_exists a b) h = refl
some_target (conditional a b d) h = refl
some_target (subroutine_call a) h = refl
some_target (verb a) h = refl
some_target (absent_repeater a) h = refl
some_target (absent_expression a b) h = refl
some_target (absent_stopper a) h = refl
some_target absent_clear h = refl
some_target (define_group a) h = refl
some_target (ast_group a b d) h = refl
some_target (ast_backref a b d e) h = refl
some_target (ast_call a b) h = refl
some_target (ast_condition a b d) h = refl

grouped_open : (t s : Text) → PlainStart (in_group true t ++ s)
unfolding in_group group_start group_end
grouped_open t s = record { quiet = refl; token = refl }

later_calm : (ts : Trees) (s : Text) → PlainStart s → PlainStart (later_branches ts ++ s)
unfolding printed
later_calm no_trees s after = after
later_calm (more_trees t ts) s after = record { quiet = refl; token = refl }

paren_calm : (t : Text) → begins_no_quantifier t ≡ true → PlainStart (0x28 ∷ t)
paren_calm t quiet = record { quiet = refl; token = paren_token t quiet }

mutual
  unfolding printed is_printable

  -- before a quantifier, whatever follows
  pub plain_start_of_target : (t : Tree) (s : Text) → is_printable t ≡ true → is_empty_tree t ≡ false → PlainStart (printed 3 t ++ s)
  plain_start_of_target empty s p some = absurd (true≢false some)
  plain_start_of_target (any newline crlf) s p some = dot_calm newline crlf s
  plain_start_of_target (assertion a) s p some = assertion_calm a s p
  plain_start_of_target (general_newline a) s p some = absurd (false≢true p)
  plain_start_of_target (literal val casei) s p some = cased_calm casei (escaped val) s (λ after. literal_calm val after p)
  plain_start_of_target (literal_bytes a) s p some = absurd (false≢true p)
  plain_start_of_target (concat ts) s p some = grouped_open (printed_pieces ts) s
  plain_start_of_target (alt ts) s p some = grouped_open (printed_branches ts) s
  plain_start_of_target (group t) s p some =
      same_calm (append_assoc (0x28 ∷ printed 0 t) (codes ")") s) (paren_calm (printed 0 t ++ (0x29 ∷ s)) (plain_start 0 t (0x29 ∷ s) p (record { quiet = refl; token = refl })).quiet)
  plain_start_of_target (look_around a b) s p some = absurd (false≢true p)
  plain_start_of_target (repeat t lo hi greedy) s p some = grouped_open (printed 3 t ++ quantifier_text lo hi greedy) s
  plain_start_of_target (delegate inner casei) s p some = cased_calm casei inner s (λ after. class_plain_start inner after p)
  plain_start_of_target (backref a b) s p some = absurd (false≢true p)
  plain_start_of_target (backref_with_level a b d) s p some = absurd (false≢true p)
  plain_start_of_target (atomic_group a) s p some = absurd (false≢true p)
  plain_start_of_target keep_out s p some = absurd (false≢true p)
  plain_start_of_target continue s p some = absurd (false≢true p)
  plain_start_of_target (backref_exists a b) s p some = absurd (false≢true p)
  plain_start_of_target (conditional a b d) s p some = absurd (false≢true p)
  plain_start_of_target (subroutine_call a) s p some = absurd (false≢true p)
  plain_start_of_target (verb a) s p some = absurd (false≢true p)
  plain_start_of_target (absent_repeater a) s p some = absurd (false≢true p)
  plain_start_of_target (absent_expression a b) s p some = absurd (false≢true p)
  plain_start_of_target (absent_stopper a) s p some = absurd (false≢true p)
  plain_start_of_target absent_clear s p some = absurd (false≢true p)
  plain_start_of_target (define_group a) s p some = absurd (false≢true p)
  plain_start_of_target (ast_group a b d) s p some = absurd (false≢true p)
  plain_start_of_target (ast_backref a b d e) s p some = absurd (false≢true p)
  plain_start_of_target (ast_call a b) s p some = absurd (false≢true p)
  plain_start_of_target (ast_condition a b d) s p some = absurd (false≢true p)

  -- before a text that begins so
  pub plain_start : (q : ℕ) (t : Tree) (s : Text) → is_printable t ≡ true → PlainStart s → PlainStart (printed q t ++ s)
  plain_start q empty s p after = after
  plain_start q (any newline crlf) s p after = dot_calm newline crlf s
  plain_start q (assertion a) s p after = assertion_calm a s p
  plain_start q (general_newline a) s p after = absurd (false≢true p)
  plain_start q (literal val casei) s p after = cased_calm casei (escaped val) s (λ more. literal_calm val more p)
  plain_start q (literal_bytes a) s p after = absurd (false≢true p)
  plain_start q (concat ts) s p after = grouped_calm (nat_lt 1 q) (printed_pieces ts) s (plain_start_of_pieces ts s p after)
  plain_start q (alt ts) s p after = grouped_calm (nat_lt 0 q) (printed_branches ts) s (calm_branches ts s (and_parts (has_two_branches ts) (are_printable ts) p).1 after)
  plain_start q (group t) s p after =
      same_calm (append_assoc (0x28 ∷ printed 0 t) (codes ")") s) (paren_calm (printed 0 t ++ (0x29 ∷ s)) (plain_start 0 t (0x29 ∷ s) p (record { quiet = refl; token = refl })).quiet)
  plain_start q (look_around a b) s p after = absurd (false≢true p)
  plain_start q (repeat t lo hi greedy) s p after =
      let parts = and_parts _ (is_printable t) p in
      let some = some_target t (and_parts _ (can_be_repeated (node_kind (normal_form t))) parts.0).1 in
      grouped_calm (nat_lt 2 q) (printed 3 t ++ quantifier_text lo hi greedy) s
      (same_calm (append_assoc (printed 3 t) (quantifier_text lo hi greedy) s) (plain_start_of_target t (quantifier_text lo hi greedy ++ s) parts.1 some))
  plain_start q (delegate inner casei) s p after = cased_calm casei inner s (λ more. class_plain_start inner more p)
  plain_start q (backref a b) s p after = absurd (false≢true p)
  plain_start q (backref_with_level a b d) s p after = absurd (false≢true p)
  plain_start q (atomic_group a) s p after = absurd (false≢true p)
  plain_start q keep_out s p after = absurd (false≢true p)
  plain_start q continue s p after = absurd (false≢true p)
  plain_start q (backref_exists a b) s p after = absurd (false≢true p)
  plain_start q (conditional a b d) s p after = absurd (false≢true p)
  plain_start q (subroutine_call a) s p after = absurd (false≢true p)
  plain_start q (verb a) s p after = absurd (false≢true p)
  plain_start q (absent_repeater a) s p after = absurd (false≢true p)
  plain_start q (absent_expression a b) s p after = absurd (false≢true p)
  plain_start q (absent_stopper a) s p after = absurd (false≢true p)
  plain_start q absent_clear s p after = absurd (false≢true p)
  plain_start q (define_group a) s p after = absurd (false≢true p)
  plain_start q (ast_group a b d) s p after = absurd (false≢true p)
  plain_start q (ast_backref a b d e) s p after = absurd (false≢true p)
  plain_start q (ast_call a b) s p after = absurd (false≢true p)
  plain_start q (ast_condition a b d) s p after = absurd (false≢true p)

  pub plain_start_of_pieces : (ts : Trees) (s : Text) → are_printable ts ≡ true → PlainStart s → PlainStart (printed_pieces ts ++ s)
  plain_start_of_pieces no_trees s p after = after
  plain_start_of_pieces (more_trees t ts) s p after =
      let parts = and_parts (is_printable t) (are_printable ts) p in
      same_calm (append_assoc (printed 2 t) (printed_pieces ts) s) (plain_start 2 t (printed_pieces ts ++ s) parts.0 (plain_start_of_pieces ts s parts.1 after))

  pub calm_branches : (ts : Trees) (s : Text) → are_printable ts ≡ true → PlainStart s → PlainStart (printed_branches ts ++ s)
  calm_branches no_trees s p after = after
  calm_branches (more_trees t ts) s p after =
      let parts = and_parts (is_printable t) (are_printable ts) p in
      same_calm (append_assoc (printed 1 t) (later_branches ts) s) (plain_start 1 t (later_branches ts ++ s) parts.0 (later_calm ts s after))
