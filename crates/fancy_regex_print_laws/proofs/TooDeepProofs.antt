-- Printed trees in which too many groups nest.
use Rattle.std.proofs.Common.{◌≡◌, ℕ, zero, suc, ◌+◌, ◌≤◌, ◌<◌, Bool, true, false, ◌&&◌, ◌||◌, [], ◌∷◌, ◌++◌, codes, cond, refl, sym, ap, subst, ◌∙◌, arith, append_assoc, append-nil, nat_lt}
use Rattle.std.proofs.lemmas.Bool.{false≢true, true≢false, and_parts, ltb-true, ltb-false, lt-ltb}
use Rattle.fancy_regex_text.specs.Text.{Text, unbounded}
use Rattle.fancy_regex_text.specs.ParseFault.{recursion_exceeded}
use Rattle.fancy_regex_lex_grammar.specs.Exact.{at}
use Rattle.fancy_regex_lex_grammar.specs.Flags.{before_body}
use Rattle.fancy_regex_lex_grammar.specs.Openings.{a_group, flags_for_body}
use Rattle.fancy_regex_grammar.specs.Patterns.{EndsBranch, at_bar, at_close}
use Rattle.fancy_regex_grammar.specs.Faults.{AtomFails, PieceFails, BranchFails, BranchesFail, too_deep, inside_stops, in_group, under_flags, atom_stops, piece_stops, later_piece_stops}
use Rattle.fancy_regex_grammar.specs.Faults.{first_stops, later_branch_stops}
use Rattle.fancy_regex_tree.specs.Tree.{Tree, Trees, no_trees, more_trees, empty, any, assertion, general_newline, literal, literal_bytes, concat, alt, group, look_around, repeat, delegate}
use Rattle.fancy_regex_tree.specs.Tree.{backref, backref_with_level, atomic_group, keep_out, continue, backref_exists, conditional, subroutine_call, verb, absent_repeater}
use Rattle.fancy_regex_tree.specs.Tree.{absent_expression, absent_stopper, absent_clear, define_group, ast_group, ast_backref, ast_call, ast_condition}
use Rattle.fancy_regex_tree.specs.TreeBuilders.{is_empty_tree}
use Rattle.fancy_regex_tree.specs.Printed as print
use Rattle.fancy_regex_tree.specs.Printed.{escaped, with_case, case_start, group_start, group_end, dot_text, start_line_text, end_line_text, assertion_text, quantifier_text, printed}
use Rattle.fancy_regex_tree.specs.Printed.{printed_pieces, printed_branches, later_branches}
use Rattle.fancy_regex_tree.specs.NormalForm.{node_kind, normal_form}
use Rattle.fancy_regex_tree.specs.Printable.{can_be_repeated, has_two_branches, is_printable, are_printable, level, assertion_levels, printed_levels, most_levels}
use Rattle.fancy_regex_tree.specs.declared.expr.Assertion.{Assertion}
use Rattle.fancy_regex_tree.specs.declared.expr.Assertion.TheVariants.{StartText, EndText, EndTextIgnoreTrailingNewlines, StartLine, StartLineOniguruma, EndLine, LeftWordBoundary}
use Rattle.fancy_regex_tree.specs.declared.expr.Assertion.TheVariants.{RightWordBoundary, LeftWordHalfBoundary, RightWordHalfBoundary, WordBoundary, NotWordBoundary}
use Rattle.fancy_regex_print_laws.specs.ReprintLaws.{after_opening, up_to_too_deep, pieces_up_to_too_deep, branches_up_to_too_deep, plain_mode, no_flags, CountsFit, AllCountsFit}
use Rattle.fancy_regex_print_laws.proofs.Starts.{skipped}
use Rattle.fancy_regex_print_laws.proofs.Atoms.{closed_text}
use Rattle.fancy_regex_print_laws.proofs.PlainStarts.{plain_start, plain_start_of_target, plain_start_of_pieces, some_target}
use Rattle.fancy_regex_print_laws.proofs.Reading.{Reads, AllReads, ends, branch_end_plain_start, verb_begins_like_quantifier, empty_tree_is, reads, all_read}
use Rattle.fancy_regex_print_laws.specs.PrintedParts.{begins_no_quantifier, is_comment, PlainStart, Closing, closing_paren}

-- where a group that is one too many opens: what stands before it and after
pub record AtomDeep (size : ℕ) (unicode : Bool) (n : ℕ) (t before : Text) : Type 0 where
  pub following : Text
  pub text : t ≡ before ++ (0x28 ∷ following)
  pub stops : AtomFails (plain_mode size unicode) n false no_flags t (at recursion_exceeded (0x28 ∷ following))

pub record PieceDeep (size : ℕ) (unicode : Bool) (n : ℕ) (t before : Text) : Type 0 where
  pub following : Text
  pub text : t ≡ before ++ (0x28 ∷ following)
  pub stops : PieceFails (plain_mode size unicode) n false no_flags t (at recursion_exceeded (0x28 ∷ following))

pub record BranchDeep (size : ℕ) (unicode : Bool) (n : ℕ) (t before : Text) : Type 0 where
  pub following : Text
  pub text : t ≡ before ++ (0x28 ∷ following)
  pub stops : BranchFails (plain_mode size unicode) n false no_flags t (at recursion_exceeded (0x28 ∷ following))

pub record WholeDeep (size : ℕ) (unicode : Bool) (n : ℕ) (t before : Text) : Type 0 where
  pub following : Text
  pub text : t ≡ before ++ (0x28 ∷ following)
  pub stops : BranchesFail (plain_mode size unicode) n false no_flags t (at recursion_exceeded (0x28 ∷ following))

-- Where the reading of a tree stops at each precedence.
pub record Deep (size : ℕ) (unicode : Bool) (t : Tree) : Type 0 where
  pub atom : (n : ℕ) (rest : Text) → n < printed_levels 3 t → AtomDeep size unicode n (printed 3 t ++ rest) (up_to_too_deep 3 n t)
  pub piece : (n : ℕ) (rest : Text) → n < printed_levels 2 t → PieceDeep size unicode n (printed 2 t ++ rest) (up_to_too_deep 2 n t)
  pub branch : (n : ℕ) (rest : Text) → n < printed_levels 1 t → EndsBranch rest → BranchDeep size unicode n (printed 1 t ++ rest) (up_to_too_deep 1 n t)
  pub whole : (n : ℕ) (rest : Text) → n < printed_levels 0 t → Closing rest → WholeDeep size unicode n (printed 0 t ++ rest) (up_to_too_deep 0 n t)

module _ (size : ℕ) (unicode : Bool) where
  abbrev AllDeep : Trees → Type 0
  AllDeep no_trees = Unit {0}
  AllDeep (more_trees t ts) = Deep size unicode t × AllDeep ts

  -- a parenthesis where none may stand
  paren_deep : (t : Text) → AtomDeep size unicode 0 (0x28 ∷ t) []
  paren_deep t = record { following = t; text = refl; stops = too_deep }

  atom_is_piece : (n : ℕ) (t before : Text) → AtomDeep size unicode n t before → PieceDeep size unicode n t before
  atom_is_piece n t before a = record { following = a.following; text = a.text; stops = atom_stops a.stops }

  piece_is_branch : (n : ℕ) (t before : Text) → is_comment t ≡ false → PieceDeep size unicode n t before → BranchDeep size unicode n t before
  piece_is_branch n t before token a = record { following = a.following; text = a.text; stops = piece_stops (skipped token) a.stops }

  branch_is_whole : (n : ℕ) (t before : Text) → BranchDeep size unicode n t before → WholeDeep size unicode n t before
  branch_is_whole n t before a = record { following = a.following; text = a.text; stops = first_stops a.stops }

  row_deep : (ts : Trees) (n : ℕ) (rest : Text) → AllReads size unicode ts → AllDeep ts → are_printable ts ≡ true → n < most_levels 2 ts → EndsBranch rest →
      BranchDeep size unicode n (printed_pieces ts ++ rest) (pieces_up_to_too_deep n ts)
  unfolding printed is_printable printed_levels up_to_too_deep
  row_deep no_trees n rest read deep p h end = absurd (omega arith)
  row_deep (more_trees t ts) n rest read deep p h end =
      let parts = and_parts (is_printable t) (are_printable ts) p in
      let after = plain_start_of_pieces ts rest parts.1 (branch_end_plain_start end) in
      let token : is_comment (printed 2 t ++ (printed_pieces ts ++ rest)) ≡ false = (plain_start 2 t (printed_pieces ts ++ rest) parts.0 after).token in
      subst (λ (u : Text). BranchDeep size unicode n u (pieces_up_to_too_deep n (more_trees t ts))) (sym (append_assoc (printed 2 t) (printed_pieces ts) rest))
      (by_levels (nat_lt n (printed_levels 2 t)) refl token after (λ (fits : printed_levels 2 t ≤ n). row_deep ts n rest read.1 deep.1 parts.1 (omega arith) end))
    where
      later : (b : Bool) (t : Tree) (ts : Trees) (n : ℕ) (rest : Text) → is_empty_tree t ≡ b → Reads size unicode t →
          is_comment (printed 2 t ++ (printed_pieces ts ++ rest)) ≡ false → printed_levels 2 t ≤ n → PlainStart (printed_pieces ts ++ rest) →
          BranchDeep size unicode n (printed_pieces ts ++ rest) (pieces_up_to_too_deep n ts) →
          BranchDeep size unicode n (printed 2 t ++ (printed_pieces ts ++ rest)) (printed 2 t ++ pieces_up_to_too_deep n ts)
      later true t ts n rest is read token fits after others =
          subst (λ (u : Tree). BranchDeep size unicode n (printed 2 u ++ (printed_pieces ts ++ rest)) (printed 2 u ++ pieces_up_to_too_deep n ts)) (sym (empty_tree_is t is)) others
      later false t ts n rest is read token fits after others =
          let first = read.piece n (printed_pieces ts ++ rest) is fits after in
          record {
            following = others.following;
            text = ap (λ u. printed 2 t ++ u) others.text ∙ sym (append_assoc (printed 2 t) (pieces_up_to_too_deep n ts) (0x28 ∷ others.following));
            stops = later_piece_stops (skipped token) first.reading others.stops;
          }

      by_levels : (b : Bool) → nat_lt n (printed_levels 2 t) ≡ b → is_comment (printed 2 t ++ (printed_pieces ts ++ rest)) ≡ false → PlainStart (printed_pieces ts ++ rest) →
          (printed_levels 2 t ≤ n → BranchDeep size unicode n (printed_pieces ts ++ rest) (pieces_up_to_too_deep n ts)) →
          BranchDeep size unicode n (printed 2 t ++ (printed_pieces ts ++ rest)) (cond b (up_to_too_deep 2 n t) (printed 2 t ++ pieces_up_to_too_deep n ts))
      by_levels true is token after others = piece_is_branch n _ _ token (deep.0.piece n (printed_pieces ts ++ rest) (ltb-true n (printed_levels 2 t) is))
      by_levels false is token after others =
          let fits : printed_levels 2 t ≤ n = ltb-false n (printed_levels 2 t) is in later (is_empty_tree t) t ts n rest refl read.0 token fits after (others fits)

  many_deep : (t : Tree) (ts : Trees) (n : ℕ) (rest : Text) → Reads size unicode t → Deep size unicode t → AllReads size unicode ts → AllDeep ts →
      n < most_levels 1 (more_trees t ts) → Closing rest →
      WholeDeep size unicode n (printed_branches (more_trees t ts) ++ rest) (branches_up_to_too_deep n (more_trees t ts))
  unfolding printed printed_levels up_to_too_deep
  many_deep t no_trees n rest read deep reads deeps h end =
      let here : n < printed_levels 1 t = omega arith in
      subst (λ (u : Text). WholeDeep size unicode n (u ++ rest) (branches_up_to_too_deep n (more_trees t no_trees))) (sym (append-nil (printed 1 t)))
      (subst (λ (u : Text). WholeDeep size unicode n (printed 1 t ++ rest) u) (sym (ap (λ b. cond b (up_to_too_deep 1 n t) (printed 1 t ++ (codes "|" ++ []))) (lt-ltb n (printed_levels 1 t) here)))
      (branch_is_whole n (printed 1 t ++ rest) (up_to_too_deep 1 n t) (deep.branch n rest here (ends end))))
  many_deep t (more_trees u us) n rest read deep reads deeps h end =
      subst (λ (v : Text). WholeDeep size unicode n v (branches_up_to_too_deep n (more_trees t (more_trees u us)))) (sym (append_assoc (printed 1 t) (later_branches (more_trees u us)) rest))
      (by_levels (nat_lt n (printed_levels 1 t)) refl (λ (fits : printed_levels 1 t ≤ n). many_deep u us n rest reads.0 deeps.0 reads.1 deeps.1 (omega arith) end))
    where
      by_levels : (b : Bool) → nat_lt n (printed_levels 1 t) ≡ b →
          (printed_levels 1 t ≤ n → WholeDeep size unicode n (printed_branches (more_trees u us) ++ rest) (branches_up_to_too_deep n (more_trees u us))) →
          WholeDeep size unicode n (printed 1 t ++ (0x7C ∷ (printed_branches (more_trees u us) ++ rest)))
          (cond b (up_to_too_deep 1 n t) (printed 1 t ++ (codes "|" ++ branches_up_to_too_deep n (more_trees u us))))
      by_levels true is later =
          branch_is_whole n _ _ (deep.branch n (0x7C ∷ (printed_branches (more_trees u us) ++ rest)) (ltb-true n (printed_levels 1 t) is) at_bar)
      by_levels false is later =
          let fits : printed_levels 1 t ≤ n = ltb-false n (printed_levels 1 t) is in
          let others = later fits in
          let first = read.branch n (0x7C ∷ (printed_branches (more_trees u us) ++ rest)) fits at_bar in
          record {
            following = others.following;
            text = ap (λ v. printed 1 t ++ (0x7C ∷ v)) others.text
                ∙ sym (append_assoc (printed 1 t) (0x7C ∷ branches_up_to_too_deep n (more_trees u us)) (0x28 ∷ others.following));
            stops = later_branch_stops first.reading others.stops;
          }

  -- in a group that captures nothing
  bare_deep : (n levels : ℕ) (t rest : Text) (before : ℕ → Text) → n < levels + 1 → ((m : ℕ) → m < levels → WholeDeep size unicode m (t ++ (0x29 ∷ rest)) (before m)) →
      AtomDeep size unicode n (print.in_group true t ++ rest) (after_opening true (codes "(?:") before n)
  unfolding print.in_group group_start group_end
  bare_deep zero levels t rest before h inside = paren_deep _
  bare_deep (suc n) levels t rest before h inside =
      let found = inside n (omega arith) in
      subst (λ (u : Text). AtomDeep size unicode (suc n) u (codes "(?:" ++ before n)) (sym (closed_text (codes "(?:") t rest))
      (record {
        following = found.following;
        text = ap (λ u. codes "(?:" ++ u) found.text;
        stops = inside_stops (flags_for_body before_body) under_flags found.stops;
      })

  capture_deep : (n : ℕ) (t : Tree) (rest : Text) → n < printed_levels 0 t + 1 → begins_no_quantifier (printed 0 t ++ (0x29 ∷ rest)) ≡ true →
      ((m : ℕ) → m < printed_levels 0 t → WholeDeep size unicode m (printed 0 t ++ (0x29 ∷ rest)) (up_to_too_deep 0 m t)) →
      AtomDeep size unicode n (printed 3 (group t) ++ rest) (up_to_too_deep 3 n (group t))
  unfolding printed up_to_too_deep
  capture_deep zero t rest h quiet inside = paren_deep _
  capture_deep (suc n) t rest h quiet inside =
      let found = inside n (omega arith) in
      subst (λ (u : Text). AtomDeep size unicode (suc n) u (codes "(" ++ up_to_too_deep 0 n t)) (sym (closed_text (codes "(") (printed 0 t) rest))
      (record {
        following = found.following;
        text = ap (λ u. codes "(" ++ u) found.text;
        stops = inside_stops (a_group (λ u is. true≢false (sym quiet ∙ ap begins_no_quantifier is)) (λ word u verb is same. true≢false (sym quiet ∙ ap begins_no_quantifier same ∙ verb_begins_like_quantifier u is)))
            in_group found.stops;
      })

  leaf_deep : (t : Tree) → is_printable t ≡ true → is_empty_tree t ≡ false → printed 0 t ≡ printed 3 t → printed 1 t ≡ printed 3 t → printed 2 t ≡ printed 3 t →
      printed_levels 0 t ≡ printed_levels 3 t → printed_levels 1 t ≡ printed_levels 3 t → printed_levels 2 t ≡ printed_levels 3 t →
      ((n : ℕ) → up_to_too_deep 0 n t ≡ up_to_too_deep 3 n t) → ((n : ℕ) → up_to_too_deep 1 n t ≡ up_to_too_deep 3 n t) → ((n : ℕ) → up_to_too_deep 2 n t ≡ up_to_too_deep 3 n t) →
      ((n : ℕ) (rest : Text) → n < printed_levels 3 t → AtomDeep size unicode n (printed 3 t ++ rest) (up_to_too_deep 3 n t)) → Deep size unicode t
  leaf_deep t p some text0 text1 text2 levels0 levels1 levels2 before0 before1 before2 atom_at =
      let piece_at : (n : ℕ) (rest : Text) → n < printed_levels 3 t → PieceDeep size unicode n (printed 3 t ++ rest) (up_to_too_deep 3 n t) =
      λ n rest h. atom_is_piece n _ _ (atom_at n rest h) in
      let branch_at : (n : ℕ) (rest : Text) → n < printed_levels 3 t → BranchDeep size unicode n (printed 3 t ++ rest) (up_to_too_deep 3 n t) =
      λ n rest h. piece_is_branch n _ _ (plain_start_of_target t rest p some).token (piece_at n rest h) in
      record {
        atom = atom_at;
        piece = λ n rest h. subst (λ (u : Text). PieceDeep size unicode n (printed 2 t ++ rest) u) (sym (before2 n))
            (subst (λ (u : Text). PieceDeep size unicode n (u ++ rest) (up_to_too_deep 3 n t)) (sym text2) (piece_at n rest (subst (λ (k : ℕ). n < k) levels2 h)));
        branch = λ n rest h end. subst (λ (u : Text). BranchDeep size unicode n (printed 1 t ++ rest) u) (sym (before1 n))
            (subst (λ (u : Text). BranchDeep size unicode n (u ++ rest) (up_to_too_deep 3 n t)) (sym text1) (branch_at n rest (subst (λ (k : ℕ). n < k) levels1 h)));
        whole = λ n rest h end. subst (λ (u : Text). WholeDeep size unicode n (printed 0 t ++ rest) u) (sym (before0 n))
            (subst (λ (u : Text). WholeDeep size unicode n (u ++ rest) (up_to_too_deep 3 n t)) (sym text0)
            (branch_is_whole n _ _ (branch_at n rest (subst (λ (k : ℕ). n < k) levels0 h))));
      }

  cased_deep : (casei : Bool) (t : Text) (n : ℕ) (rest : Text) → n < level casei 0 → AtomDeep size unicode n (with_case casei t ++ rest) []
  unfolding with_case case_start group_end
  cased_deep false t n rest h = absurd (omega arith)
  cased_deep true t zero rest h = paren_deep _
  cased_deep true t (suc n) rest h = absurd (omega arith)

  dot_deep : (new crlf : Bool) (n : ℕ) (rest : Text) → n < level (new || crlf) 0 → AtomDeep size unicode n (dot_text new crlf ++ rest) []
  unfolding dot_text
  dot_deep false false n rest h = absurd (omega arith)
  dot_deep true crlf zero rest h = paren_deep _
  dot_deep false true zero rest h = paren_deep _
  dot_deep true crlf (suc n) rest h = absurd (omega arith)
  dot_deep false true (suc n) rest h = absurd (omega arith)

  assertion_deep : (a : Assertion) (n : ℕ) (rest : Text) → n < assertion_levels a → AtomDeep size unicode n (assertion_text a ++ rest) []
  unfolding assertion_text start_line_text end_line_text assertion_levels
  assertion_deep (StartLine true) zero rest h = paren_deep _
  assertion_deep (StartLine false) zero rest h = paren_deep _
  assertion_deep (EndLine true) zero rest h = paren_deep _
  assertion_deep (EndLine false) zero rest h = paren_deep _
  assertion_deep (StartLine crlf) (suc n) rest h = absurd (omega arith)
  assertion_deep (EndLine crlf) (suc n) rest h = absurd (omega arith)
  assertion_deep StartText n rest h = absurd (omega arith)
  assertion_deep EndText n rest h = absurd (omega arith)
  assertion_deep (EndTextIgnoreTrailingNewlines crlf) n rest h = absurd (omega arith)
  assertion_deep (StartLineOniguruma crlf) n rest h = absurd (omega arith)
  assertion_deep LeftWordBoundary n rest h = absurd (omega arith)
  assertion_deep RightWordBoundary n rest h = absurd (omega arith)
  assertion_deep LeftWordHalfBoundary n rest h = absurd (omega arith)
  assertion_deep RightWordHalfBoundary n rest h = absurd (omega arith)
  assertion_deep WordBoundary n rest h = absurd (omega arith)
  assertion_deep NotWordBoundary n rest h = absurd (omega arith)

  empty_deep : Deep size unicode empty
  unfolding printed_levels
  empty_deep = record {
    atom = λ n rest h. absurd (omega arith);
    piece = λ n rest h. absurd (omega arith);
    branch = λ n rest h end. absurd (omega arith);
    whole = λ n rest h end. absurd (omega arith);
  }

  concat_deep : (ts : Trees) → are_printable ts ≡ true → AllReads size unicode ts → AllDeep ts → Deep size unicode (concat ts)
  unfolding printed printed_levels up_to_too_deep print.in_group group_start group_end
  concat_deep ts p read deep =
      let bare_at : (n : ℕ) (rest : Text) → n < most_levels 2 ts + 1 →
      AtomDeep size unicode n (print.in_group true (printed_pieces ts) ++ rest) (after_opening true (codes "(?:") (λ m. pieces_up_to_too_deep m ts) n) =
      λ n rest h. bare_deep n (most_levels 2 ts) (printed_pieces ts) rest (λ m. pieces_up_to_too_deep m ts) h
      (λ m few. branch_is_whole m _ _ (row_deep ts m (0x29 ∷ rest) read deep p few at_close)) in
      let row_at : (n : ℕ) (rest : Text) → n < most_levels 2 ts → EndsBranch rest →
      BranchDeep size unicode n (print.in_group false (printed_pieces ts) ++ rest) (pieces_up_to_too_deep n ts) =
      λ n rest h end. subst (λ (u : Text). BranchDeep size unicode n (u ++ rest) (pieces_up_to_too_deep n ts)) (sym (append-nil (printed_pieces ts))) (row_deep ts n rest read deep p h end) in
      record {
        atom = bare_at;
        piece = λ n rest h. atom_is_piece n _ _ (bare_at n rest h);
        branch = row_at;
        whole = λ n rest h end. branch_is_whole n _ _ (row_at n rest h (ends end));
      }

  alt_deep : (a : Tree) (ts : Trees) → AllReads size unicode (more_trees a ts) → AllDeep (more_trees a ts) → Deep size unicode (alt (more_trees a ts))
  unfolding printed printed_levels up_to_too_deep print.in_group group_start group_end
  alt_deep a ts read deep =
      let all = more_trees a ts in
      let whole_at : (n : ℕ) (rest : Text) → n < most_levels 1 all → Closing rest → WholeDeep size unicode n (printed_branches all ++ rest) (branches_up_to_too_deep n all) =
      λ n rest h end. many_deep a ts n rest read.0 deep.0 read.1 deep.1 h end in
      let bare_at : (n : ℕ) (rest : Text) → n < most_levels 1 all + 1 →
      AtomDeep size unicode n (print.in_group true (printed_branches all) ++ rest) (after_opening true (codes "(?:") (λ m. branches_up_to_too_deep m all) n) =
      λ n rest h. bare_deep n (most_levels 1 all) (printed_branches all) rest (λ m. branches_up_to_too_deep m all) h (λ m few. whole_at m (0x29 ∷ rest) few closing_paren) in
      record {
        atom = bare_at;
        piece = λ n rest h. atom_is_piece n _ _ (bare_at n rest h);
        branch = λ n rest h end. piece_is_branch n _ _ refl (atom_is_piece n _ _ (bare_at n rest h));
        whole = λ n rest h end. subst (λ (u : Text). WholeDeep size unicode n (u ++ rest) (branches_up_to_too_deep n all)) (sym (append-nil (printed_branches all))) (whole_at n rest h end);
      }

  repeat_deep : (t : Tree) (lo hi : ℕ) (greedy : Bool) → Deep size unicode t → is_printable t ≡ true → can_be_repeated (node_kind (normal_form t)) ≡ true →
      Deep size unicode (repeat t lo hi greedy)
  unfolding printed printed_levels up_to_too_deep print.in_group group_start group_end
  repeat_deep t lo hi greedy deep p can =
      let text = printed 3 t ++ quantifier_text lo hi greedy in
      let piece_at : (n : ℕ) (rest : Text) → n < printed_levels 3 t → PieceDeep size unicode n (text ++ rest) (up_to_too_deep 3 n t) =
      λ n rest h. subst (λ (u : Text). PieceDeep size unicode n u (up_to_too_deep 3 n t)) (sym (append_assoc (printed 3 t) (quantifier_text lo hi greedy) rest))
      (atom_is_piece n _ _ (deep.atom n (quantifier_text lo hi greedy ++ rest) h)) in
      let token : (rest : Text) → is_comment (text ++ rest) ≡ false =
      λ rest. ap is_comment (append_assoc (printed 3 t) (quantifier_text lo hi greedy) rest) ∙ (plain_start_of_target t (quantifier_text lo hi greedy ++ rest) p (some_target t can)).token in
      let branch_at : (n : ℕ) (rest : Text) → n < printed_levels 3 t → BranchDeep size unicode n (text ++ rest) (up_to_too_deep 3 n t) =
      λ n rest h. piece_is_branch n _ _ (token rest) (piece_at n rest h) in
      record {
        atom = λ n rest h. bare_deep n (printed_levels 3 t) text rest (λ m. up_to_too_deep 3 m t) h (λ m few. branch_is_whole m _ _ (branch_at m (0x29 ∷ rest) few));
        piece = λ n rest h. subst (λ (u : Text). PieceDeep size unicode n (u ++ rest) (up_to_too_deep 3 n t)) (sym (append-nil text)) (piece_at n rest h);
        branch = λ n rest h end. subst (λ (u : Text). BranchDeep size unicode n (u ++ rest) (up_to_too_deep 3 n t)) (sym (append-nil text)) (branch_at n rest h);
        whole = λ n rest h end. subst (λ (u : Text). WholeDeep size unicode n (u ++ rest) (up_to_too_deep 3 n t)) (sym (append-nil text)) (branch_is_whole n _ _ (branch_at n rest h));
      }

  mutual
    unfolding printed is_printable has_two_branches printed_levels up_to_too_deep CountsFit

    pub deep : (t : Tree) → is_printable t ≡ true → CountsFit t → Deep size unicode t
    deep empty p fit = empty_deep
    deep (any new crlf) p fit = leaf_deep (any new crlf) p refl refl refl refl refl refl refl (λ n. refl) (λ n. refl) (λ n. refl) (dot_deep new crlf)
    deep (assertion a) p fit = leaf_deep (assertion a) p refl refl refl refl refl refl refl (λ n. refl) (λ n. refl) (λ n. refl) (assertion_deep a)
    deep (general_newline a) p fit = absurd (false≢true p)
    deep (literal val casei) p fit = leaf_deep (literal val casei) p refl refl refl refl refl refl refl (λ n. refl) (λ n. refl) (λ n. refl) (cased_deep casei (escaped val))
    deep (literal_bytes a) p fit = absurd (false≢true p)
    deep (concat ts) p fit = concat_deep ts p (all_read size unicode ts p fit) (all_deep ts p fit)
    deep (alt no_trees) p fit = absurd (false≢true p)
    deep (alt (more_trees a ts)) p fit =
        let parts = and_parts (has_two_branches (more_trees a ts)) (are_printable (more_trees a ts)) p in
        alt_deep a ts (all_read size unicode (more_trees a ts) parts.1 fit) (all_deep (more_trees a ts) parts.1 fit)
    deep (group t) p fit =
        let inside = deep t p fit in
        leaf_deep (group t) p refl refl refl refl refl refl refl (λ n. refl) (λ n. refl) (λ n. refl) (λ n rest h. capture_deep n t rest h
        (plain_start 0 t (0x29 ∷ rest) p (record { quiet = refl; token = refl })).quiet (λ m few. inside.whole m (0x29 ∷ rest) few closing_paren))
    deep (look_around a b) p fit = absurd (false≢true p)
    deep (repeat t lo hi greedy) p fit =
        let parts = and_parts (nat_lt lo unbounded && can_be_repeated (node_kind (normal_form t))) (is_printable t) p in
        let bounds = and_parts (nat_lt lo unbounded) (can_be_repeated (node_kind (normal_form t))) parts.0 in
        repeat_deep t lo hi greedy (deep t parts.1 fit.1) parts.1 bounds.1
    deep (delegate inner casei) p fit = leaf_deep (delegate inner casei) p refl refl refl refl refl refl refl (λ n. refl) (λ n. refl) (λ n. refl) (cased_deep casei inner)
    deep (backref a b) p fit = absurd (false≢true p)
    deep (backref_with_level a b d) p fit = absurd (false≢true p)
    deep (atomic_group a) p fit = absurd (false≢true p)
    deep keep_out p fit = absurd (false≢true p)
    deep continue p fit = absurd (false≢true p)
    deep (backref_exists a b) p fit = absurd (false≢true p)
    deep (conditional a b d) p fit = absurd (false≢true p)
    deep (subroutine_call a) p fit = absurd (false≢true p)
    deep (verb a) p fit = absurd (false≢true p)
    deep (absent_repeater a) p fit = absurd (false≢true p)
    deep (absent_expression a b) p fit = absurd (false≢true p)
    deep (absent_stopper a) p fit = absurd (false≢true p)
    deep absent_clear p fit = absurd (false≢true p)
    deep (define_group a) p fit = absurd (false≢true p)
    deep (ast_group a b d) p fit = absurd (false≢true p)
    deep (ast_backref a b d e) p fit = absurd (false≢true p)
    deep (ast_call a b) p fit = absurd (false≢true p)
    deep (ast_condition a b d) p fit = absurd (false≢true p)

    all_deep : (ts : Trees) → are_printable ts ≡ true → AllCountsFit ts → AllDeep ts
    all_deep no_trees p fit = tt
    all_deep (more_trees t ts) p fit =
        let parts = and_parts (is_printable t) (are_printable ts) p in (deep t parts.0 fit.0, all_deep ts parts.1 fit.1)
