-- Printed trees, read.
use Rattle.std.proofs.Common.{◌≡◌, ◌≢◌, ℕ, zero, suc, ◌+◌, ◌≤◌, ◌<◌, Bool, true, false, ◌&&◌, ◌==◌, List, [], ◌∷◌, ◌++◌, codes, Option, Some, None, is_some, unwrap_or, refl, sym, ap, subst}
use Rattle.std.proofs.Common.{◌∙◌, arith, append_assoc, append-nil, nat_lt, ◌⊎◌, inl, inr}
use Rattle.std.proofs.lemmas.Bool.{false≢true, true≢false, and_parts, ltb-true}
use Rattle.fancy_regex_text.specs.Text.{Text, unbounded}
use Rattle.fancy_regex_lex.specs.declared.token.Verb.{Verb}
use Rattle.fancy_regex_lex_grammar.specs.Flags.{before_body}
use Rattle.fancy_regex_lex_grammar.specs.Openings.{IsVerb, fail, accept, commit, skip, prune, a_group, flags_for_body}
use Rattle.fancy_regex_grammar.specs.Quantifiers.{no_more}
use Rattle.fancy_regex_grammar.specs.Patterns.{IsAtom, IsPiece, IsBranch, IsBranches, EndsBranch, at_end, at_bar, at_close, capturing_group, bare_group, with_quantifiers, no_more_pieces}
use Rattle.fancy_regex_grammar.specs.Patterns.{and_piece, last_branch, and_branch}
use Rattle.fancy_regex_tree.specs.Tree.{Tree, Trees, trees, no_trees, more_trees, empty, any, assertion, general_newline, literal, literal_bytes, concat, alt, group, look_around, repeat}
use Rattle.fancy_regex_tree.specs.Tree.{delegate, backref, backref_with_level, atomic_group, keep_out, continue, backref_exists, conditional, subroutine_call, verb, absent_repeater}
use Rattle.fancy_regex_tree.specs.Tree.{absent_expression, absent_stopper, absent_clear, define_group, ast_group, ast_backref, ast_call, ast_condition}
use Rattle.fancy_regex_tree.specs.TreeBuilders.{is_empty_tree, without_empty, joined, branch_of, all_branches, pattern_of}
use Rattle.fancy_regex_tree.specs.declared.expr.Assertion.{Assertion}
use Rattle.fancy_regex_tree.specs.Parser.{Branches, plain}
use Rattle.fancy_regex_tree.specs.Atoms.{place}
use Rattle.fancy_regex_tree.specs.Printed.{escaped_char, escaped, in_group, group_start, group_end, quantifier_text, printed, printed_pieces, printed_branches, later_branches}
use Rattle.fancy_regex_tree.specs.NormalForm.{class_alone, node_kind, with_piece, row_of, normal_form, normal_pieces, normal_branches}
use Rattle.fancy_regex_tree.specs.Printable.{can_be_repeated, is_one_character, has_two_branches, is_printable, are_printable, level, printed_levels, most_levels}
use Rattle.fancy_regex_print_laws.specs.ReprintLaws.{plain_mode, no_flags, CountsFit, AllCountsFit}
use Rattle.fancy_regex_print_laws.proofs.NamelessTrees.{nameless_tree, nameless_trees}
use Rattle.fancy_regex_print_laws.proofs.Starts.{skipped, no_quantifier}
use Rattle.fancy_regex_print_laws.proofs.Tokens.{flags, literal_atom}
use Rattle.fancy_regex_print_laws.proofs.Nodes.{is_look, target_is, one_more_piece, row_single, row_joined, branches_joined}
use Rattle.fancy_regex_print_laws.proofs.Atoms.{AtomRead, same_text, closed_text, cased, class_atom, dot_read, assertion_read}
use Rattle.fancy_regex_print_laws.proofs.Repeats.{under_printed}
use Rattle.fancy_regex_print_laws.proofs.PlainStarts.{escaped_plain_start, class_plain_start, plain_start, plain_start_of_target, plain_start_of_pieces, some_target}
use Rattle.fancy_regex_print_laws.specs.PrintedParts.{Closing, PlainStart, begins_no_quantifier, closing_end, closing_paren, is_comment}

abbrev pub NoLooks : List Tree → Type 0
NoLooks [] = Unit {0}
NoLooks (e ∷ es) = (is_look e ≡ false) × NoLooks es

keep : (b : Bool) (e : Tree) (es : List Tree) → is_look e ≡ false → NoLooks es → NoLooks (elim b [ true ↦ es | false ↦ e ∷ es ])
keep true e es look looks = looks
keep false e es look looks = (look, looks)

kept_looks : (ps : List Tree) → NoLooks ps → NoLooks (without_empty ps)
kept_looks [] looks = tt
kept_looks (e ∷ es) looks = keep (is_empty_tree e) e (without_empty es) looks.0 (kept_looks es looks.1)

joined_look : (ps : List Tree) → NoLooks ps → is_look (joined concat ps) ≡ false
joined_look [] looks = refl
joined_look (e ∷ []) looks = looks.0
joined_look (e ∷ d ∷ es) looks = refl

branch_look : (ps : List Tree) → NoLooks ps → is_look (branch_of ps) ≡ false
branch_look ps looks = joined_look (without_empty ps) (kept_looks ps looks)

pub ends : {t : Text} → Closing t → EndsBranch t
ends closing_end = at_end
ends closing_paren = at_close

is_bar : Text → Bool
is_bar [] = false
is_bar (c ∷ t) = c == 0x7C

no_bar : {t : Text} → Closing t → (u : Text) → t ≢ 0x7C ∷ u
unfolding is_bar
no_bar closing_end u h = false≢true (ap is_bar h)
no_bar closing_paren u h = false≢true (ap is_bar h)

pub branch_end_plain_start : {t : Text} → EndsBranch t → PlainStart t
branch_end_plain_start at_end = record { quiet = refl; token = refl }
branch_end_plain_start at_bar = record { quiet = refl; token = refl }
branch_end_plain_start at_close = record { quiet = refl; token = refl }

pub verb_begins_like_quantifier : {word : Text} {verb : Verb} (u : Text) → IsVerb word verb → begins_no_quantifier (word ++ u) ≡ false
verb_begins_like_quantifier u fail = refl
verb_begins_like_quantifier u accept = refl
verb_begins_like_quantifier u commit = refl
verb_begins_like_quantifier u skip = refl
verb_begins_like_quantifier u prune = refl

pub empty_tree_is : (t : Tree) → is_empty_tree t ≡ true → t ≡ empty
empty_tree_is empty h = refl
empty_tree_is (any a b) h = absurd (false≢true h)
empty_tree_is (assertion a) h = absurd (false≢true h)
empty_tree_is (general_newline a) h = absurd (false≢true h)
empty_tree_is (literal a b) h = absurd (false≢true h)
empty_tree_is (literal_bytes a) h = absurd (false≢true h)
empty_tree_is (concat a) h = absurd (false≢true h)
empty_tree_is (alt a) h = absurd (false≢true h)
empty_tree_is (group a) h = absurd (false≢true h)
empty_tree_is (look_around a b) h = absurd (false≢true h)
empty_tree_is (repeat a b d e) h = absurd (false≢true h)
empty_tree_is (delegate a b) h = absurd (false≢true h)
empty_tree_is (backref a b) h = absurd (false≢true h)
empty_tree_is (backref_with_level a b d) h = absurd (false≢true h)
empty_tree_is (atomic_group a) h = absurd (false≢true h)
empty_tree_is keep_out h = absurd (false≢true h)
empty_tree_is continue h = absurd (false≢true h)
empty_tree_is (backref_exists a b) h = absurd (false≢true h)
empty_tree_is (conditional a b d) h = absurd (false≢true h)
empty_tree_is (subroutine_call a) h = absurd (false≢true h)
empty_tree_is (verb a) h = absurd (false≢true h)
empty_tree_is (absent_repeater a) h = absurd (false≢true h)
empty_tree_is (absent_expression a b) h = absurd (false≢true h)
empty_tree_is (absent_stopper a) h = absurd (false≢true h)
empty_tree_is absent_clear h = absurd (false≢true h)
empty_tree_is (define_group a) h = absurd (false≢true h)
empty_tree_is (ast_group a b d) h = absurd (false≢true h)
empty_tree_is (ast_backref a b d e) h = absurd (false≢true h)
empty_tree_is (ast_call a b) h = absurd (false≢true h)
empty_tree_is (ast_condition a b d) h = absurd (false≢true h)

pub record PieceRead (size : ℕ) (unicode : Bool) (n : ℕ) (t : Text) (form : Tree) (rest : Text) : Type 0 where
  pub tree : Tree
  pub reading : IsPiece (plain_mode size unicode) n false no_flags t tree no_flags rest
  pub is_form : nameless_tree tree ≡ form
  pub no_look : is_look tree ≡ false

pub record RowRead (size : ℕ) (unicode : Bool) (n : ℕ) (t : Text) (forms : Trees) (rest : Text) : Type 0 where
  pub pieces : List Tree
  pub reading : IsBranch (plain_mode size unicode) n false no_flags t pieces no_flags rest
  pub is_forms : nameless_trees (trees (without_empty pieces)) ≡ forms
  pub no_looks : NoLooks pieces

pub record BranchRead (size : ℕ) (unicode : Bool) (n : ℕ) (t : Text) (form : Tree) (rest : Text) : Type 0 where
  pub pieces : List Tree
  pub reading : IsBranch (plain_mode size unicode) n false no_flags t pieces no_flags rest
  pub is_form : nameless_tree (branch_of pieces) ≡ form
  pub no_look : is_look (branch_of pieces) ≡ false

pub record ManyRead (size : ℕ) (unicode : Bool) (n : ℕ) (t : Text) (forms : Trees) (rest : Text) : Type 0 where
  pub body : Branches
  pub reading : IsBranches (plain_mode size unicode) n false no_flags t body no_flags rest
  pub is_forms : nameless_trees (trees (all_branches body)) ≡ forms

pub record WholeRead (size : ℕ) (unicode : Bool) (n : ℕ) (t : Text) (form : Tree) (rest : Text) : Type 0 where
  pub body : Branches
  pub reading : IsBranches (plain_mode size unicode) n false no_flags t body no_flags rest
  pub is_form : nameless_tree (pattern_of body) ≡ form
  pub no_look : is_look (pattern_of body) ≡ false

counted_one : (e : Tree) → nameless_trees (trees (e ∷ [])) ≡ more_trees (nameless_tree e) no_trees
unfolding nameless_tree
counted_one e = refl

one_tree : Trees → Bool
one_tree no_trees = false
one_tree (more_trees t no_trees) = true
one_tree (more_trees t (more_trees u ts)) = false

one_is_not_two : (e a b : Tree) (ts : Trees) → nameless_trees (trees (e ∷ [])) ≡ more_trees a (more_trees b ts) → ⊥
unfolding one_tree
one_is_not_two e a b ts h = true≢false (ap one_tree (sym (counted_one e) ∙ h))

-- How the text of a tree is read at each precedence.
pub record Reads (size : ℕ) (unicode : Bool) (t : Tree) : Type 0 where
  pub atom : (n : ℕ) (rest : Text) → is_empty_tree t ≡ false → printed_levels 3 t ≤ n → (can_be_repeated (node_kind (normal_form t)) ≡ true) ⊎ PlainStart rest →
      AtomRead size unicode n (printed 3 t ++ rest) (normal_form t) rest
  pub piece : (n : ℕ) (rest : Text) → is_empty_tree t ≡ false → printed_levels 2 t ≤ n → PlainStart rest → PieceRead size unicode n (printed 2 t ++ rest) (normal_form t) rest
  pub branch : (n : ℕ) (rest : Text) → printed_levels 1 t ≤ n → EndsBranch rest → BranchRead size unicode n (printed 1 t ++ rest) (normal_form t) rest
  pub whole : (n : ℕ) (rest : Text) → printed_levels 0 t ≤ n → Closing rest → WholeRead size unicode n (printed 0 t ++ rest) (normal_form t) rest

module _ (size : ℕ) (unicode : Bool) where
  abbrev pub AllReads : Trees → Type 0
  AllReads no_trees = Unit {0}
  AllReads (more_trees t ts) = Reads size unicode t × AllReads ts

  atom_is_piece : (n : ℕ) (t rest : Text) (form : Tree) → PlainStart rest → AtomRead size unicode n t form rest → PieceRead size unicode n t form rest
  atom_is_piece n t rest form plain_start a = record {
    tree = (a.atom).tree;
    reading = with_quantifiers a.reading (no_more (skipped plain_start.token) (no_quantifier plain_start.quiet));
    is_form = a.is_form;
    no_look = a.no_look;
  }

  -- pieces in a row
  row_read : (ts : Trees) (n : ℕ) (rest : Text) → AllReads ts → are_printable ts ≡ true → most_levels 2 ts ≤ n → EndsBranch rest →
      RowRead size unicode n (printed_pieces ts ++ rest) (normal_pieces ts) rest
  unfolding printed normal_form is_printable printed_levels nameless_tree with_piece node_kind
  row_read no_trees n rest reads p levels end =
      record { pieces = []; reading = no_more_pieces (skipped (branch_end_plain_start end).token) end; is_forms = refl; no_looks = tt }
  row_read (more_trees t ts) n rest reads p levels end =
      let parts = and_parts (is_printable t) (are_printable ts) p in
      let here : printed_levels 2 t ≤ n = omega arith in
      let later : most_levels 2 ts ≤ n = omega arith in
      row_step t ts n rest reads.0 parts.0 here (plain_start_of_pieces ts rest parts.1 (branch_end_plain_start end)) (row_read ts n rest reads.1 parts.1 later end)
    where
      at_empty : (t : Tree) (ts : Trees) (n : ℕ) (rest : Text) → t ≡ empty → RowRead size unicode n (printed_pieces ts ++ rest) (normal_pieces ts) rest →
          RowRead size unicode n (printed_pieces (more_trees t ts) ++ rest) (normal_pieces (more_trees t ts)) rest
      at_empty t ts n rest is others =
          subst (λ (u : Tree). RowRead size unicode n (printed_pieces (more_trees u ts) ++ rest) (normal_pieces (more_trees u ts)) rest) (sym is) others

      at_piece : (t : Tree) (ts : Trees) (n : ℕ) (rest : Text) → is_printable t ≡ true → PlainStart (printed_pieces ts ++ rest) →
          PieceRead size unicode n (printed 2 t ++ (printed_pieces ts ++ rest)) (normal_form t) (printed_pieces ts ++ rest) →
          RowRead size unicode n (printed_pieces ts ++ rest) (normal_pieces ts) rest →
          RowRead size unicode n (printed_pieces (more_trees t ts) ++ rest) (normal_pieces (more_trees t ts)) rest
      at_piece t ts n rest p after first others =
          subst (λ (u : Text). RowRead size unicode n u (normal_pieces (more_trees t ts)) rest) (sym (append_assoc (printed 2 t) (printed_pieces ts) rest))
          (record {
            pieces = first.tree ∷ others.pieces;
            reading = and_piece (skipped (plain_start 2 t (printed_pieces ts ++ rest) p after).token) first.reading others.reading;
            is_forms = one_more_piece first.tree others.pieces ∙ (λ i. with_piece (first.is_form i) (others.is_forms i));
            no_looks = (first.no_look, others.no_looks);
          })

      by_emptiness : (b : Bool) (t : Tree) (ts : Trees) (n : ℕ) (rest : Text) → is_empty_tree t ≡ b → Reads size unicode t → is_printable t ≡ true → printed_levels 2 t ≤ n →
          PlainStart (printed_pieces ts ++ rest) → RowRead size unicode n (printed_pieces ts ++ rest) (normal_pieces ts) rest →
          RowRead size unicode n (printed_pieces (more_trees t ts) ++ rest) (normal_pieces (more_trees t ts)) rest
      by_emptiness true t ts n rest is read p levels after others = at_empty t ts n rest (empty_tree_is t is) others
      by_emptiness false t ts n rest is read p levels after others =
          at_piece t ts n rest p after (read.piece n (printed_pieces ts ++ rest) is levels after) others

      row_step : (t : Tree) (ts : Trees) (n : ℕ) (rest : Text) → Reads size unicode t → is_printable t ≡ true → printed_levels 2 t ≤ n →
          PlainStart (printed_pieces ts ++ rest) → RowRead size unicode n (printed_pieces ts ++ rest) (normal_pieces ts) rest →
          RowRead size unicode n (printed_pieces (more_trees t ts) ++ rest) (normal_pieces (more_trees t ts)) rest
      row_step t ts n rest read p levels after others = by_emptiness (is_empty_tree t) t ts n rest refl read p levels after others

  row_is_branch : (n : ℕ) (t rest : Text) (forms : Trees) → RowRead size unicode n t forms rest → BranchRead size unicode n t (row_of forms) rest
  row_is_branch n t rest forms row = record {
    pieces = row.pieces;
    reading = row.reading;
    is_form = row_joined (without_empty (row.pieces)) ∙ ap row_of (row.is_forms);
    no_look = branch_look (row.pieces) (row.no_looks);
  }

  piece_is_branch : (n : ℕ) (t rest : Text) (form : Tree) → is_comment t ≡ false → EndsBranch rest → PieceRead size unicode n t form rest → BranchRead size unicode n t form rest
  unfolding nameless_tree
  piece_is_branch n t rest form token end first = record {
    pieces = first.tree ∷ [];
    reading = and_piece (skipped token) first.reading (no_more_pieces (skipped (branch_end_plain_start end).token) end);
    is_form = row_joined (without_empty (first.tree ∷ [])) ∙ ap row_of (one_more_piece first.tree []) ∙ row_single (nameless_tree first.tree) ∙ first.is_form;
    no_look = branch_look (first.tree ∷ []) (first.no_look, tt);
  }

  branch_is_whole : (n : ℕ) (t rest : Text) (form : Tree) → Closing rest → BranchRead size unicode n t form rest → WholeRead size unicode n t form rest
  branch_is_whole n t rest form end branch = record {
    body = branch.pieces ∷ [];
    reading = last_branch branch.reading (no_bar end);
    is_form = branch.is_form;
    no_look = branch.no_look;
  }

  -- branches, of which there is one at least
  many_read : (t : Tree) (ts : Trees) (n : ℕ) (rest : Text) → Reads size unicode t → AllReads ts → most_levels 1 (more_trees t ts) ≤ n → Closing rest →
      ManyRead size unicode n (printed_branches (more_trees t ts) ++ rest) (normal_branches (more_trees t ts)) rest
  unfolding printed normal_form printed_levels nameless_tree
  many_read t no_trees n rest read reads levels end =
      let here : printed_levels 1 t ≤ n = omega arith in
      let first = read.branch n rest here (ends end) in
      subst (λ (u : Text). ManyRead size unicode n u (more_trees (normal_form t) no_trees) rest) (sym (ap (λ u. u ++ rest) (append-nil (printed 1 t))))
      (record {
        body = first.pieces ∷ [];
        reading = last_branch first.reading (no_bar end);
        is_forms = ap (λ e. more_trees e no_trees) first.is_form;
      })
  many_read t (more_trees u us) n rest read reads levels end =
      let here : printed_levels 1 t ≤ n = omega arith in
      let later : most_levels 1 (more_trees u us) ≤ n = omega arith in
      let others = many_read u us n rest reads.0 reads.1 later end in
      let first = read.branch n (0x7C ∷ (printed_branches (more_trees u us) ++ rest)) here at_bar in
      subst (λ (v : Text). ManyRead size unicode n v (more_trees (normal_form t) (normal_branches (more_trees u us))) rest)
      (sym (append_assoc (printed 1 t) (later_branches (more_trees u us)) rest))
      (record {
        body = first.pieces ∷ others.body;
        reading = and_branch first.reading others.reading;
        is_forms = λ i. more_trees (first.is_form i) (others.is_forms i);
      })

  -- in a group that captures nothing
  bare_read : (n : ℕ) (t rest : Text) (form : Tree) → WholeRead size unicode n (t ++ (0x29 ∷ rest)) form (0x29 ∷ rest) →
      AtomRead size unicode (suc n) (in_group true t ++ rest) form rest
  unfolding in_group group_start group_end
  bare_read n t rest form inside = same_text (closed_text (codes "(?:") t rest) (record {
    atom = record { tree = pattern_of (inside.body); is_non_capturing_group = true };
    reading = bare_group (flags_for_body before_body) (inside.reading);
    is_form = inside.is_form;
    no_look = inside.no_look;
  })

  capture_read : (n : ℕ) (t : Tree) (rest : Text) → begins_no_quantifier (printed 0 t ++ (0x29 ∷ rest)) ≡ true →
      WholeRead size unicode n (printed 0 t ++ (0x29 ∷ rest)) (normal_form t) (0x29 ∷ rest) →
      AtomRead size unicode (suc n) (printed 3 (group t) ++ rest) (normal_form (group t)) rest
  unfolding printed normal_form nameless_tree
  capture_read n t rest quiet inside = same_text (closed_text (codes "(") (printed 0 t) rest) (record {
    atom = plain (ast_group None (pattern_of (inside.body)) (place (plain_mode size unicode) (0x28 ∷ (printed 0 t ++ (0x29 ∷ rest)))));
    reading = capturing_group (a_group (λ u h. true≢false (sym quiet ∙ ap begins_no_quantifier h)) (λ word u verb is h. true≢false (sym quiet ∙ ap begins_no_quantifier h ∙ verb_begins_like_quantifier u is)))
        (inside.reading);
    is_form = ap group (inside.is_form);
    no_look = refl;
  })

  -- a node that stands for itself at each precedence
  leaf : (t : Tree) → is_printable t ≡ true → is_empty_tree t ≡ false → printed 0 t ≡ printed 3 t → printed 1 t ≡ printed 3 t → printed 2 t ≡ printed 3 t →
      printed_levels 0 t ≡ printed_levels 3 t → printed_levels 1 t ≡ printed_levels 3 t → printed_levels 2 t ≡ printed_levels 3 t →
      ((n : ℕ) (rest : Text) → printed_levels 3 t ≤ n → (can_be_repeated (node_kind (normal_form t)) ≡ true) ⊎ PlainStart rest →
      AtomRead size unicode n (printed 3 t ++ rest) (normal_form t) rest) → Reads size unicode t
  leaf t p some text0 text1 text2 levels0 levels1 levels2 atom_at =
      let piece_at : (n : ℕ) (rest : Text) → printed_levels 3 t ≤ n → PlainStart rest → PieceRead size unicode n (printed 3 t ++ rest) (normal_form t) rest =
      λ n rest h after. atom_is_piece n (printed 3 t ++ rest) rest (normal_form t) after (atom_at n rest h (inr after)) in
      let branch_at : (n : ℕ) (rest : Text) → printed_levels 3 t ≤ n → EndsBranch rest → BranchRead size unicode n (printed 3 t ++ rest) (normal_form t) rest =
      λ n rest h end. piece_is_branch n (printed 3 t ++ rest) rest (normal_form t) (plain_start_of_target t rest p some).token end (piece_at n rest h (branch_end_plain_start end)) in
      record {
        atom = λ n rest filled h after. atom_at n rest h after;
        piece = λ n rest filled h after. subst (λ (u : Text). PieceRead size unicode n (u ++ rest) (normal_form t) rest) (sym text2) (piece_at n rest (subst (λ (k : ℕ). k ≤ n) levels2 h) after);
        branch = λ n rest h end. subst (λ (u : Text). BranchRead size unicode n (u ++ rest) (normal_form t) rest) (sym text1) (branch_at n rest (subst (λ (k : ℕ). k ≤ n) levels1 h) end);
        whole = λ n rest h end. subst (λ (u : Text). WholeRead size unicode n (u ++ rest) (normal_form t) rest) (sym text0)
            (branch_is_whole n (printed 3 t ++ rest) rest (normal_form t) end (branch_at n rest (subst (λ (k : ℕ). k ≤ n) levels0 h) (ends end)));
      }

  empty_reads : Reads size unicode empty
  unfolding printed normal_form nameless_tree
  empty_reads =
      let branch_at : (n : ℕ) (rest : Text) → EndsBranch rest → BranchRead size unicode n rest empty rest =
      λ n rest end. record { pieces = []; reading = no_more_pieces (skipped (branch_end_plain_start end).token) end; is_form = refl; no_look = refl } in
      record {
        atom = λ n rest filled h after. absurd (true≢false filled);
        piece = λ n rest filled h after. absurd (true≢false filled);
        branch = λ n rest h end. branch_at n rest end;
        whole = λ n rest h end. branch_is_whole n rest rest empty end (branch_at n rest (ends end));
      }

  literal_atom_read : (val : Text) (casei : Bool) (n : ℕ) (rest : Text) → is_one_character val ≡ true → level casei 0 ≤ n →
      AtomRead size unicode n (printed 3 (literal val casei) ++ rest) (literal val casei) rest
  unfolding printed is_one_character escaped nameless_tree
  literal_atom_read [] casei n rest p h = absurd (false≢true p)
  literal_atom_read (c ∷ d ∷ t) casei n rest p h = absurd (false≢true p)
  literal_atom_read (c ∷ []) casei n rest p h =
      cased size unicode n casei (escaped (c ∷ [])) rest (λ b. literal (c ∷ []) b) h
      (λ k b after. subst (λ (u : Text). IsAtom (plain_mode size unicode) k false (flags b false false false) (u ++ after) (plain (literal (c ∷ []) b)) (flags b false false false) after) (sym (append-nil (escaped_char c)))
      (literal_atom size unicode k b c after))
      (λ after. ap (λ u. is_comment (u ++ after)) (append-nil (escaped_char c)) ∙ (escaped_plain_start c after).token)
      (λ b. refl) (λ b. refl) (λ b. refl)

  class_read : (inner : Text) (casei : Bool) (n : ℕ) (rest : Text) (o : Option Text) → class_alone inner ≡ o → is_some o ≡ true → level casei 0 ≤ n →
      AtomRead size unicode n (printed 3 (delegate inner casei) ++ rest) (delegate (unwrap_or o inner) casei) rest
  unfolding printed nameless_tree
  class_read inner casei n rest None is p h = absurd (false≢true p)
  class_read inner casei n rest (Some class) is p h =
      cased size unicode n casei inner rest (λ b. delegate class b) h (class_atom size unicode inner class is)
      (λ after. (class_plain_start inner after (ap is_some is)).token) (λ b. refl) (λ b. refl) (λ b. refl)

  concat_reads : (ts : Trees) → are_printable ts ≡ true → AllReads ts → Reads size unicode (concat ts)
  unfolding printed normal_form is_printable printed_levels in_group group_start group_end
  concat_reads ts p reads =
      let form = row_of (normal_pieces ts) in
      let bare_at : (n : ℕ) (rest : Text) → most_levels 2 ts + 1 ≤ n → AtomRead size unicode n (in_group true (printed_pieces ts) ++ rest) form rest = bare_row ts p reads in
      let row_at : (n : ℕ) (rest : Text) → most_levels 2 ts ≤ n → EndsBranch rest → BranchRead size unicode n (in_group false (printed_pieces ts) ++ rest) form rest =
      λ n rest h end. subst (λ (u : Text). BranchRead size unicode n (u ++ rest) form rest) (sym (append-nil (printed_pieces ts)))
      (row_is_branch n (printed_pieces ts ++ rest) rest (normal_pieces ts) (row_read ts n rest reads p h end)) in
      record {
        atom = λ n rest filled h after. bare_at n rest h;
        piece = λ n rest filled h after. atom_is_piece n (in_group true (printed_pieces ts) ++ rest) rest form after (bare_at n rest h);
        branch = row_at;
        whole = λ n rest h end. branch_is_whole n (in_group false (printed_pieces ts) ++ rest) rest form end (row_at n rest h (ends end));
      }
    where
      bare_row : (ts : Trees) → are_printable ts ≡ true → AllReads ts → (n : ℕ) (rest : Text) → most_levels 2 ts + 1 ≤ n →
          AtomRead size unicode n (in_group true (printed_pieces ts) ++ rest) (row_of (normal_pieces ts)) rest
      bare_row ts p reads zero rest h = absurd (omega arith)
      bare_row ts p reads (suc n) rest h =
          bare_read n (printed_pieces ts) rest (row_of (normal_pieces ts))
          (branch_is_whole n (printed_pieces ts ++ (0x29 ∷ rest)) (0x29 ∷ rest) (row_of (normal_pieces ts)) closing_paren
          (row_is_branch n (printed_pieces ts ++ (0x29 ∷ rest)) (0x29 ∷ rest) (normal_pieces ts) (row_read ts n (0x29 ∷ rest) reads p (omega arith) at_close)))

  many_is_whole : (n : ℕ) (t rest : Text) (a b : Tree) (ts : Trees) → ManyRead size unicode n t (more_trees a (more_trees b ts)) rest →
      WholeRead size unicode n t (alt (more_trees a (more_trees b ts))) rest
  many_is_whole n t rest a b ts many = record {
    body = many.body;
    reading = many.reading;
    is_form = branches_joined (all_branches (many.body)) a b ts (many.is_forms);
    no_look = joined_alt_look (all_branches (many.body)) a b ts (many.is_forms);
  }
    where
      joined_alt_look : (bs : List Tree) (a b : Tree) (ts : Trees) → nameless_trees (trees bs) ≡ more_trees a (more_trees b ts) → is_look (joined alt bs) ≡ false
      joined_alt_look [] a b ts h = refl
      joined_alt_look (e ∷ d ∷ es) a b ts h = refl
      joined_alt_look (e ∷ []) a b ts h = absurd (one_is_not_two e a b ts h)

  alt_reads : (a b : Tree) (ts : Trees) → is_printable (alt (more_trees a (more_trees b ts))) ≡ true → AllReads (more_trees a (more_trees b ts)) →
      Reads size unicode (alt (more_trees a (more_trees b ts)))
  unfolding printed normal_form is_printable printed_levels in_group group_start group_end
  alt_reads a b ts p reads =
      let all = more_trees a (more_trees b ts) in
      let form = normal_form (alt all) in
      let whole_at : (n : ℕ) (rest : Text) → most_levels 1 all ≤ n → Closing rest → WholeRead size unicode n (printed_branches all ++ rest) form rest =
      λ n rest h end. many_is_whole n (printed_branches all ++ rest) rest (normal_form a) (normal_form b) (normal_branches ts) (many_read a (more_trees b ts) n rest reads.0 reads.1 h end) in
      let bare_at = bare_whole all whole_at in
      record {
        atom = λ n rest filled h after. bare_at n rest h;
        piece = λ n rest filled h after. atom_is_piece n (in_group true (printed_branches all) ++ rest) rest form after (bare_at n rest h);
        branch = λ n rest h end. piece_is_branch n (in_group true (printed_branches all) ++ rest) rest form refl end
            (atom_is_piece n (in_group true (printed_branches all) ++ rest) rest form (branch_end_plain_start end) (bare_at n rest h));
        whole = λ n rest h end. subst (λ (u : Text). WholeRead size unicode n (u ++ rest) form rest) (sym (append-nil (printed_branches all))) (whole_at n rest h end);
      }
    where
      bare_whole : (all : Trees) → ((n : ℕ) (rest : Text) → most_levels 1 all ≤ n → Closing rest → WholeRead size unicode n (printed_branches all ++ rest) (normal_form (alt all)) rest) →
          (n : ℕ) (rest : Text) → most_levels 1 all + 1 ≤ n → AtomRead size unicode n (in_group true (printed_branches all) ++ rest) (normal_form (alt all)) rest
      bare_whole all whole_at zero rest h = absurd (omega arith)
      bare_whole all whole_at (suc n) rest h = bare_read n (printed_branches all) rest (normal_form (alt all)) (whole_at n (0x29 ∷ rest) (omega arith) closing_paren)

  -- a repeat without a group around it
  repeat_piece : (t : Tree) (lo hi : ℕ) (greedy : Bool) → Reads size unicode t → can_be_repeated (node_kind (normal_form t)) ≡ true → lo < unbounded → hi ≤ unbounded →
      (n : ℕ) (rest : Text) → printed_levels 3 t ≤ n → PlainStart rest →
      PieceRead size unicode n ((printed 3 t ++ quantifier_text lo hi greedy) ++ rest) (repeat (normal_form t) lo hi greedy) rest
  unfolding nameless_tree
  repeat_piece t lo hi greedy read can low high n rest h after =
      let inside = read.atom n (quantifier_text lo hi greedy ++ rest) (some_target t can) h (inl can) in
      let a = inside.atom in
      let target = target_is a.tree inside.no_look (ap (λ e. can_be_repeated (node_kind e)) inside.is_form ∙ can) in
      subst (λ (u : Text). PieceRead size unicode n u (repeat (normal_form t) lo hi greedy) rest) (sym (append_assoc (printed 3 t) (quantifier_text lo hi greedy) rest))
      (record {
        tree = repeat a.tree lo hi greedy;
        reading = with_quantifiers inside.reading (under_printed size unicode a lo hi greedy rest target low high after);
        is_form = ap (λ e. repeat e lo hi greedy) inside.is_form;
        no_look = refl;
      })

  repeat_reads : (t : Tree) (lo hi : ℕ) (greedy : Bool) → Reads size unicode t → is_printable t ≡ true → can_be_repeated (node_kind (normal_form t)) ≡ true →
      lo < unbounded → hi ≤ unbounded → Reads size unicode (repeat t lo hi greedy)
  unfolding printed normal_form printed_levels in_group group_start group_end
  repeat_reads t lo hi greedy read p can low high =
      let text = printed 3 t ++ quantifier_text lo hi greedy in
      let form = repeat (normal_form t) lo hi greedy in
      let piece_at : (n : ℕ) (rest : Text) → printed_levels 3 t ≤ n → PlainStart rest → PieceRead size unicode n (text ++ rest) form rest =
      repeat_piece t lo hi greedy read can low high in
      let token : (rest : Text) → is_comment (text ++ rest) ≡ false =
      λ rest. ap is_comment (append_assoc (printed 3 t) (quantifier_text lo hi greedy) rest) ∙ (plain_start_of_target t (quantifier_text lo hi greedy ++ rest) p (some_target t can)).token in
      let branch_at : (n : ℕ) (rest : Text) → printed_levels 3 t ≤ n → EndsBranch rest → BranchRead size unicode n (text ++ rest) form rest =
      λ n rest h end. piece_is_branch n (text ++ rest) rest form (token rest) end (piece_at n rest h (branch_end_plain_start end)) in
      record {
        atom = λ n rest filled h after. bare_repeat t text form branch_at n rest h;
        piece = λ n rest filled h after. subst (λ (u : Text). PieceRead size unicode n (u ++ rest) form rest) (sym (append-nil text)) (piece_at n rest h after);
        branch = λ n rest h end. subst (λ (u : Text). BranchRead size unicode n (u ++ rest) form rest) (sym (append-nil text)) (branch_at n rest h end);
        whole = λ n rest h end. subst (λ (u : Text). WholeRead size unicode n (u ++ rest) form rest) (sym (append-nil text)) (branch_is_whole n (text ++ rest) rest form end (branch_at n rest h (ends end)));
      }
    where
      bare_repeat : (t : Tree) (text : Text) (form : Tree) → ((n : ℕ) (rest : Text) → printed_levels 3 t ≤ n → EndsBranch rest → BranchRead size unicode n (text ++ rest) form rest) →
          (n : ℕ) (rest : Text) → printed_levels 3 t + 1 ≤ n → AtomRead size unicode n (in_group true text ++ rest) form rest
      bare_repeat t text form branch_at zero rest h = absurd (omega arith)
      bare_repeat t text form branch_at (suc n) rest h =
          bare_read n text rest form (branch_is_whole n (text ++ (0x29 ∷ rest)) (0x29 ∷ rest) form closing_paren (branch_at n (0x29 ∷ rest) (omega arith) at_close))

  group_atom : (t : Tree) → Reads size unicode t → is_printable t ≡ true → (n : ℕ) (rest : Text) → printed_levels 0 t + 1 ≤ n →
      AtomRead size unicode n (printed 3 (group t) ++ rest) (normal_form (group t)) rest
  group_atom t read p zero rest h = absurd (omega arith)
  group_atom t read p (suc n) rest h =
      capture_read n t rest (plain_start 0 t (0x29 ∷ rest) p (record { quiet = refl; token = refl })).quiet (read.whole n (0x29 ∷ rest) (omega arith) closing_paren)

  assertion_atom : (a : Assertion) → is_printable (assertion a) ≡ true → (n : ℕ) (rest : Text) → printed_levels 3 (assertion a) ≤ n →
      (can_be_repeated (node_kind (normal_form (assertion a))) ≡ true) ⊎ PlainStart rest → AtomRead size unicode n (printed 3 (assertion a) ++ rest) (normal_form (assertion a)) rest
  unfolding printed normal_form is_printable printed_levels can_be_repeated node_kind
  assertion_atom a p n rest h (inl can) = absurd (false≢true can)
  assertion_atom a p n rest h (inr after) = assertion_read size unicode n a rest p h after

  mutual
    unfolding printed normal_form is_printable has_two_branches printed_levels CountsFit

    pub reads : (t : Tree) → is_printable t ≡ true → CountsFit t → Reads size unicode t
    reads empty p fit = empty_reads
    reads (any new crlf) p fit = leaf (any new crlf) p refl refl refl refl refl refl refl (λ n rest h after. dot_read size unicode n new crlf rest h)
    reads (assertion a) p fit = leaf (assertion a) p refl refl refl refl refl refl refl (assertion_atom a p)
    reads (general_newline a) p fit = absurd (false≢true p)
    reads (literal val casei) p fit = leaf (literal val casei) p refl refl refl refl refl refl refl (λ n rest h after. literal_atom_read val casei n rest p h)
    reads (literal_bytes a) p fit = absurd (false≢true p)
    reads (concat ts) p fit = concat_reads ts p (all_read ts p fit)
    reads (alt no_trees) p fit = absurd (false≢true p)
    reads (alt (more_trees a no_trees)) p fit = absurd (false≢true p)
    reads (alt (more_trees a (more_trees b ts))) p fit = alt_reads a b ts p (all_read (more_trees a (more_trees b ts)) p fit)
    reads (group t) p fit = leaf (group t) p refl refl refl refl refl refl refl (λ n rest h after. group_atom t (reads t p fit) p n rest h)
    reads (look_around a b) p fit = absurd (false≢true p)
    reads (repeat t lo hi greedy) p fit =
        let parts = and_parts (nat_lt lo unbounded && can_be_repeated (node_kind (normal_form t))) (is_printable t) p in
        let bounds = and_parts (nat_lt lo unbounded) (can_be_repeated (node_kind (normal_form t))) parts.0 in
        repeat_reads t lo hi greedy (reads t parts.1 fit.1) parts.1 bounds.1 (ltb-true lo unbounded bounds.0) fit.0
    reads (delegate inner casei) p fit = leaf (delegate inner casei) p refl refl refl refl refl refl refl (λ n rest h after. class_read inner casei n rest (class_alone inner) refl p h)
    reads (backref a b) p fit = absurd (false≢true p)
    reads (backref_with_level a b d) p fit = absurd (false≢true p)
    reads (atomic_group a) p fit = absurd (false≢true p)
    reads keep_out p fit = absurd (false≢true p)
    reads continue p fit = absurd (false≢true p)
    reads (backref_exists a b) p fit = absurd (false≢true p)
    reads (conditional a b d) p fit = absurd (false≢true p)
    reads (subroutine_call a) p fit = absurd (false≢true p)
    reads (verb a) p fit = absurd (false≢true p)
    reads (absent_repeater a) p fit = absurd (false≢true p)
    reads (absent_expression a b) p fit = absurd (false≢true p)
    reads (absent_stopper a) p fit = absurd (false≢true p)
    reads absent_clear p fit = absurd (false≢true p)
    reads (define_group a) p fit = absurd (false≢true p)
    reads (ast_group a b d) p fit = absurd (false≢true p)
    reads (ast_backref a b d e) p fit = absurd (false≢true p)
    reads (ast_call a b) p fit = absurd (false≢true p)
    reads (ast_condition a b d) p fit = absurd (false≢true p)

    pub all_read : (ts : Trees) → are_printable ts ≡ true → AllCountsFit ts → AllReads ts
    all_read no_trees p fit = tt
    all_read (more_trees t ts) p fit =
        let parts = and_parts (is_printable t) (are_printable ts) p in (reads t parts.0 fit.0, all_read ts parts.1 fit.1)
