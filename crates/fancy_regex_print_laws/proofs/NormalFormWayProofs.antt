-- The ways of normal forms.
use Rattle.std.proofs.Common.{◌≡◌, ℕ, ◌+◌, true, false, List, [], ◌∷◌, ◌++◌, Option, Some, None, unwrap_or, refl, sym, ap, ◌∙◌, add-zero, append-nil}
use Rattle.std.specs.List.{flat_map}
use Rattle.std.proofs.lemmas.Bool.{and_parts, false≢true}
use Rattle.std.proofs.lemmas.Slice.Eq.{bytes_eq-Decides}
use mathlib.Core.Path.{fun_ext}
use Rattle.fancy_regex_tree.specs.Tree as tree
use Rattle.fancy_regex_tree.specs.Tree.{Tree, Trees, Text, no_trees, more_trees, empty, any, assertion, general_newline, literal, literal_bytes, concat, alt, look_around, delegate}
use Rattle.fancy_regex_tree.specs.Tree.{backref_with_level, atomic_group, keep_out, continue, backref_exists, subroutine_call, verb, absent_repeater, absent_expression, absent_stopper}
use Rattle.fancy_regex_tree.specs.Tree.{absent_clear, define_group, ast_group, ast_backref, ast_call, ast_condition}
use Rattle.fancy_regex_tree.specs.NormalForm.{class_alone, node_kind, with_piece, row_of, normal_form, normal_pieces, normal_branches}
use Rattle.fancy_regex_tree.specs.Printable.{is_printable, are_printable, has_two_branches, is_same_class, classes_read_back, all_classes_read_back}
use Rattle.fancy_regex_tree.specs.declared.normal_form_kind.NormalFormKind.{NormalFormKind}
use Rattle.fancy_regex_tree.specs.declared.normal_form_kind.NormalFormKind.TheVariants.{Empty, Anchor, Repeatable}
use Rattle.fancy_regex_tree.proofs.ConcatKinds.{piece_at, piece_is}
use Rattle.fancy_regex_meaning.specs.Groups.{group_count}
use Rattle.fancy_regex_meaning.specs.Sizes.{bound_of}
use Rattle.fancy_regex_meaning.specs.Ways.{Setting, MatchState, Moves, meaning, meanings, all_of, character, group, repeat}
use Rattle.fancy_regex_print_laws.proofs.NormalFormGroupProofs.{empty_only, count_stays}

flat_map_alone : {A : Type 0} (xs : List A) → flat_map (λ x. x ∷ []) xs ≡ xs
flat_map_alone [] = refl
flat_map_alone (x ∷ xs) = ap (λ ys. x ∷ ys) (flat_map_alone xs)

-- a class that reads back is its own reading
class_read : (t : Text) (o : Option Text) → is_same_class t o ≡ true → t ≡ unwrap_or o t
unfolding is_same_class
class_read t None h = absurd (false≢true h)
class_read t (Some class) h = (bytes_eq-Decides t class).0 h

module _ (s : Setting) (groups : List Tree) (call : ℕ → Moves) where
  at_same : (f : NormalFormKind) (n : ℕ) (t : Tree) (ts : Trees) → node_kind t ≡ f →
      (λ (w : MatchState). flat_map (all_of (meanings s groups call (n + group_count t) ts)) ((meaning s groups call n t).from w))
      ≡ all_of (meanings s groups call n (piece_at f t ts))
  unfolding meaning piece_at group_count
  at_same Empty n t ts is =
      ap (λ u. λ (w : MatchState). flat_map (all_of (meanings s groups call (n + group_count u) ts)) ((meaning s groups call n u).from w)) (empty_only t is)
      ∙ fun_ext (λ w. append-nil (all_of (meanings s groups call (n + 0) ts) w) ∙ ap (λ k. all_of (meanings s groups call k ts) w) (add-zero n))
  at_same Anchor n t ts is = refl
  at_same Repeatable n t ts is = refl

  -- a piece in front of a row
  pub with_same : (n : ℕ) (t : Tree) (ts : Trees) →
      (λ (w : MatchState). flat_map (all_of (meanings s groups call (n + group_count t) ts)) ((meaning s groups call n t).from w))
      ≡ all_of (meanings s groups call n (with_piece t ts))
  with_same n t ts =
      at_same (node_kind t) n t ts refl ∙ ap (λ us. all_of (meanings s groups call n us)) (sym (piece_is t ts (node_kind t) refl))

  -- a row is what its pieces are in a row
  pub row_of_same : (n : ℕ) (ts : Trees) → all_of (meanings s groups call n ts) ≡ (meaning s groups call n (row_of ts)).from
  unfolding meaning row_of
  row_of_same n no_trees = refl
  row_of_same n (more_trees t no_trees) = fun_ext (λ w. flat_map_alone ((meaning s groups call n t).from w))
  row_of_same n (more_trees t (more_trees u ts)) = refl

module _ (s : Setting) (groups others : List Tree) (call other_call : ℕ → Moves) where
  mutual
    unfolding meaning is_printable classes_read_back normal_form

    pub same : (n : ℕ) (t : Tree) → is_printable t ≡ true → classes_read_back t ≡ true →
        (meaning s groups call n t).from ≡ (meaning s others other_call n (normal_form t)).from
    same n empty printable classes = refl
    same n (any true crlf) printable classes = refl
    same n (any false crlf) printable classes = refl
    same n (assertion a) printable classes = refl
    same n (general_newline a) printable classes = absurd (false≢true printable)
    same n (literal a b) printable classes = refl
    same n (literal_bytes a) printable classes = absurd (false≢true printable)
    same n (concat ts) printable classes = row_same n ts printable classes ∙ row_of_same s others other_call n (normal_pieces ts)
    same n (alt ts) printable classes = fun_ext (λ w. branches_same n ts (and_parts (has_two_branches ts) (are_printable ts) printable).1 classes w)
    same n (tree.group t) printable classes = ap (λ moves. group n moves) (same (n + 1) t printable classes)
    same n (look_around a b) printable classes = absurd (false≢true printable)
    same n (tree.repeat t lo hi greedy) printable classes =
        ap (λ moves. repeat s lo (bound_of hi) greedy moves) (same n t (and_parts _ (is_printable t) printable).1 classes)
    same n (delegate inner casei) printable classes = ap (λ class. character s (s.has_member class casei)) (class_read inner (class_alone inner) classes)
    same n (tree.backref a b) printable classes = absurd (false≢true printable)
    same n (backref_with_level a b d) printable classes = absurd (false≢true printable)
    same n (atomic_group a) printable classes = absurd (false≢true printable)
    same n keep_out printable classes = absurd (false≢true printable)
    same n continue printable classes = absurd (false≢true printable)
    same n (backref_exists a b) printable classes = absurd (false≢true printable)
    same n (tree.conditional a b d) printable classes = absurd (false≢true printable)
    same n (subroutine_call a) printable classes = absurd (false≢true printable)
    same n (verb a) printable classes = absurd (false≢true printable)
    same n (absent_repeater a) printable classes = absurd (false≢true printable)
    same n (absent_expression a b) printable classes = absurd (false≢true printable)
    same n (absent_stopper a) printable classes = absurd (false≢true printable)
    same n absent_clear printable classes = absurd (false≢true printable)
    same n (define_group a) printable classes = absurd (false≢true printable)
    same n (ast_group a b d) printable classes = absurd (false≢true printable)
    same n (ast_backref a b d e) printable classes = absurd (false≢true printable)
    same n (ast_call a b) printable classes = absurd (false≢true printable)
    same n (ast_condition a b d) printable classes = absurd (false≢true printable)

    row_same : (n : ℕ) (ts : Trees) → are_printable ts ≡ true → all_classes_read_back ts ≡ true →
        all_of (meanings s groups call n ts) ≡ all_of (meanings s others other_call n (normal_pieces ts))
    row_same n no_trees printable classes = refl
    row_same n (more_trees t ts) printable classes =
        let p = and_parts (is_printable t) (are_printable ts) printable in
        let c = and_parts (classes_read_back t) (all_classes_read_back ts) classes in
        let here = same n t p.0 c.0 in
        let later = row_same (n + group_count t) ts p.1 c.1 in
        (λ i w. flat_map (later i) (here i w))
        ∙ ap (λ k. λ (w : MatchState). flat_map (all_of (meanings s others other_call (n + k) (normal_pieces ts))) ((meaning s others other_call n (normal_form t)).from w)) (sym (count_stays t))
        ∙ with_same s others other_call n (normal_form t) (normal_pieces ts)

    branches_same : (n : ℕ) (ts : Trees) → are_printable ts ≡ true → all_classes_read_back ts ≡ true → (w : MatchState) →
        flat_map (λ m. m.from w) (meanings s groups call n ts) ≡ flat_map (λ m. m.from w) (meanings s others other_call n (normal_branches ts))
    branches_same n no_trees printable classes w = refl
    branches_same n (more_trees t ts) printable classes w =
        let p = and_parts (is_printable t) (are_printable ts) printable in
        let c = and_parts (classes_read_back t) (all_classes_read_back ts) classes in
        let here = same n t p.0 c.0 in
        let later = branches_same (n + group_count t) ts p.1 c.1 w in
        (λ i. here i w ++ later i)
        ∙ ap (λ k. (meaning s others other_call n (normal_form t)).from w ++ flat_map (λ m. m.from w) (meanings s others other_call (n + k) (normal_branches ts))) (sym (count_stays t))
