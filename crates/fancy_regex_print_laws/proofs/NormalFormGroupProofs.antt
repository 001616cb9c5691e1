-- Groups of normal forms.
use Rattle.std.proofs.Common.{◌≡◌, ◌+◌, refl, sym, ap, ◌∙◌, add-zero, zero-add}
use Rattle.fancy_regex_tree.specs.Tree as tree
use Rattle.fancy_regex_tree.specs.Tree.{Tree, Trees, no_trees, more_trees, empty, any, assertion, general_newline, literal, literal_bytes, concat, alt, look_around, delegate}
use Rattle.fancy_regex_tree.specs.Tree.{backref_with_level, atomic_group, keep_out, continue, backref_exists, subroutine_call, verb, absent_repeater, absent_expression, absent_stopper}
use Rattle.fancy_regex_tree.specs.Tree.{absent_clear, define_group, ast_group, ast_backref, ast_call, ast_condition}
use Rattle.fancy_regex_tree.specs.NormalForm.{node_kind, with_piece, row_of, normal_form, normal_pieces, normal_branches}
use Rattle.fancy_regex_tree.specs.declared.normal_form_kind.NormalFormKind.{NormalFormKind}
use Rattle.fancy_regex_tree.specs.declared.normal_form_kind.NormalFormKind.TheVariants.{Empty, Anchor, Repeatable}
use Rattle.fancy_regex_tree.proofs.ConcatKinds.{piece_at, piece_is}
use Rattle.fancy_regex_meaning.specs.Groups.{group_count, row_group_count}

other_is_something : Repeatable ≡ Empty → ⊥
other_is_something h = cc

place_is_something : Anchor ≡ Empty → ⊥
place_is_something h = cc

-- `Empty` alone has its form
pub empty_only : (t : Tree) → node_kind t ≡ Empty → t ≡ empty
unfolding node_kind
empty_only empty h = refl
empty_only (any a b) h = absurd (other_is_something h)
empty_only (assertion a) h = absurd (place_is_something h)
empty_only (general_newline a) h = absurd (other_is_something h)
empty_only (literal a b) h = absurd (other_is_something h)
empty_only (literal_bytes a) h = absurd (other_is_something h)
empty_only (concat a) h = absurd (other_is_something h)
empty_only (alt a) h = absurd (other_is_something h)
empty_only (tree.group a) h = absurd (other_is_something h)
empty_only (look_around a b) h = absurd (other_is_something h)
empty_only (tree.repeat a b d e) h = absurd (other_is_something h)
empty_only (delegate a b) h = absurd (other_is_something h)
empty_only (tree.backref a b) h = absurd (other_is_something h)
empty_only (backref_with_level a b d) h = absurd (other_is_something h)
empty_only (atomic_group a) h = absurd (other_is_something h)
empty_only keep_out h = absurd (other_is_something h)
empty_only continue h = absurd (other_is_something h)
empty_only (backref_exists a b) h = absurd (other_is_something h)
empty_only (tree.conditional a b d) h = absurd (other_is_something h)
empty_only (subroutine_call a) h = absurd (other_is_something h)
empty_only (verb a) h = absurd (other_is_something h)
empty_only (absent_repeater a) h = absurd (other_is_something h)
empty_only (absent_expression a b) h = absurd (other_is_something h)
empty_only (absent_stopper a) h = absurd (other_is_something h)
empty_only absent_clear h = absurd (other_is_something h)
empty_only (define_group a) h = absurd (other_is_something h)
empty_only (ast_group a b d) h = absurd (other_is_something h)
empty_only (ast_backref a b d e) h = absurd (other_is_something h)
empty_only (ast_call a b) h = absurd (other_is_something h)
empty_only (ast_condition a b d) h = absurd (other_is_something h)

no_groups : (t : Tree) → node_kind t ≡ Empty → group_count t ≡ 0
unfolding group_count
no_groups t h = ap group_count (empty_only t h)

at_count : (s : NormalFormKind) (t : Tree) (ts : Trees) → node_kind t ≡ s → row_group_count (piece_at s t ts) ≡ group_count t + row_group_count ts
unfolding group_count piece_at
at_count Empty t ts is = sym (ap (λ k. k + row_group_count ts) (no_groups t is) ∙ zero-add (row_group_count ts))
at_count Anchor t ts is = refl
at_count Repeatable t ts is = refl

with_count : (t : Tree) (ts : Trees) → row_group_count (with_piece t ts) ≡ group_count t + row_group_count ts
with_count t ts = ap row_group_count (piece_is t ts (node_kind t) refl) ∙ at_count (node_kind t) t ts refl

row_count : (ts : Trees) → group_count (row_of ts) ≡ row_group_count ts
unfolding group_count row_of
row_count no_trees = refl
row_count (more_trees t no_trees) = sym (add-zero (group_count t))
row_count (more_trees t (more_trees u ts)) = refl

mutual
  unfolding group_count normal_form

  pub count_stays : (t : Tree) → group_count (normal_form t) ≡ group_count t
  count_stays empty = refl
  count_stays (any a b) = refl
  count_stays (assertion a) = refl
  count_stays (general_newline a) = refl
  count_stays (literal a b) = refl
  count_stays (literal_bytes a) = refl
  count_stays (concat ts) = row_count (normal_pieces ts) ∙ pieces_count ts
  count_stays (alt ts) = branches_count ts
  count_stays (tree.group t) = ap (λ k. k + 1) (count_stays t)
  count_stays (look_around a b) = refl
  count_stays (tree.repeat t lo hi greedy) = count_stays t
  count_stays (delegate a b) = refl
  count_stays (tree.backref a b) = refl
  count_stays (backref_with_level a b d) = refl
  count_stays (atomic_group a) = refl
  count_stays keep_out = refl
  count_stays continue = refl
  count_stays (backref_exists a b) = refl
  count_stays (tree.conditional a b d) = refl
  count_stays (subroutine_call a) = refl
  count_stays (verb a) = refl
  count_stays (absent_repeater a) = refl
  count_stays (absent_expression a b) = refl
  count_stays (absent_stopper a) = refl
  count_stays absent_clear = refl
  count_stays (define_group a) = refl
  count_stays (ast_group a b d) = refl
  count_stays (ast_backref a b d e) = refl
  count_stays (ast_call a b) = refl
  count_stays (ast_condition a b d) = refl

  pieces_count : (ts : Trees) → row_group_count (normal_pieces ts) ≡ row_group_count ts
  pieces_count no_trees = refl
  pieces_count (more_trees t ts) = with_count (normal_form t) (normal_pieces ts) ∙ (λ i. count_stays t i + pieces_count ts i)

  branches_count : (ts : Trees) → row_group_count (normal_branches ts) ≡ row_group_count ts
  branches_count no_trees = refl
  branches_count (more_trees t ts) = λ i. count_stays t i + branches_count ts i
