-- The room of a pattern that is written out, against the nodes of its tree.
use Rattle.std.proofs.Common.{ℕ, zero, suc, ◌+◌, ◌*◌, ◌≤◌, Bool, true, false, cond, List, [], ◌∷◌, map, Option, Some, None, arith, slice_index}
use Rattle.fancy_regex_tree.specs.declared.expr.LookAround.{LookAround}
use Rattle.fancy_regex_tree.specs.declared.expr.LookAround.TheVariants.{LookAhead, LookAheadNeg, LookBehind, LookBehindNeg}
use Rattle.fancy_regex_tree.specs.Tree as tree
use Rattle.fancy_regex_tree.specs.Tree.{Tree, Trees, no_trees, more_trees}
use Rattle.fancy_regex_meaning.specs.Groups.{group_count}
use Rattle.fancy_regex_meaning.specs.Sizes.{size, target}
use Rattle.fancy_regex_meaning.specs.Ways.{is_at_call_limit, max_open_calls}
use Rattle.fancy_regex_meaning.specs.Choices.{nodes_with, row_nodes_with, nodes_of_call, sum_some, program_nodes}
use Rattle.fancy_regex_desugar.specs.CorePatterns.{any, literal, class, CorePattern, nothing, read, general_newline, check, continue, keep_out, fail, delegate, tail, backref, exists}
use Rattle.fancy_regex_desugar.specs.Delegates.{searched, is_delegated, begins_tail}
use Rattle.fancy_regex_desugar.specs.Unfolded.{repeated, Written, pat_for, cat_all, alt_all, body_of, look, node, branches, written, written_all, written_call, written_plain, written_tail, written_whole, core_pattern_of}
use Rattle.fancy_regex_desugar.specs.ProgramSizes.{room}
use Rattle.fancy_regex_desugar.specs.DesugarLaws.{UnfoldedSizeIsBounded, PatternSizeIsBounded}

-- The pattern has room for a split and a jump left, and one instruction more.
pub record Fits (p : CorePattern) (nodes : ℕ) : Type 0 where
  pub is : room p + 3 ≤ 16 * nodes

-- From as far back it may have one less.
pub record BothFit (u : Written) (nodes : ℕ) : Type 0 where
  pub front : room u.front + 3 ≤ 16 * nodes
  pub behind : room u.behind + 2 ≤ 16 * nodes

-- As a row, and as branches.
pub record AllFit (us : List Written) (nodes : ℕ) : Type 0 where
  pub row : room (cat_all us) ≤ 16 * nodes
  pub fronts : room (alt_all (map (λ u. u.front) us)) ≤ 16 * nodes + 12
  pub behinds : room (alt_all (map (λ u. u.behind) us)) ≤ 16 * nodes + 12

all_fit_none : AllFit [] 0
unfolding room
all_fit_none = record { row = omega arith; fronts = omega arith; behinds = omega arith }

all_fit_more : (u : Written) (us : List Written) (m n : ℕ) → BothFit u m → AllFit us n → AllFit (u ∷ us) (m + n)
unfolding room
all_fit_more u [] m n h k = record { row = omega (arith, h.front, k.row); fronts = omega (arith, h.front); behinds = omega (arith, h.behind) }
all_fit_more u (v ∷ us) m n h k = record {
  row = omega (arith, h.front, k.row);
  fronts = omega (arith, h.front, k.fronts);
  behinds = omega (arith, h.behind, k.behinds);
}

either_fits : (b : Bool) (p q : CorePattern) (n : ℕ) → room p + 2 ≤ n → room q + 2 ≤ n → room (cond b p q) + 2 ≤ n
either_fits true p q n h k = h
either_fits false p q n h k = k

room_body : (for_any : Bool) (t : Tree) (p : CorePattern) (n : ℕ) → room p + 3 ≤ 16 * n → room (body_of for_any t p) + 3 ≤ 16 * n
unfolding room
room_body for_any t p n h =
    elim (is_delegated for_any t) as (λ b. room (cond b (delegate (searched for_any t) p) p) + 3 ≤ 16 * n) [ true ↦ omega (arith, h) | false ↦ h ]

fits_look : (t : Tree) (how : LookAround) (u : Written) (n : ℕ) → BothFit u n → Fits (look t how u) (1 + n)
unfolding room
fits_look t LookAhead u n h = record { is = omega (arith, room_body true t u.front n h.front) }
fits_look t LookAheadNeg u n h = record { is = omega (arith, room_body true t u.front n h.front) }
fits_look t LookBehind u n h = record { is = omega (arith, h.behind) }
fits_look t LookBehindNeg u n h = record { is = omega (arith, h.behind) }

module _ (groups : List Tree) where
  fit_node : (t : Tree) (p : CorePattern) (n : ℕ) → room p + 3 ≤ 16 * n → BothFit (node groups t p) n
  unfolding room
  fit_node t p n h = record { front = h; behind = omega (arith, h) }

  room_repeated : (p : CorePattern) (lo hi : ℕ) (greedy : Bool) → room (repeated p lo hi greedy) ≤ 12 + room p
  unfolding room
  room_repeated p zero zero greedy = omega arith
  room_repeated p zero (suc hi) greedy = omega arith
  room_repeated p (suc lo) hi greedy = omega arith

  fit_branches : (t : Tree) (us : List Written) (n : ℕ) → AllFit us n → BothFit (branches groups t us) (1 + n)
  unfolding room
  fit_branches t us n h = record {
    front = omega (arith, h.fronts);
    behind = either_fits (size groups t).always _ _ _ (omega (arith, h.fronts)) (omega (arith, h.behinds));
  }

  module _ (pat : ℕ → CorePattern) (call : ℕ → ℕ) (fit_call : (k : ℕ) → Fits (pat k) (call k)) where
    mutual
      unfolding room written nodes_with

      fit : (n : ℕ) (t : Tree) → BothFit (written groups pat n t) (nodes_with call t)
      fit n (tree.alt ts) = fit_branches (tree.alt ts) _ _ (fit_all n ts)
      fit n (tree.concat ts) = fit_node (tree.concat ts) _ _ (omega (arith, (fit_all n ts).row))
      fit n tree.empty = fit_node tree.empty nothing 1 (omega arith)
      fit n (tree.any newline crlf) = fit_node (tree.any newline crlf) (read (any newline crlf)) 1 (omega arith)
      fit n (tree.assertion a) = fit_node (tree.assertion a) (check a) 1 (omega arith)
      fit n (tree.general_newline unicode) = fit_node (tree.general_newline unicode) (general_newline unicode) 1 (omega arith)
      fit n (tree.literal val casei) = fit_node (tree.literal val casei) (read (literal (slice_index val 0) casei)) 1 (omega arith)
      fit n (tree.delegate text casei) = fit_node (tree.delegate text casei) (read (class text casei)) 1 (omega arith)
      fit n (tree.group t) = fit_node (tree.group t) _ _ (omega (arith, (fit (n + 1) t).front))
      fit n (tree.look_around t how) = fit_node (tree.look_around t how) _ _ (fits_look t how _ _ (fit n t)).is
      fit n (tree.repeat t lo hi greedy) =
          fit_node (tree.repeat t lo hi greedy) _ _ (omega (arith, (fit n t).front, room_repeated (written groups pat n t).front lo hi greedy))
      fit n (tree.atomic_group t) = fit_node (tree.atomic_group t) _ _ (omega (arith, room_body false t (written groups pat n t).front (nodes_with call t) (fit n t).front))
      fit n (tree.backref k casei) = fit_node (tree.backref k casei) (backref k casei) 1 (omega arith)
      fit n (tree.backref_exists k None) = fit_node (tree.backref_exists k None) (exists k) 1 (omega arith)
      fit n (tree.backref_exists k (Some level)) = fit_node (tree.backref_exists k (Some level)) fail 1 (omega arith)
      fit n (tree.conditional c a b) = fit_node (tree.conditional c a b) _ _
          (omega (arith, room_body false c (written groups pat n c).front (nodes_with call c) (fit n c).front, (fit (n + group_count c) a).front, (fit (n + group_count c + group_count a) b).front))
      fit n (tree.subroutine_call k) = fit_node (tree.subroutine_call k) _ _ (fit_call k).is
      fit n tree.keep_out = fit_node tree.keep_out keep_out 1 (omega arith)
      fit n tree.continue = fit_node tree.continue continue 1 (omega arith)
      fit n (tree.verb v) = fit_node (tree.verb v) fail 1 (omega arith)
      fit n (tree.absent_repeater t) = fit_node (tree.absent_repeater t) _ _ (omega (arith, (fit n t).front))
      fit n (tree.define_group t) = fit_node (tree.define_group t) nothing _ (omega arith)
      fit n (tree.literal_bytes bytes) = fit_node (tree.literal_bytes bytes) fail 1 (omega arith)
      fit n (tree.backref_with_level k level casei) = fit_node (tree.backref_with_level k level casei) fail 1 (omega arith)
      fit n (tree.absent_expression a t) = fit_node (tree.absent_expression a t) fail _ (omega arith)
      fit n (tree.absent_stopper t) = fit_node (tree.absent_stopper t) fail _ (omega arith)
      fit n tree.absent_clear = fit_node tree.absent_clear fail 1 (omega arith)
      fit n (tree.ast_group name t position) = fit_node (tree.ast_group name t position) fail _ (omega arith)
      fit n (tree.ast_backref goal casei level position) = fit_node (tree.ast_backref goal casei level position) fail 1 (omega arith)
      fit n (tree.ast_call goal position) = fit_node (tree.ast_call goal position) fail 1 (omega arith)
      fit n (tree.ast_condition goal level position) = fit_node (tree.ast_condition goal level position) fail 1 (omega arith)

      fit_all : (n : ℕ) (ts : Trees) → AllFit (written_all groups pat n ts) (row_nodes_with call ts)
      fit_all n no_trees = all_fit_none
      fit_all n (more_trees t ts) =
          all_fit_more (written groups pat n t) (written_all groups pat (n + group_count t) ts) _ _ (fit n t)
          (fit_all (n + group_count t) ts)

    -- a tail begins with one instruction
    room_plain : (n : ℕ) (ts : Trees) → room (written_plain groups pat n ts) ≤ 16 * row_nodes_with call ts + 1
    unfolding room
    room_plain n ts =
        let row : CorePattern = cat_all (written_all groups pat n ts) in
        elim (is_delegated false (tree.concat ts)) as (λ b. room (cond b (tail (tree.concat ts) row) row) ≤ 16 * row_nodes_with call ts + 1) [
          | true ↦ omega (arith, (fit_all n ts).row)
          | false ↦ omega (arith, (fit_all n ts).row)
        ]

    either_at_most : (b : Bool) (p q : CorePattern) (most : ℕ) → room p ≤ most → room q ≤ most → room (cond b p q) ≤ most
    either_at_most true p q most h k = h
    either_at_most false p q most h k = k

    room_tail : (n : ℕ) (ts : Trees) → room (written_tail groups pat n ts) ≤ 16 * row_nodes_with call ts + 1
    unfolding room written written_tail nodes_with
    room_tail n no_trees = omega arith
    room_tail n (more_trees t ts) = either_at_most (begins_tail (more_trees t ts)) _ _ _ (room_plain n (more_trees t ts))
        (omega (arith, (fit n t).front, room_tail (n + group_count t) ts))

    fit_whole : (n : ℕ) (t : Tree) → Fits (written_whole groups pat n t) (nodes_with call t)
    unfolding room written nodes_with written_whole
    fit_whole n (tree.concat ts) = record { is = omega (arith, room_tail n ts) }
    fit_whole n t = record { is = (fit n t).front }

  fits_target : (b : Bool) (o : Option Tree) (p : Tree → CorePattern) (nodes : Tree → ℕ) → ((t : Tree) → Fits (p t) (nodes t)) →
      Fits (cond b fail (pat_for p o)) (cond b 1 (sum_some nodes o))
  unfolding room
  fits_target true o p nodes h = record { is = omega arith }
  fits_target false None p nodes h = record { is = omega arith }
  fits_target false (Some t) p nodes h = record { is = (h t).is }

  fit_calls : (m : ℕ) (opened : List ℕ) (k : ℕ) → Fits (written_call groups m opened k) (nodes_of_call groups m opened k)
  unfolding room nodes_of_call written_call
  fit_calls zero opened k = record { is = omega arith }
  fit_calls (suc m) opened k = record {
    is = (fits_target (is_at_call_limit opened k) (target groups k)
        (λ body. (written groups (written_call groups m (k ∷ opened)) (k + 1) body).front)
        (nodes_with (nodes_of_call groups m (k ∷ opened)))
        (λ body. record { is = (fit _ _ (fit_calls m (k ∷ opened)) (k + 1) body).front })).is;
  }

-- a part of a pattern, and a whole one, by how many nodes each call counts
pub part_has_room : (groups : List Tree) (pat : ℕ → CorePattern) (call : ℕ → ℕ) → ((k : ℕ) → Fits (pat k) (call k)) → (n : ℕ) (t : Tree) →
    BothFit (written groups pat n t) (nodes_with call t)
part_has_room groups pat call fits n t = fit groups pat call fits n t

pub whole_has_room : (groups : List Tree) (pat : ℕ → CorePattern) (call : ℕ → ℕ) → ((k : ℕ) → Fits (pat k) (call k)) → (n : ℕ) (t : Tree) →
    Fits (written_whole groups pat n t) (nodes_with call t)
whole_has_room groups pat call fits n t = fit_whole groups pat call fits n t

pub unfolded_has_room : UnfoldedSizeIsBounded
unfolded_has_room groups m opened n t =
    let h = fit groups _ _ (fit_calls groups m opened) n t in
    (h.front, h.behind)

pub pattern_size_is_bounded : PatternSizeIsBounded
unfolding core_pattern_of program_nodes
pattern_size_is_bounded pattern =
    (fit_whole pattern.groups _ _ (fit_calls pattern.groups (max_open_calls pattern.groups) []) pattern.first_group pattern.tree).is
