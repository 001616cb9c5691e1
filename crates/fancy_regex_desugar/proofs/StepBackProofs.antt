-- Where a pattern that is written out goes back.
use Rattle.std.proofs.Common.{ℕ, zero, suc, ◌+◌, Bool, true, false, cond, List, [], ◌∷◌, map, Option, Some, None, refl, slice_index}
use Rattle.fancy_regex_tree.specs.declared.expr.LookAround.{LookAround}
use Rattle.fancy_regex_tree.specs.declared.expr.LookAround.TheVariants.{LookAhead, LookAheadNeg, LookBehind, LookBehindNeg}
use Rattle.fancy_regex_tree.specs.Tree as tree
use Rattle.fancy_regex_tree.specs.Tree.{Tree, Trees, no_trees, more_trees}
use Rattle.fancy_regex_meaning.specs.Groups.{group_count}
use Rattle.fancy_regex_meaning.specs.Sizes.{size, target}
use Rattle.fancy_regex_meaning.specs.Ways.{is_at_call_limit, max_open_calls}
use Rattle.fancy_regex_desugar.specs.CorePatterns.{any, literal, class, CorePattern, nothing, read, general_newline, check, continue, keep_out, fail, cat, alt, group, ahead, never, back, atomic, delegate, tail, repeat, backref, exists, conditional, absent, called}
use Rattle.fancy_regex_desugar.specs.Delegates.{searched, is_delegated, begins_tail}
use Rattle.fancy_regex_desugar.specs.Unfolded.{repeated, Written, pat_for, cat_all, alt_all, body_of, look, node, branches, written, written_all, written_call, written_plain, written_tail, written_whole, core_pattern_of}
use Rattle.fancy_regex_desugar.specs.Shapes.{StepsBackOnlyFirst}
use Rattle.fancy_regex_desugar.specs.DesugarLaws.{UnfoldedStepsBackOnlyFirst, PatternStepsBackOnlyFirst}

-- It goes back only where a look-around begins.
pub record Placed (free : Bool) (p : CorePattern) : Type 0 where
  pub is : StepsBackOnlyFirst free p

-- with leave to go back where it begins, it need not
freely : (free : Bool) (p : CorePattern) → StepsBackOnlyFirst false p → StepsBackOnlyFirst free p
freely true nothing h = tt
freely true (read leaf) h = tt
freely true (general_newline unicode) h = tt
freely true (check a) h = tt
freely true continue h = tt
freely true keep_out h = tt
freely true fail h = tt
freely true (cat a b) h = (freely true a h.0, h.1)
freely true (alt a b) h = (freely true a h.0, freely true b h.1)
freely true (group k a) h = h
freely true (ahead a) h = h
freely true (never a) h = h
freely true (back n) h = refl
freely true (atomic a) h = h
freely true (delegate t a) h = tt
freely true (tail t a) h = h
freely true (repeat a lo hi greedy) h = h
freely true (backref k casei) h = tt
freely true (exists k) h = tt
freely true (conditional c a b) h = h
freely true (absent a) h = h
freely true (called k a) h = freely true a h
freely false p h = h

placed_repeated : (free : Bool) (p : CorePattern) (lo hi : ℕ) (greedy : Bool) → StepsBackOnlyFirst false p → StepsBackOnlyFirst free (repeated p lo hi greedy)
placed_repeated free p zero zero greedy h = tt
placed_repeated free p zero (suc hi) greedy h = h
placed_repeated free p (suc lo) hi greedy h = h

pub record BothPlaced (u : Written) : Type 0 where
  pub front : StepsBackOnlyFirst false u.front
  pub behind : StepsBackOnlyFirst true u.behind

-- As a row, and as branches.
pub record AllPlaced (us : List Written) : Type 0 where
  pub row : StepsBackOnlyFirst false (cat_all us)
  pub fronts : StepsBackOnlyFirst false (alt_all (map (λ u. u.front) us))
  pub behinds : StepsBackOnlyFirst true (alt_all (map (λ u. u.behind) us))

all_placed_more : (u : Written) (us : List Written) → BothPlaced u → AllPlaced us → AllPlaced (u ∷ us)
all_placed_more u [] h k = record { row = (h.front, k.row); fronts = h.front; behinds = h.behind }
all_placed_more u (v ∷ us) h k = record { row = (h.front, k.row); fronts = (h.front, k.fronts); behinds = (h.behind, k.behinds) }

either_placed : (b : Bool) (p q : CorePattern) → StepsBackOnlyFirst true p → StepsBackOnlyFirst true q → StepsBackOnlyFirst true (cond b p q)
either_placed true p q h k = h
either_placed false p q h k = k

placed_body : (for_any : Bool) (t : Tree) (p : CorePattern) → StepsBackOnlyFirst false p → StepsBackOnlyFirst false (body_of for_any t p)
placed_body for_any t p h =
    elim (is_delegated for_any t) as (λ b. StepsBackOnlyFirst false (cond b (delegate (searched for_any t) p) p)) [ true ↦ tt | false ↦ h ]

placed_look : (t : Tree) (how : LookAround) (u : Written) → BothPlaced u → Placed false (look t how u)
placed_look t LookAhead u h = record { is = freely true (body_of true t u.front) (placed_body true t u.front h.front) }
placed_look t LookAheadNeg u h = record { is = freely true (body_of true t u.front) (placed_body true t u.front h.front) }
placed_look t LookBehind u h = record { is = h.behind }
placed_look t LookBehindNeg u h = record { is = h.behind }

module _ (groups : List Tree) where
  place_node : (t : Tree) (p : CorePattern) → StepsBackOnlyFirst false p → BothPlaced (node groups t p)
  place_node t p h = record { front = h; behind = (refl, h) }

  place_branches : (t : Tree) (us : List Written) → AllPlaced us → BothPlaced (branches groups t us)
  place_branches t us h = record {
    front = h.fronts;
    behind = either_placed (size groups t).always (cat (back (size groups t).least) (alt_all (map (λ u. u.front) us))) _ (refl, h.fronts) h.behinds;
  }

  module _ (pat : ℕ → CorePattern) (place_call : (k : ℕ) → Placed false (pat k)) where
    mutual
      unfolding written

      place : (n : ℕ) (t : Tree) → BothPlaced (written groups pat n t)
      place n (tree.alt ts) = place_branches (tree.alt ts) _ (place_all n ts)
      place n (tree.concat ts) = place_node (tree.concat ts) _ (place_all n ts).row
      place n tree.empty = place_node tree.empty nothing tt
      place n (tree.any newline crlf) = place_node (tree.any newline crlf) (read (any newline crlf)) tt
      place n (tree.assertion a) = place_node (tree.assertion a) (check a) tt
      place n (tree.general_newline unicode) = place_node (tree.general_newline unicode) (general_newline unicode) tt
      place n (tree.literal val casei) = place_node (tree.literal val casei) (read (literal (slice_index val 0) casei)) tt
      place n (tree.delegate text casei) = place_node (tree.delegate text casei) (read (class text casei)) tt
      place n (tree.group t) = place_node (tree.group t) (group n (written groups pat (n + 1) t).front) (place (n + 1) t).front
      place n (tree.look_around t how) = place_node (tree.look_around t how) _ (placed_look t how _ (place n t)).is
      place n (tree.repeat t lo hi greedy) =
          place_node (tree.repeat t lo hi greedy) _ (placed_repeated false _ lo hi greedy (place n t).front)
      place n (tree.atomic_group t) = place_node (tree.atomic_group t) _ (placed_body false t (written groups pat n t).front (place n t).front)
      place n (tree.backref k casei) = place_node (tree.backref k casei) (backref k casei) tt
      place n (tree.backref_exists k None) = place_node (tree.backref_exists k None) (exists k) tt
      place n (tree.backref_exists k (Some level)) = place_node (tree.backref_exists k (Some level)) fail tt
      place n (tree.conditional c a b) = place_node (tree.conditional c a b) _
          (placed_body false c (written groups pat n c).front (place n c).front, (place (n + group_count c) a).front, (place (n + group_count c + group_count a) b).front)
      place n (tree.subroutine_call k) = place_node (tree.subroutine_call k) (pat k) (place_call k).is
      place n tree.keep_out = place_node tree.keep_out keep_out tt
      place n tree.continue = place_node tree.continue continue tt
      place n (tree.verb v) = place_node (tree.verb v) fail tt
      place n (tree.absent_repeater t) = place_node (tree.absent_repeater t) (absent (written groups pat n t).front) (place n t).front
      place n (tree.define_group t) = place_node (tree.define_group t) nothing tt
      place n (tree.literal_bytes bytes) = place_node (tree.literal_bytes bytes) fail tt
      place n (tree.backref_with_level k level casei) = place_node (tree.backref_with_level k level casei) fail tt
      place n (tree.absent_expression a t) = place_node (tree.absent_expression a t) fail tt
      place n (tree.absent_stopper t) = place_node (tree.absent_stopper t) fail tt
      place n tree.absent_clear = place_node tree.absent_clear fail tt
      place n (tree.ast_group name t position) = place_node (tree.ast_group name t position) fail tt
      place n (tree.ast_backref goal casei level position) = place_node (tree.ast_backref goal casei level position) fail tt
      place n (tree.ast_call goal position) = place_node (tree.ast_call goal position) fail tt
      place n (tree.ast_condition goal level position) = place_node (tree.ast_condition goal level position) fail tt

      place_all : (n : ℕ) (ts : Trees) → AllPlaced (written_all groups pat n ts)
      place_all n no_trees = record { row = tt; fronts = tt; behinds = tt }
      place_all n (more_trees t ts) =
          all_placed_more (written groups pat n t) (written_all groups pat (n + group_count t) ts) (place n t)
          (place_all (n + group_count t) ts)

    place_plain : (n : ℕ) (ts : Trees) → StepsBackOnlyFirst false (written_plain groups pat n ts)
    place_plain n ts =
        let row : CorePattern = cat_all (written_all groups pat n ts) in
        elim (is_delegated false (tree.concat ts)) as (λ b. StepsBackOnlyFirst false (cond b (tail (tree.concat ts) row) row)) [
          | true ↦ (place_all n ts).row
          | false ↦ (place_all n ts).row
        ]

    place_either : (b : Bool) (p q : CorePattern) → StepsBackOnlyFirst false p → StepsBackOnlyFirst false q → Placed false (cond b p q)
    place_either true p q h k = record { is = h }
    place_either false p q h k = record { is = k }

    place_tail : (n : ℕ) (ts : Trees) → Placed false (written_tail groups pat n ts)
    unfolding written written_tail
    place_tail n no_trees = record { is = tt }
    place_tail n (more_trees t ts) = place_either (begins_tail (more_trees t ts)) _ _ (place_plain n (more_trees t ts))
        ((place n t).front, (place_tail (n + group_count t) ts).is)

    place_whole : (n : ℕ) (t : Tree) → Placed false (written_whole groups pat n t)
    unfolding written written_whole
    place_whole n (tree.concat ts) = place_tail n ts
    place_whole n t = record { is = (place n t).front }

  place_target : (b : Bool) (o : Option Tree) (p : Tree → CorePattern) → ((t : Tree) → Placed false (p t)) →
      Placed false (cond b fail (pat_for p o))
  place_target true o p h = record { is = tt }
  place_target false None p h = record { is = tt }
  place_target false (Some t) p h = record { is = (h t).is }

  place_calls : (m : ℕ) (opened : List ℕ) (k : ℕ) → Placed false (written_call groups m opened k)
  unfolding written_call
  place_calls zero opened k = record { is = tt }
  place_calls (suc m) opened k = record {
    is = (place_target (is_at_call_limit opened k) (target groups k)
        (λ body. (written groups (written_call groups m (k ∷ opened)) (k + 1) body).front)
        (λ body. record { is = (place _ (place_calls m (k ∷ opened)) (k + 1) body).front })).is;
  }

pub unfolded_steps_back_only_first : UnfoldedStepsBackOnlyFirst
unfolded_steps_back_only_first groups m opened n t =
    let h = place groups _ (place_calls groups m opened) n t in
    (h.front, h.behind)

pub pattern_steps_back_only_first : PatternStepsBackOnlyFirst
unfolding core_pattern_of
pattern_steps_back_only_first pattern =
    (place_whole pattern.groups _ (place_calls pattern.groups (max_open_calls pattern.groups) []) pattern.first_group pattern.tree).is
