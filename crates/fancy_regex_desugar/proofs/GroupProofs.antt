-- The numbers of the groups of a pattern that is written out.
use Rattle.std.proofs.Common.{◌≡◌, ℕ, zero, suc, ◌+◌, ◌≤◌, Bool, true, false, cond, List, [], ◌∷◌, length, map, Option, Some, None, refl, ⊎_elim, ◌⊎◌, arith, slice_index}
use Rattle.std.specs.Prelude.{slice_get}
use Rattle.std.proofs.lemmas.Option.{same_Some}
use Rattle.fancy_regex_tree.specs.declared.expr.LookAround.{LookAround}
use Rattle.fancy_regex_tree.specs.declared.expr.LookAround.TheVariants.{LookAhead, LookAheadNeg, LookBehind, LookBehindNeg}
use Rattle.fancy_regex_tree.specs.Tree as tree
use Rattle.fancy_regex_tree.specs.Tree.{Tree, Trees, no_trees, more_trees}
use Rattle.fancy_regex_meaning.specs.Groups.{bodies, group_count, row_group_count}
use Rattle.fancy_regex_meaning.specs.GroupLaws.{AreSame, OccursAt, OccursInRowAt}
use Rattle.fancy_regex_meaning.proofs.GroupProofs.{groups_are_counted, bodies_stand}
use Rattle.fancy_regex_meaning.specs.Sizes.{size, target}
use Rattle.fancy_regex_meaning.specs.Ways.{is_at_call_limit, max_open_calls}
use Rattle.fancy_regex_desugar.specs.CorePatterns.{any, literal, class, CorePattern, nothing, read, general_newline, check, continue, keep_out, fail, cat, group, back, delegate, tail, backref, exists, absent}
use Rattle.fancy_regex_desugar.specs.Delegates.{searched, is_delegated, begins_tail}
use Rattle.fancy_regex_desugar.specs.Unfolded.{repeated, Written, pat_for, cat_all, alt_all, body_of, look, node, branches, written, written_all, written_call, written_plain, written_tail, written_whole, unfolded, core_pattern_of}
use Rattle.fancy_regex_desugar.specs.Shapes.{HasGroups}
use Rattle.fancy_regex_desugar.specs.DesugarLaws.{PatternGroupsAreInRange}

-- A part's groups are among those of the whole.
record Inside (n count k inner : ℕ) : Type 0 where
  first : n ≤ k
  last : k + inner ≤ n + count

inside_same : (n : ℕ) (t : Tree) (k : ℕ) (u : Tree) → AreSame n t k u → Inside n (group_count t) k (group_count u)
inside_same n t k u h =
    let same : group_count t ≡ group_count u = λ i. group_count (h.1 i) in
    record { first = omega (arith, h.0); last = omega (arith, h.0, same) }

inside_more : (n count k inner m least : ℕ) → Inside n count k inner → m ≤ n → n + count ≤ m + least → Inside m least k inner
inside_more n count k inner m least h le most = record { first = omega (arith, h.first); last = omega (arith, h.last) }

mutual
  unfolding OccursAt group_count

  inside : (n : ℕ) (t : Tree) (k : ℕ) (u : Tree) → OccursAt n t k u → Inside n (group_count t) k (group_count u)
  inside n (tree.group t) k u h =
      ⊎_elim (λ (p : AreSame n (tree.group t) k u). inside_same n (tree.group t) k u p)
      (λ (p : OccursAt (n + 1) t k u). inside_more _ _ _ _ n (group_count t + 1) (inside (n + 1) t k u p) (omega arith) (omega arith)) h
  inside n (tree.concat ts) k u h =
      ⊎_elim (λ (p : AreSame n (tree.concat ts) k u). inside_same n (tree.concat ts) k u p)
      (λ (p : OccursInRowAt n ts k u). inside_row n ts k u p) h
  inside n (tree.alt ts) k u h =
      ⊎_elim (λ (p : AreSame n (tree.alt ts) k u). inside_same n (tree.alt ts) k u p)
      (λ (p : OccursInRowAt n ts k u). inside_row n ts k u p) h
  inside n (tree.look_around t how) k u h =
      ⊎_elim (λ (p : AreSame n (tree.look_around t how) k u). inside_same n (tree.look_around t how) k u p)
      (λ (p : OccursAt n t k u). inside n t k u p) h
  inside n (tree.repeat t lo hi greedy) k u h =
      ⊎_elim (λ (p : AreSame n (tree.repeat t lo hi greedy) k u). inside_same n (tree.repeat t lo hi greedy) k u p)
      (λ (p : OccursAt n t k u). inside n t k u p) h
  inside n (tree.atomic_group t) k u h =
      ⊎_elim (λ (p : AreSame n (tree.atomic_group t) k u). inside_same n (tree.atomic_group t) k u p)
      (λ (p : OccursAt n t k u). inside n t k u p) h
  inside n (tree.absent_repeater t) k u h =
      ⊎_elim (λ (p : AreSame n (tree.absent_repeater t) k u). inside_same n (tree.absent_repeater t) k u p)
      (λ (p : OccursAt n t k u). inside n t k u p) h
  inside n (tree.absent_stopper t) k u h =
      ⊎_elim (λ (p : AreSame n (tree.absent_stopper t) k u). inside_same n (tree.absent_stopper t) k u p)
      (λ (p : OccursAt n t k u). inside n t k u p) h
  inside n (tree.define_group t) k u h =
      ⊎_elim (λ (p : AreSame n (tree.define_group t) k u). inside_same n (tree.define_group t) k u p)
      (λ (p : OccursAt n t k u). inside n t k u p) h
  inside n (tree.ast_group name t position) k u h =
      ⊎_elim (λ (p : AreSame n (tree.ast_group name t position) k u). inside_same n (tree.ast_group name t position) k u p)
      (λ (p : OccursAt n t k u). inside n t k u p) h
  inside n (tree.conditional c a b) k u h =
      let all : ℕ = group_count c + (group_count a + group_count b) in
      ⊎_elim (λ (p : AreSame n (tree.conditional c a b) k u). inside_same n (tree.conditional c a b) k u p)
      (λ (p : OccursAt n c k u ⊎ (OccursAt (n + group_count c) a k u ⊎ OccursAt (n + group_count c + group_count a) b k u)).
      ⊎_elim (λ (q : OccursAt n c k u). inside_more _ _ _ _ n all (inside n c k u q) (omega arith) (omega arith))
      (λ (q : OccursAt (n + group_count c) a k u ⊎ OccursAt (n + group_count c + group_count a) b k u).
      ⊎_elim
      (λ (r : OccursAt (n + group_count c) a k u).
      inside_more _ _ _ _ n all (inside (n + group_count c) a k u r) (omega arith) (omega arith))
      (λ (r : OccursAt (n + group_count c + group_count a) b k u).
      inside_more _ _ _ _ n all (inside (n + group_count c + group_count a) b k u r) (omega arith) (omega arith)) q) p) h
  inside n (tree.absent_expression a t) k u h =
      let all : ℕ = group_count a + group_count t in
      ⊎_elim (λ (p : AreSame n (tree.absent_expression a t) k u). inside_same n (tree.absent_expression a t) k u p)
      (λ (p : OccursAt n a k u ⊎ OccursAt (n + group_count a) t k u).
      ⊎_elim (λ (q : OccursAt n a k u). inside_more _ _ _ _ n all (inside n a k u q) (omega arith) (omega arith))
      (λ (q : OccursAt (n + group_count a) t k u).
      inside_more _ _ _ _ n all (inside (n + group_count a) t k u q) (omega arith) (omega arith)) p) h
  inside n tree.empty k u h = inside_same n tree.empty k u h
  inside n (tree.any newline crlf) k u h = inside_same n (tree.any newline crlf) k u h
  inside n (tree.assertion a) k u h = inside_same n (tree.assertion a) k u h
  inside n (tree.general_newline unicode) k u h = inside_same n (tree.general_newline unicode) k u h
  inside n (tree.literal val casei) k u h = inside_same n (tree.literal val casei) k u h
  inside n (tree.literal_bytes bytes) k u h = inside_same n (tree.literal_bytes bytes) k u h
  inside n (tree.delegate text casei) k u h = inside_same n (tree.delegate text casei) k u h
  inside n (tree.backref j casei) k u h = inside_same n (tree.backref j casei) k u h
  inside n (tree.backref_with_level j level casei) k u h = inside_same n (tree.backref_with_level j level casei) k u h
  inside n tree.keep_out k u h = inside_same n tree.keep_out k u h
  inside n tree.continue k u h = inside_same n tree.continue k u h
  inside n (tree.backref_exists j level) k u h = inside_same n (tree.backref_exists j level) k u h
  inside n (tree.subroutine_call j) k u h = inside_same n (tree.subroutine_call j) k u h
  inside n (tree.verb v) k u h = inside_same n (tree.verb v) k u h
  inside n tree.absent_clear k u h = inside_same n tree.absent_clear k u h
  inside n (tree.ast_backref goal casei level position) k u h = inside_same n (tree.ast_backref goal casei level position) k u h
  inside n (tree.ast_call goal position) k u h = inside_same n (tree.ast_call goal position) k u h
  inside n (tree.ast_condition goal level position) k u h = inside_same n (tree.ast_condition goal level position) k u h

  inside_row : (n : ℕ) (ts : Trees) (k : ℕ) (u : Tree) → OccursInRowAt n ts k u → Inside n (row_group_count ts) k (group_count u)
  inside_row n no_trees k u h = absurd h
  inside_row n (more_trees t ts) k u h =
      ⊎_elim
      (λ (p : OccursAt n t k u). inside_more _ _ _ _ n (group_count t + row_group_count ts) (inside n t k u p) (omega arith) (omega arith))
      (λ (p : OccursInRowAt (n + group_count t) ts k u).
      inside_more _ _ _ _ n (group_count t + row_group_count ts) (inside_row (n + group_count t) ts k u p) (omega arith) (omega arith)) h

-- the groups of the body of a group are fewer than follow it
room_for_body : (t : Tree) (i : ℕ) (body : Tree) → slice_get (bodies t) i ≡ Some body → i + 1 + group_count body ≤ group_count t
unfolding group_count
room_for_body t i body e = omega (arith, (inside 0 t (0 + i) (tree.group body) (bodies_stand 0 t i body e)).last)

module _ (first end : ℕ) where
  record Held (p : CorePattern) : Type 0 where
    is : HasGroups first end p

  record BothHeld (u : Written) : Type 0 where
    front : HasGroups first end u.front
    behind : HasGroups first end u.behind

  -- As a row, and as branches.
  record AllHeld (us : List Written) : Type 0 where
    row : HasGroups first end (cat_all us)
    fronts : HasGroups first end (alt_all (map (λ u. u.front) us))
    behinds : HasGroups first end (alt_all (map (λ u. u.behind) us))

  all_held_more : (u : Written) (us : List Written) → BothHeld u → AllHeld us → AllHeld (u ∷ us)
  all_held_more u [] h k = record { row = (h.front, k.row); fronts = h.front; behinds = h.behind }
  all_held_more u (v ∷ us) h k = record { row = (h.front, k.row); fronts = (h.front, k.fronts); behinds = (h.behind, k.behinds) }

  either_held : (b : Bool) (p q : CorePattern) → HasGroups first end p → HasGroups first end q → HasGroups first end (cond b p q)
  either_held true p q h k = h
  either_held false p q h k = k

  held_body : (for_any : Bool) (t : Tree) (p : CorePattern) → HasGroups first end p → HasGroups first end (body_of for_any t p)
  held_body for_any t p h = either_held (is_delegated for_any t) (delegate (searched for_any t) p) p tt h

  held_look : (t : Tree) (how : LookAround) (u : Written) → BothHeld u → Held (look t how u)
  held_look t LookAhead u h = record { is = held_body true t u.front h.front }
  held_look t LookAheadNeg u h = record { is = held_body true t u.front h.front }
  held_look t LookBehind u h = record { is = h.behind }
  held_look t LookBehindNeg u h = record { is = h.behind }

  held_repeated : (p : CorePattern) (lo hi : ℕ) (greedy : Bool) → HasGroups first end p → HasGroups first end (repeated p lo hi greedy)
  held_repeated p zero zero greedy h = tt
  held_repeated p zero (suc hi) greedy h = h
  held_repeated p (suc lo) hi greedy h = h

  module _ (groups : List Tree) where
    hold_node : (t : Tree) (p : CorePattern) → HasGroups first end p → BothHeld (node groups t p)
    hold_node t p h = record { front = h; behind = (tt, h) }

    hold_branches : (t : Tree) (us : List Written) → AllHeld us → BothHeld (branches groups t us)
    hold_branches t us h = record {
      front = h.fronts;
      behind = either_held (size groups t).always (cat (back (size groups t).least) (alt_all (map (λ u. u.front) us))) _ (tt, h.fronts) h.behinds;
    }

    module _ (pat : ℕ → CorePattern) (hold_call : (k : ℕ) → Held (pat k)) where
      mutual
        unfolding written group_count

        hold : (n : ℕ) (t : Tree) → first ≤ n → n + group_count t ≤ end → BothHeld (written groups pat n t)
        hold n (tree.alt ts) le room = hold_branches (tree.alt ts) _ (hold_all n ts le room)
        hold n (tree.concat ts) le room = hold_node (tree.concat ts) _ (hold_all n ts le room).row
        hold n tree.empty le room = hold_node tree.empty nothing tt
        hold n (tree.any newline crlf) le room = hold_node (tree.any newline crlf) (read (any newline crlf)) tt
        hold n (tree.assertion a) le room = hold_node (tree.assertion a) (check a) tt
        hold n (tree.general_newline unicode) le room = hold_node (tree.general_newline unicode) (general_newline unicode) tt
        hold n (tree.literal val casei) le room = hold_node (tree.literal val casei) (read (literal (slice_index val 0) casei)) tt
        hold n (tree.delegate text casei) le room = hold_node (tree.delegate text casei) (read (class text casei)) tt
        hold n (tree.group t) le room =
            hold_node (tree.group t) (group n (written groups pat (n + 1) t).front)
            (le, omega arith, (hold (n + 1) t (omega arith) (omega arith)).front)
        hold n (tree.look_around t how) le room = hold_node (tree.look_around t how) _ (held_look t how _ (hold n t le room)).is
        hold n (tree.repeat t lo hi greedy) le room =
            hold_node (tree.repeat t lo hi greedy) _ (held_repeated _ lo hi greedy (hold n t le room).front)
        hold n (tree.atomic_group t) le room =
            hold_node (tree.atomic_group t) _ (held_body false t (written groups pat n t).front (hold n t le room).front)
        hold n (tree.backref k casei) le room = hold_node (tree.backref k casei) (backref k casei) tt
        hold n (tree.backref_exists k None) le room = hold_node (tree.backref_exists k None) (exists k) tt
        hold n (tree.backref_exists k (Some level)) le room = hold_node (tree.backref_exists k (Some level)) fail tt
        hold n (tree.conditional c a b) le room = hold_node (tree.conditional c a b) _ (
          held_body false c (written groups pat n c).front (hold n c le (omega arith)).front,
          (hold (n + group_count c) a (omega arith) (omega arith)).front,
          (hold (n + group_count c + group_count a) b (omega arith) (omega arith)).front,
        )
        hold n (tree.subroutine_call k) le room = hold_node (tree.subroutine_call k) (pat k) (hold_call k).is
        hold n tree.keep_out le room = hold_node tree.keep_out keep_out tt
        hold n tree.continue le room = hold_node tree.continue continue tt
        hold n (tree.verb v) le room = hold_node (tree.verb v) fail tt
        hold n (tree.absent_repeater t) le room =
            hold_node (tree.absent_repeater t) (absent (written groups pat n t).front) (hold n t le room).front
        hold n (tree.define_group t) le room = hold_node (tree.define_group t) nothing tt
        hold n (tree.literal_bytes bytes) le room = hold_node (tree.literal_bytes bytes) fail tt
        hold n (tree.backref_with_level k level casei) le room = hold_node (tree.backref_with_level k level casei) fail tt
        hold n (tree.absent_expression a t) le room = hold_node (tree.absent_expression a t) fail tt
        hold n (tree.absent_stopper t) le room = hold_node (tree.absent_stopper t) fail tt
        hold n tree.absent_clear le room = hold_node tree.absent_clear fail tt
        hold n (tree.ast_group name t position) le room = hold_node (tree.ast_group name t position) fail tt
        hold n (tree.ast_backref goal casei level position) le room =
            hold_node (tree.ast_backref goal casei level position) fail tt
        hold n (tree.ast_call goal position) le room = hold_node (tree.ast_call goal position) fail tt
        hold n (tree.ast_condition goal level position) le room = hold_node (tree.ast_condition goal level position) fail tt

        hold_all : (n : ℕ) (ts : Trees) → first ≤ n → n + row_group_count ts ≤ end → AllHeld (written_all groups pat n ts)
        hold_all n no_trees le room = record { row = tt; fronts = tt; behinds = tt }
        hold_all n (more_trees t ts) le room =
            all_held_more (written groups pat n t) (written_all groups pat (n + group_count t) ts)
            (hold n t le (omega arith)) (hold_all (n + group_count t) ts (omega arith) (omega arith))

      hold_plain : (n : ℕ) (ts : Trees) → first ≤ n → n + row_group_count ts ≤ end → HasGroups first end (written_plain groups pat n ts)
      hold_plain n ts le room =
          let row : CorePattern = cat_all (written_all groups pat n ts) in
          either_held (is_delegated false (tree.concat ts)) (tail (tree.concat ts) row) row (hold_all n ts le room).row (hold_all n ts le room).row

      hold_tail : (n : ℕ) (ts : Trees) → first ≤ n → n + row_group_count ts ≤ end → Held (written_tail groups pat n ts)
      unfolding written group_count written_tail
      hold_tail n no_trees le room = record { is = tt }
      hold_tail n (more_trees t ts) le room = record {
        is = either_held (begins_tail (more_trees t ts)) _ _ (hold_plain n (more_trees t ts) le room)
            ((hold n t le (omega arith)).front, (hold_tail (n + group_count t) ts (omega arith) (omega arith)).is);
      }

      hold_whole : (n : ℕ) (t : Tree) → first ≤ n → n + group_count t ≤ end → Held (written_whole groups pat n t)
      unfolding written group_count written_whole
      hold_whole n (tree.concat ts) le room = hold_tail n ts le room
      hold_whole n t le room = record { is = (hold n t le room).front }

    module _ (room : (k : ℕ) (body : Tree) → target groups k ≡ Some body → (first ≤ k + 1) × (k + 1 + group_count body ≤ end)) where
      hold_target : (b : Bool) (o : Option Tree) (p : Tree → CorePattern) → ((t : Tree) → o ≡ Some t → Held (p t)) →
          Held (cond b fail (pat_for p o))
      hold_target true o p h = record { is = tt }
      hold_target false None p h = record { is = tt }
      hold_target false (Some t) p h = record { is = (h t refl).is }

      hold_calls : (m : ℕ) (opened : List ℕ) (k : ℕ) → Held (written_call groups m opened k)
      unfolding written_call
      hold_calls zero opened k = record { is = tt }
      hold_calls (suc m) opened k = record {
        is = (hold_target (is_at_call_limit opened k) (target groups k)
            (λ body. (written groups (written_call groups m (k ∷ opened)) (k + 1) body).front)
            (λ body e. record { is = (hold _ (hold_calls m (k ∷ opened)) (k + 1) body (room k body e).0 (room k body e).1).front })).is;
      }

room_from_one : (t : Tree) (k : ℕ) (body : Tree) → target (t ∷ bodies t) k ≡ Some body →
    (1 ≤ k + 1) × (k + 1 + group_count body ≤ length (t ∷ bodies t))
room_from_one t zero body e =
    let same : group_count t ≡ group_count body = λ i. group_count (same_Some t body e i) in
    (omega arith, omega (arith, same, groups_are_counted t))
room_from_one t (suc i) body e = (omega arith, omega (arith, groups_are_counted t, room_for_body t i body e))

room_from_zero : (t : Tree) (k : ℕ) (body : Tree) → target (bodies t) k ≡ Some body →
    (0 ≤ k + 1) × (k + 1 + group_count body ≤ length (bodies t))
room_from_zero t k body e = (omega arith, omega (arith, groups_are_counted t, room_for_body t k body e))

pub pattern_groups_are_in_range : PatternGroupsAreInRange
unfolding core_pattern_of
pattern_groups_are_in_range t = (
  (hold_whole 1 (length (t ∷ bodies t)) (t ∷ bodies t) _
      (hold_calls 1 (length (t ∷ bodies t)) (t ∷ bodies t) (room_from_one t) (max_open_calls (t ∷ bodies t)) []) 1 t
      (omega arith) (omega (arith, groups_are_counted t))).is,
  (hold_whole 0 (length (bodies t)) (bodies t) _
      (hold_calls 0 (length (bodies t)) (bodies t) (room_from_zero t) (max_open_calls (bodies t)) []) 0 t
      (omega arith) (omega (arith, groups_are_counted t))).is,
)

-- The same of the body of a group.
pub body_groups_from_one : (t : Tree) (m : ℕ) (opened : List ℕ) (k : ℕ) (body : Tree) → target (t ∷ bodies t) k ≡ Some body →
    HasGroups 1 (length (t ∷ bodies t)) (unfolded (t ∷ bodies t) m opened (k + 1) body)
body_groups_from_one t m opened k body e =
    let gs = t ∷ bodies t in
    let room = room_from_one t k body e in
    (hold 1 (length gs) gs (written_call gs m opened) (hold_calls 1 (length gs) gs (room_from_one t) m opened) (k + 1) body room.0 room.1).front

pub body_groups_from_zero : (t : Tree) (m : ℕ) (opened : List ℕ) (k : ℕ) (body : Tree) → target (bodies t) k ≡ Some body →
    HasGroups 0 (length (bodies t)) (unfolded (bodies t) m opened (k + 1) body)
body_groups_from_zero t m opened k body e =
    let gs = bodies t in
    let room = room_from_zero t k body e in
    (hold 0 (length gs) gs (written_call gs m opened) (hold_calls 0 (length gs) gs (room_from_zero t) m opened) (k + 1) body room.0 room.1).front
