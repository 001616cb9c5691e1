-- A tree's pattern that the compiler lets through can be written, where the tree refers to groups alone.
use Rattle.std.proofs.Common.{◌≡◌, ℕ, zero, suc, ◌+◌, ◌<◌, ◌≤◌, Bool, true, false, not, cond, true≢false, List, [], ◌∷◌, ◌++◌, length, map, Option, Some, None, refl, sym, arith, slice_index, subst}
use Rattle.std.specs.Prelude.{slice_get, ◌==◌, ◌&&◌, ◌||◌, nat_lt}
use Rattle.std.proofs.lemmas.Bool.Decides.{nat_tests}
use Rattle.std.proofs.lemmas.Option.{same_Some, none-some}
use Rattle.fancy_regex_tree.specs.declared.expr.LookAround.{LookAround}
use Rattle.fancy_regex_tree.specs.declared.expr.LookAround.TheVariants.{LookAhead, LookAheadNeg, LookBehind, LookBehindNeg}
use Rattle.fancy_regex_tree.specs.Tree as tree
use Rattle.fancy_regex_tree.specs.Tree.{Tree, Trees, no_trees, more_trees}
use Rattle.fancy_regex_meaning.specs.Groups.{bodies, row_bodies, group_count}
use Rattle.fancy_regex_meaning.specs.Sizes.{size, target}
use Rattle.fancy_regex_meaning.specs.Ways.{is_at_call_limit, max_open_calls}
use Rattle.fancy_regex_desugar.specs.CorePatterns.{any, literal, class, CorePattern, nothing, read, general_newline, check, continue, keep_out, fail, cat, alt, group, ahead, never, back, atomic, delegate, tail, repeat, backref, exists, conditional, absent, called}
use Rattle.fancy_regex_desugar.specs.Delegates.{searched, is_delegated, begins_tail}
use Rattle.fancy_regex_desugar.specs.Shapes.{StepsBackOnlyFirst, HasGroups}
use Rattle.fancy_regex_desugar.specs.Unfolded.{Written, pat_for, cat_all, alt_all, body_of, repeated, look, node, branches, written, written_all, written_call, written_plain, written_tail, written_whole, core_pattern_of}
use Rattle.fancy_regex_desugar.proofs.GroupProofs.{pattern_groups_are_in_range, body_groups_from_one, body_groups_from_zero}
use Rattle.fancy_regex_desugar.proofs.StepBackProofs.{unfolded_steps_back_only_first, pattern_steps_back_only_first}
use Rattle.fancy_regex_analysis.specs.NodeErrors.{some_node, some_node_of, shows, is_no_group}
use Rattle.fancy_regex_info.specs.Views.{pattern_in}
use Rattle.fancy_regex_info.specs.declared.error.CompileError.TheVariants.{InvalidBackref}
use Rattle.fancy_regex_compiled.specs.Programs.{RefersToGroups, CanBeWritten}
use Rattle.fancy_regex_program.specs.Layouts.{body_pattern}
use Rattle.fancy_regex_program.specs.Shapes.{KeepsNothing, IsAllowed, IsWritable}

-- where the match start may not be set, it stays as it is
keeps_nothing : (unicode : Bool) (p : CorePattern) → IsAllowed unicode false p → KeepsNothing p
keeps_nothing unicode nothing h = tt
keeps_nothing unicode (read leaf) h = tt
keeps_nothing unicode (general_newline crlf) h = tt
keeps_nothing unicode (check a) h = tt
keeps_nothing unicode continue h = tt
keeps_nothing unicode keep_out h = absurd (true≢false (sym h))
keeps_nothing unicode fail h = tt
keeps_nothing unicode (cat a b) h = (keeps_nothing unicode a h.0, keeps_nothing unicode b h.1)
keeps_nothing unicode (alt a b) h = (keeps_nothing unicode a h.0, keeps_nothing unicode b h.1)
keeps_nothing unicode (group k a) h = keeps_nothing unicode a h
keeps_nothing unicode (ahead a) h = tt
keeps_nothing unicode (never a) h = tt
keeps_nothing unicode (back n) h = tt
keeps_nothing unicode (atomic a) h = keeps_nothing unicode a h
keeps_nothing unicode (delegate t a) h = tt
keeps_nothing unicode (tail t a) h = keeps_nothing unicode a h.1
keeps_nothing unicode (repeat a lo hi greedy) h = keeps_nothing unicode a h.1
keeps_nothing unicode (backref k casei) h = tt
keeps_nothing unicode (exists k) h = tt
keeps_nothing unicode (conditional c a b) h = (keeps_nothing unicode c h.0, keeps_nothing unicode a h.1, keeps_nothing unicode b h.2)
keeps_nothing unicode (absent a) h = tt
keeps_nothing unicode (called k a) h = keeps_nothing unicode a h

module _ (first end : ℕ) where
  -- Each group that it reads has a number from `first` on, below `end`.
  abbrev ReadsGroups : CorePattern → Type 0
  ReadsGroups (backref k casei) = (first ≤ k) × (k < end)
  ReadsGroups (exists k) = (first ≤ k) × (k < end)
  ReadsGroups (cat a b) = ReadsGroups a × ReadsGroups b
  ReadsGroups (alt a b) = ReadsGroups a × ReadsGroups b
  ReadsGroups (group k a) = ReadsGroups a
  ReadsGroups (ahead a) = ReadsGroups a
  ReadsGroups (never a) = ReadsGroups a
  ReadsGroups (atomic a) = ReadsGroups a
  ReadsGroups (tail t a) = ReadsGroups a
  ReadsGroups (repeat a lo hi greedy) = ReadsGroups a
  ReadsGroups (conditional c a b) = ReadsGroups c × ReadsGroups a × ReadsGroups b
  ReadsGroups (absent a) = ReadsGroups a
  ReadsGroups (called k a) = ReadsGroups a
  ReadsGroups _ = Unit {0}

  can_write : (unicode keeps free : Bool) (p : CorePattern) → HasGroups first end p → ReadsGroups p → IsAllowed unicode keeps p → StepsBackOnlyFirst free p → IsWritable first end p
  can_write unicode keeps free nothing g r a l = tt
  can_write unicode keeps free (read leaf) g r a l = tt
  can_write unicode keeps free (general_newline crlf) g r a l = tt
  can_write unicode keeps free (check x) g r a l = tt
  can_write unicode keeps free continue g r a l = tt
  can_write unicode keeps free keep_out g r a l = tt
  can_write unicode keeps free fail g r a l = tt
  can_write unicode keeps free (cat p q) g r a l = (can_write unicode keeps free p g.0 r.0 a.0 l.0, can_write unicode keeps false q g.1 r.1 a.1 l.1)
  can_write unicode keeps free (alt p q) g r a l = (can_write unicode keeps free p g.0 r.0 a.0 l.0, can_write unicode keeps free q g.1 r.1 a.1 l.1)
  can_write unicode keeps free (group k p) g r a l = (g.0, g.1, can_write unicode keeps false p g.2 r a l)
  can_write unicode keeps free (ahead p) g r a l = (keeps_nothing unicode p a, can_write unicode false true p g r a l)
  can_write unicode keeps free (never p) g r a l = can_write unicode false true p g r a l
  can_write unicode keeps free (back n) g r a l = tt
  can_write unicode keeps free (atomic p) g r a l = can_write unicode keeps false p g r a l
  can_write unicode keeps free (delegate t p) g r a l = tt
  can_write unicode keeps free (tail t p) g r a l = can_write unicode keeps false p g r a.1 l
  can_write unicode keeps free (repeat p lo hi greedy) g r a l = (a.0, can_write unicode keeps false p g r a.1 l)
  can_write unicode keeps free (backref k casei) g r a l = r
  can_write unicode keeps free (exists k) g r a l = r
  can_write unicode keeps free (conditional c p q) g r a l = (
    can_write unicode keeps false c g.0 r.0 a.0 l.0,
    can_write unicode keeps false p g.1 r.1 a.1 l.1,
    can_write unicode keeps false q g.2 r.2 a.2 l.2,
  )
  can_write unicode keeps free (absent p) g r a l = (l, can_write unicode false false p g r a l)
  can_write unicode keeps free (called k p) g r a l = can_write unicode keeps free p g r a l

  record Read (p : CorePattern) : Type 0 where
    is : ReadsGroups p

  record BothRead (u : Written) : Type 0 where
    front : ReadsGroups u.front
    behind : ReadsGroups u.behind

  -- As a row, and as branches.
  record AllRead (us : List Written) : Type 0 where
    row : ReadsGroups (cat_all us)
    fronts : ReadsGroups (alt_all (map (λ u. u.front) us))
    behinds : ReadsGroups (alt_all (map (λ u. u.behind) us))

  all_read_more : (u : Written) (us : List Written) → BothRead u → AllRead us → AllRead (u ∷ us)
  all_read_more u [] h k = record { row = (h.front, k.row); fronts = h.front; behinds = h.behind }
  all_read_more u (v ∷ us) h k = record { row = (h.front, k.row); fronts = (h.front, k.fronts); behinds = (h.behind, k.behinds) }

  either_read : (b : Bool) (p q : CorePattern) → ReadsGroups p → ReadsGroups q → ReadsGroups (cond b p q)
  either_read true p q h k = h
  either_read false p q h k = k

  read_body : (for_any : Bool) (t : Tree) (p : CorePattern) → ReadsGroups p → ReadsGroups (body_of for_any t p)
  read_body for_any t p h = either_read (is_delegated for_any t) (delegate (searched for_any t) p) p tt h

  read_look : (t : Tree) (how : LookAround) (u : Written) → BothRead u → Read (look t how u)
  read_look t LookAhead u h = record { is = read_body true t u.front h.front }
  read_look t LookAheadNeg u h = record { is = read_body true t u.front h.front }
  read_look t LookBehind u h = record { is = h.behind }
  read_look t LookBehindNeg u h = record { is = h.behind }

  read_repeated : (p : CorePattern) (lo hi : ℕ) (greedy : Bool) → ReadsGroups p → ReadsGroups (repeated p lo hi greedy)
  read_repeated p zero zero greedy h = tt
  read_repeated p zero (suc hi) greedy h = h
  read_repeated p (suc lo) hi greedy h = h

-- no node of the tree goes to what is no group, of which there are so many
module _ (count : ℕ) where
  abbrev Refers : Tree → Type 0
  Refers t = (k : ℕ) → some_node (shows count (InvalidBackref k)) t ≡ true → ⊥

  abbrev RefersInRow : Trees → Type 0
  RefersInRow ts = (k : ℕ) → some_node_of (shows count (InvalidBackref k)) ts ≡ true → ⊥

  or_left : (a b : Bool) → a ≡ true → (a || b) ≡ true
  or_left true b e = refl
  or_left false b e = absurd (true≢false (sym e))

  or_right : (a b : Bool) → b ≡ true → (a || b) ≡ true
  or_right true b e = refl
  or_right false b e = e

  in_range : (k : ℕ) (a b c : Bool) → (k == 0) ≡ a → nat_lt k count ≡ b → (k == k) ≡ c → (((a || not b) && c) ≡ true → ⊥) → (1 ≤ k) × (k < count)
  in_range k true b true ea eb ec h = absurd (h refl)
  in_range k false false true ea eb ec h = absurd (h refl)
  in_range k false true true ea eb ec h =
      let positive : 1 ≤ k = grind (arith, nat_tests) in
      let below : k < count = grind (arith, nat_tests) in
      (positive, below)
  in_range k a b false ea eb ec h =
      let never : ⊥ = grind (arith, nat_tests) in
      absurd never

  -- what a back reference or a condition names
  named : (first k : ℕ) → first ≤ 1 → ((is_no_group count k && k == k) ≡ true → ⊥) → (first ≤ k) × (k < count)
  named first k low h =
      let both = in_range k (k == 0) (nat_lt k count) (k == k) refl refl refl h in
      (omega (arith, both.0), both.1)

  abbrev AllRefer : List Tree → Type 0
  AllRefer [] = Unit {0}
  AllRefer (t ∷ ts) = Refers t × AllRefer ts

  all_refer_both : (ts us : List Tree) → AllRefer ts → AllRefer us → AllRefer (ts ++ us)
  all_refer_both [] us h k = k
  all_refer_both (t ∷ ts) us h k = (h.0, all_refer_both ts us h.1 k)

  one_refers : (ts : List Tree) (k : ℕ) (body : Tree) → AllRefer ts → slice_get ts k ≡ Some body → Refers body
  one_refers [] k body h e = absurd (none-some body e)
  one_refers (t ∷ ts) zero body h e = subst Refers (same_Some t body e) h.0
  one_refers (t ∷ ts) (suc k) body h e = one_refers ts k body h.1 e

  mutual
    unfolding some_node some_node_of bodies row_bodies

    bodies_refer : (t : Tree) → Refers t → AllRefer (bodies t)
    bodies_refer (tree.group t) h = (h, bodies_refer t h)
    bodies_refer (tree.concat ts) h = row_refers ts h
    bodies_refer (tree.alt ts) h = row_refers ts h
    bodies_refer (tree.look_around t how) h = bodies_refer t h
    bodies_refer (tree.repeat t lo hi greedy) h = bodies_refer t (λ k e. h k (or_right _ _ e))
    bodies_refer (tree.atomic_group t) h = bodies_refer t h
    bodies_refer (tree.conditional c a b) h =
        all_refer_both (bodies c) (bodies a ++ bodies b) (bodies_refer c (λ k e. h k (or_left _ _ e)))
        (all_refer_both (bodies a) (bodies b)
        (bodies_refer a (λ k e. h k (or_right (some_node (shows count (InvalidBackref k)) c) _ (or_left _ _ e))))
        (bodies_refer b (λ k e. h k (or_right (some_node (shows count (InvalidBackref k)) c) _ (or_right (some_node (shows count (InvalidBackref k)) a) _ e)))))
    bodies_refer (tree.absent_repeater t) h = bodies_refer t h
    bodies_refer (tree.absent_expression a t) h =
        all_refer_both (bodies a) (bodies t) (bodies_refer a (λ k e. h k (or_left _ _ e)))
        (bodies_refer t (λ k e. h k (or_right (some_node (shows count (InvalidBackref k)) a) _ e)))
    bodies_refer (tree.absent_stopper t) h = bodies_refer t h
    bodies_refer (tree.define_group t) h = bodies_refer t h
    bodies_refer (tree.ast_group name t position) h = bodies_refer t h
    bodies_refer _ h = tt

    row_refers : (ts : Trees) → RefersInRow ts → AllRefer (row_bodies ts)
    row_refers no_trees h = tt
    row_refers (more_trees t ts) h =
        all_refer_both (bodies t) (row_bodies ts) (bodies_refer t (λ k e. h k (or_left _ _ e)))
        (row_refers ts (λ k e. h k (or_right (some_node (shows count (InvalidBackref k)) t) _ e)))

  module _ (first : ℕ) (low : first ≤ 1) (groups : List Tree) where
    abbrev Both : Written → Type 0
    Both = BothRead first count

    read_node : (t : Tree) (p : CorePattern) → ReadsGroups first count p → Both (node groups t p)
    read_node t p h = record { front = h; behind = (tt, h) }

    read_branches : (t : Tree) (us : List Written) → AllRead first count us → Both (branches groups t us)
    read_branches t us h = record {
      front = h.fronts;
      behind = either_read first count (size groups t).always (cat (back (size groups t).least) (alt_all (map (λ u. u.front) us))) _ (tt, h.fronts) h.behinds;
    }

    module _ (pat : ℕ → CorePattern) (read_call : (k : ℕ) → Read first count (pat k)) where
      mutual
        unfolding written some_node some_node_of

        reads : (n : ℕ) (t : Tree) → Refers t → Both (written groups pat n t)
        reads n (tree.alt ts) h = read_branches (tree.alt ts) _ (reads_all n ts h)
        reads n (tree.concat ts) h = read_node (tree.concat ts) _ (reads_all n ts h).row
        reads n tree.empty h = read_node tree.empty nothing tt
        reads n (tree.any newline crlf) h = read_node (tree.any newline crlf) (read (any newline crlf)) tt
        reads n (tree.assertion a) h = read_node (tree.assertion a) (check a) tt
        reads n (tree.general_newline unicode) h = read_node (tree.general_newline unicode) (general_newline unicode) tt
        reads n (tree.literal val casei) h = read_node (tree.literal val casei) (read (literal (slice_index val 0) casei)) tt
        reads n (tree.delegate text casei) h = read_node (tree.delegate text casei) (read (class text casei)) tt
        reads n (tree.group t) h = read_node (tree.group t) (group n (written groups pat (n + 1) t).front) (reads (n + 1) t h).front
        reads n (tree.look_around t how) h = read_node (tree.look_around t how) _ (read_look first count t how _ (reads n t h)).is
        reads n (tree.repeat t lo hi greedy) h =
            read_node (tree.repeat t lo hi greedy) _ (read_repeated first count _ lo hi greedy (reads n t (λ k e. h k (or_right _ _ e))).front)
        reads n (tree.atomic_group t) h =
            read_node (tree.atomic_group t) _ (read_body first count false t (written groups pat n t).front (reads n t h).front)
        reads n (tree.backref k casei) h = read_node (tree.backref k casei) (backref k casei) (named first k low (h k))
        reads n (tree.backref_exists k None) h = read_node (tree.backref_exists k None) (exists k) (named first k low (h k))
        reads n (tree.backref_exists k (Some level)) h = read_node (tree.backref_exists k (Some level)) fail tt
        reads n (tree.conditional c a b) h = read_node (tree.conditional c a b) _ (
          read_body first count false c (written groups pat n c).front (reads n c (λ k e. h k (or_left _ _ e))).front,
          (reads (n + group_count c) a (λ k e. h k (or_right (some_node (shows count (InvalidBackref k)) c) _ (or_left _ _ e)))).front,
          (reads (n + group_count c + group_count a) b
              (λ k e. h k (or_right (some_node (shows count (InvalidBackref k)) c) _ (or_right (some_node (shows count (InvalidBackref k)) a) _ e)))).front,
        )
        reads n (tree.subroutine_call k) h = read_node (tree.subroutine_call k) (pat k) (read_call k).is
        reads n tree.keep_out h = read_node tree.keep_out keep_out tt
        reads n tree.continue h = read_node tree.continue continue tt
        reads n (tree.verb v) h = read_node (tree.verb v) fail tt
        reads n (tree.absent_repeater t) h =
            read_node (tree.absent_repeater t) (absent (written groups pat n t).front) (reads n t h).front
        reads n (tree.define_group t) h = read_node (tree.define_group t) nothing tt
        reads n (tree.literal_bytes bytes) h = read_node (tree.literal_bytes bytes) fail tt
        reads n (tree.backref_with_level k level casei) h = read_node (tree.backref_with_level k level casei) fail tt
        reads n (tree.absent_expression a t) h = read_node (tree.absent_expression a t) fail tt
        reads n (tree.absent_stopper t) h = read_node (tree.absent_stopper t) fail tt
        reads n tree.absent_clear h = read_node tree.absent_clear fail tt
        reads n (tree.ast_group name t position) h = read_node (tree.ast_group name t position) fail tt
        reads n (tree.ast_backref goal casei level position) h = read_node (tree.ast_backref goal casei level position) fail tt
        reads n (tree.ast_call goal position) h = read_node (tree.ast_call goal position) fail tt
        reads n (tree.ast_condition goal level position) h = read_node (tree.ast_condition goal level position) fail tt

        reads_all : (n : ℕ) (ts : Trees) → RefersInRow ts → AllRead first count (written_all groups pat n ts)
        reads_all n no_trees h = record { row = tt; fronts = tt; behinds = tt }
        reads_all n (more_trees t ts) h =
            all_read_more first count (written groups pat n t) (written_all groups pat (n + group_count t) ts)
            (reads n t (λ k e. h k (or_left _ _ e)))
            (reads_all (n + group_count t) ts (λ k e. h k (or_right (some_node (shows count (InvalidBackref k)) t) _ e)))

      read_plain : (n : ℕ) (ts : Trees) → RefersInRow ts → ReadsGroups first count (written_plain groups pat n ts)
      read_plain n ts h =
          let row = (reads_all n ts h).row in
          either_read first count (is_delegated false (tree.concat ts)) (tail (tree.concat ts) (cat_all (written_all groups pat n ts))) (cat_all (written_all groups pat n ts)) row row

      read_tail : (n : ℕ) (ts : Trees) → RefersInRow ts → ReadsGroups first count (written_tail groups pat n ts)
      unfolding written_tail some_node_of
      read_tail n no_trees h = tt
      read_tail n (more_trees t ts) h =
          either_read first count (begins_tail (more_trees t ts)) (written_plain groups pat n (more_trees t ts)) (cat (written groups pat n t).front (written_tail groups pat (n + group_count t) ts))
          (read_plain n (more_trees t ts) h) (
            (reads n t (λ k e. h k (or_left _ _ e))).front,
            read_tail (n + group_count t) ts (λ k e. h k (or_right (some_node (shows count (InvalidBackref k)) t) _ e)),
          )

      read_whole : (n : ℕ) (t : Tree) → Refers t → ReadsGroups first count (written_whole groups pat n t)
      unfolding written_whole some_node
      read_whole n (tree.concat ts) h = read_tail n ts h
      read_whole n t h = (reads n t h).front

    module _ (refer : AllRefer groups) where
      reads_target : (b : Bool) (o : Option Tree) (p : Tree → CorePattern) → ((t : Tree) → o ≡ Some t → Read first count (p t)) →
          Read first count (cond b fail (pat_for p o))
      reads_target true o p h = record { is = tt }
      reads_target false None p h = record { is = tt }
      reads_target false (Some t) p h = record { is = (h t refl).is }

      reads_calls : (m : ℕ) (opened : List ℕ) (k : ℕ) → Read first count (written_call groups m opened k)
      unfolding written_call
      reads_calls zero opened k = record { is = tt }
      reads_calls (suc m) opened k = record {
        is = (reads_target (is_at_call_limit opened k) (target groups k)
            (λ body. (written groups (written_call groups m (k ∷ opened)) (k + 1) body).front)
            (λ body e. record { is = (reads _ (reads_calls m (k ∷ opened)) (k + 1) body (one_refers groups k body refer e)).front })).is;
      }

pattern_reads : (explicit : Bool) (t : Tree) → RefersToGroups explicit t →
    ReadsGroups (pattern_in explicit t).first_group (length (pattern_in explicit t).groups) (core_pattern_of (pattern_in explicit t))
unfolding core_pattern_of
pattern_reads true t h =
    let gs = bodies t in
    let count = length gs in
    read_whole count 0 (omega arith) gs _ (reads_calls count 0 (omega arith) gs (bodies_refer count t h) (max_open_calls gs) []) 0 t h
pattern_reads false t h =
    let gs = t ∷ bodies t in
    let count = length gs in
    read_whole count 1 (omega arith) gs _ (reads_calls count 1 (omega arith) gs (h, bodies_refer count t h) (max_open_calls gs) []) 1 t h

pattern_has_groups : (explicit : Bool) (t : Tree) →
    HasGroups (pattern_in explicit t).first_group (length (pattern_in explicit t).groups) (core_pattern_of (pattern_in explicit t))
pattern_has_groups true t = (pattern_groups_are_in_range t).1
pattern_has_groups false t = (pattern_groups_are_in_range t).0

pub can_be_written : (unicode explicit : Bool) (t : Tree) → IsAllowed unicode true (core_pattern_of (pattern_in explicit t)) → CanBeWritten explicit t
can_be_written unicode explicit t allowed =
    let p = pattern_in explicit t in
    record {
      placed = pattern_steps_back_only_first p;
      writable = λ refers. can_write p.first_group (length p.groups) unicode true false (core_pattern_of p) (pattern_has_groups explicit t)
          (pattern_reads explicit t refers) allowed (pattern_steps_back_only_first p);
    }

-- the body of a group
body_reads : (explicit : Bool) (t : Tree) (k : ℕ) (u : Tree) → target (pattern_in explicit t).groups k ≡ Some u → RefersToGroups explicit t →
    ReadsGroups (pattern_in explicit t).first_group (length (pattern_in explicit t).groups) (body_pattern (pattern_in explicit t).groups k u)
body_reads true t k u is h =
    let gs = bodies t in
    let count = length gs in
    (reads count 0 (omega arith) gs _ (reads_calls count 0 (omega arith) gs (bodies_refer count t h) (max_open_calls gs) []) (k + 1) u
    (one_refers count gs k u (bodies_refer count t h) is)).front
body_reads false t k u is h =
    let gs = t ∷ bodies t in
    let count = length gs in
    (reads count 1 (omega arith) gs _ (reads_calls count 1 (omega arith) gs (h, bodies_refer count t h) (max_open_calls gs) []) (k + 1) u
    (one_refers count gs k u (h, bodies_refer count t h) is)).front

body_has_groups : (explicit : Bool) (t : Tree) (k : ℕ) (u : Tree) → target (pattern_in explicit t).groups k ≡ Some u →
    HasGroups (pattern_in explicit t).first_group (length (pattern_in explicit t).groups) (body_pattern (pattern_in explicit t).groups k u)
body_has_groups true t k u is = body_groups_from_zero t (max_open_calls (bodies t)) [] k u is
body_has_groups false t k u is = body_groups_from_one t (max_open_calls (t ∷ bodies t)) [] k u is

body_steps_back : (groups : List Tree) (k : ℕ) (u : Tree) → StepsBackOnlyFirst false (body_pattern groups k u)
body_steps_back groups k u = (unfolded_steps_back_only_first groups (max_open_calls groups) [] (k + 1) u).0

pub body_can_be_written : (unicode keeps explicit : Bool) (t : Tree) (k : ℕ) (u : Tree) → target (pattern_in explicit t).groups k ≡ Some u → RefersToGroups explicit t →
    IsAllowed unicode keeps (body_pattern (pattern_in explicit t).groups k u) →
    IsWritable (pattern_in explicit t).first_group (length (pattern_in explicit t).groups) (body_pattern (pattern_in explicit t).groups k u)
body_can_be_written unicode keeps explicit t k u is refers allowed =
    let p = pattern_in explicit t in
    can_write p.first_group (length p.groups) unicode keeps false (body_pattern p.groups k u) (body_has_groups explicit t k u is) (body_reads explicit t k u is refers) allowed
    (body_steps_back p.groups k u)
