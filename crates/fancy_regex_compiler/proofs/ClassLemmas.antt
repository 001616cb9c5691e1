-- Each class that is written out stands in the pattern, so the grammar of `regex` reads it.
use Rattle.std.proofs.Common.{◌≡◌, ℕ, zero, suc, ◌+◌, ◌<◌, ◌≤◌, ◌⊎◌, ⊎_elim, inl, inr, Bool, true, false, not, cond, true≢false, List, [], ◌∷◌, length, Some, refl, sym, ap, subst, ◌∙◌, arith}
use Rattle.std.specs.Prelude.{IsTrue, All, count_by, bytes_eq, ◌==◌, ◌&&◌, nat_lt, nat_le}
use Rattle.std.specs.List.{Contains}
use Rattle.std.proofs.lemmas.Bool.{cases_eq}
use Rattle.std.proofs.lemmas.Bool.Decides.{nat_tests}
use Rattle.std.proofs.lemmas.List.Sums.{sum_by-cons}
use Rattle.std.proofs.lemmas.Option.{same_Some, slice_get_within}
use Rattle.std.proofs.lemmas.Slice.Eq.{bytes_eq-Decides}
use Rattle.fancy_regex_tree.specs.declared.expr.LookAround.{LookAround}
use Rattle.fancy_regex_tree.specs.declared.expr.LookAround.TheVariants.{LookAhead, LookAheadNeg, LookBehind, LookBehindNeg}
use Rattle.fancy_regex_tree.specs.Tree as tree
use Rattle.fancy_regex_tree.specs.Tree.{Text, Tree, Trees, no_trees, more_trees}
use Rattle.fancy_regex_tree.specs.Traversal.{subtrees, listed}
use Rattle.fancy_regex_meaning.specs.Groups.{group_count}
use Rattle.fancy_regex_meaning.specs.Sizes.{size, target}
use Rattle.fancy_regex_meaning.specs.Ways.{is_at_call_limit, max_open_calls}
use Rattle.fancy_regex_class.specs.Classes.{class_text, is_read}
use Rattle.fancy_regex_desugar.specs.CorePatterns.{class, CorePattern, nothing, read, general_newline, check, continue, keep_out, fail, cat, alt, group, ahead, never, back, atomic, delegate, tail, repeat, backref, exists, conditional, absent, called}
use Rattle.fancy_regex_desugar.specs.Delegates.{searched, is_delegated, begins_tail}
use Rattle.fancy_regex_desugar.specs.Unfolded.{Written, pat_for, cat_all, alt_all, fronts, behinds, body_of, first_way_of, repeated, look, node, branches, written, written_all, written_call, written_plain, written_tail, written_whole, core_pattern_of}
use Rattle.fancy_regex_analysis.specs.NodeErrors.{is_invalid_node}
use Rattle.fancy_regex_analysis.specs.UnsupportedParts.{is_unsupported}
use Rattle.fancy_regex_info.specs.Views.{pattern_in}
use Rattle.fancy_regex_analysis.specs.EmittedParts.{skips_children, IsEmitted, the_root, child, body, SomeEmittedPart}
use Rattle.fancy_regex_compiler.specs.Refusals.{Inside, is_class, IsClear, ReadsClasses}
use Rattle.fancy_regex_program.specs.Shapes.{IsReadable, IsAllowed}
use Rattle.fancy_regex_compiler.proofs.ClearLemmas.{part_node}
use Rattle.fancy_regex_program.proofs.LazyLemmas.{searched_easy, searched_classes}
use Rattle.std.proofs.lemmas.List.Elements.{All-contains, Contains-append_left, Contains-append_right}
use Rattle.fancy_regex_meaning.specs.Groups.{pattern_of}
use Rattle.fancy_regex_info.specs.Easy.{is_easy, all_easy}
use Rattle.fancy_regex_info.specs.References.{is_read as is_read_group}
use Rattle.fancy_regex_linear.specs.Plain.{has_no_iteration, classes, row_classes}
use Rattle.fancy_regex_linear.specs.Refusals.{IsRead}
use Rattle.fancy_regex_desugar.proofs.DelegateProofs.{part_of, searched_can_be}

none_there : {X : Type 0} (x : X) → Contains [] x → ⊥
none_there x c = let low : c.0 < 0 = c.1 in omega arith

first_or_later : {X : Type 0} (y : X) (xs : List X) (x : X) → Contains (y ∷ xs) x → (y ≡ x) ⊎ Contains xs x
first_or_later y xs x (zero, low, is) = inl is
first_or_later y xs x (suc n, low, is) = inr (n, omega arith, is)

only_child : (t u : Tree) → Contains (t ∷ []) u → t ≡ u
only_child t u m = ⊎_elim (λ e. e) (λ e. absurd (none_there u e)) (first_or_later t [] u m)

same_case : (c casei : Bool) → cond casei c (not c) ≡ true → c ≡ casei
same_case true true h = refl
same_case true false h = absurd (true≢false (sym h))
same_case false true h = absurd (true≢false (sym h))
same_case false false h = refl

both_true : (a b : Bool) → (a && b) ≡ true → (a ≡ true) × (b ≡ true)
both_true true b h = (refl, h)
both_true false b h = absurd (true≢false (sym h))

-- a node that a program may be made of, whose children are written out with it
abbrev is_built : Tree → Bool
is_built (tree.absent_expression a t) = false
is_built (tree.absent_stopper t) = false
is_built (tree.ast_group name t position) = false
is_built t = true

module _ (unicode : Bool) where
  -- The grammar of `regex` reads each class in it.
  abbrev Reads : CorePattern → Type 0
  Reads (read leaf) = IsReadable unicode leaf
  Reads (cat a b) = Reads a × Reads b
  Reads (alt a b) = Reads a × Reads b
  Reads (group k a) = Reads a
  Reads (ahead a) = Reads a
  Reads (never a) = Reads a
  Reads (atomic a) = Reads a
  Reads (delegate t a) = All (IsRead unicode) (classes t)
  Reads (tail t a) = Reads a
  Reads (repeat a lo hi greedy) = Reads a
  Reads (conditional c a b) = Reads c × Reads a × Reads b
  Reads (absent a) = Reads a
  Reads (called k a) = Reads a
  Reads _ = Unit {0}

  allowed_reads : (keeps : Bool) (p : CorePattern) → IsAllowed unicode keeps p → Reads p
  allowed_reads keeps nothing h = tt
  allowed_reads keeps (read leaf) h = h
  allowed_reads keeps (general_newline crlf) h = tt
  allowed_reads keeps (check a) h = tt
  allowed_reads keeps continue h = tt
  allowed_reads keeps keep_out h = tt
  allowed_reads keeps fail h = tt
  allowed_reads keeps (cat a b) h = (allowed_reads keeps a h.0, allowed_reads keeps b h.1)
  allowed_reads keeps (alt a b) h = (allowed_reads keeps a h.0, allowed_reads keeps b h.1)
  allowed_reads keeps (group k a) h = allowed_reads keeps a h
  allowed_reads keeps (ahead a) h = allowed_reads false a h
  allowed_reads keeps (never a) h = allowed_reads false a h
  allowed_reads keeps (back n) h = tt
  allowed_reads keeps (atomic a) h = allowed_reads keeps a h
  allowed_reads keeps (delegate t a) h = h
  allowed_reads keeps (tail t a) h = allowed_reads keeps a h.1
  allowed_reads keeps (repeat a lo hi greedy) h = allowed_reads keeps a h.1
  allowed_reads keeps (backref k casei) h = tt
  allowed_reads keeps (exists k) h = tt
  allowed_reads keeps (conditional c a b) h = (allowed_reads keeps c h.0, allowed_reads keeps a h.1, allowed_reads keeps b h.2)
  allowed_reads keeps (absent a) h = allowed_reads false a h
  allowed_reads keeps (called k a) h = allowed_reads keeps a h

  -- the same of one side of what a tree is written out to
  abbrev HasSide : Written → Type 0
  HasSide u = Reads u.front ⊎ Reads u.behind

  alt_first : (p : CorePattern) (ps : List CorePattern) → Reads (alt_all (p ∷ ps)) → Reads p
  alt_first p [] h = h
  alt_first p (q ∷ ps) h = h.0

  alt_later : (p : CorePattern) (ps : List CorePattern) → Reads (alt_all (p ∷ ps)) → Reads (alt_all ps)
  alt_later p [] h = tt
  alt_later p (q ∷ ps) h = h.1

  either_reads : (b : Bool) (n : ℕ) (p q : CorePattern) → Reads (cond b (cat (back n) p) q) → Reads p ⊎ Reads q
  either_reads true n p q h = inl h.1
  either_reads false n p q h = inr h

  repeated_reads : (p : CorePattern) (lo hi : ℕ) (greedy : Bool) → (hi == 0) ≡ false → Reads (repeated p lo hi greedy) → Reads p
  repeated_reads p zero zero greedy seen h = absurd (true≢false seen)
  repeated_reads p zero (suc hi) greedy seen h = h
  repeated_reads p (suc lo) hi greedy seen h = h

  no_iteration_if : (p : CorePattern) (lo hi : ℕ) (greedy : Bool) → (has_no_iteration lo hi ≡ false → Reads p) → Reads (repeated p lo hi greedy)
  no_iteration_if p zero zero greedy h = tt
  no_iteration_if p zero (suc hi) greedy h = h (grind (arith, nat_tests))
  no_iteration_if p (suc lo) hi greedy h = h (grind (arith, nat_tests))

  module _ (groups : List Tree) (call : ℕ → CorePattern) where
    module _ (reads : ℕ → Bool) where
      abbrev AreRead : List (Text × Bool) → Type 0
      AreRead cs = (c : Text × Bool) → Contains cs c → IsRead unicode c

      -- where each class of an easy part is read, so it is where the part is written out
      mutual
        unfolding is_easy all_easy written classes row_classes

        easy_reads : (k n : ℕ) (t : Tree) → is_easy reads k t ≡ true → AreRead (classes t) → Reads (written groups call n t).front
        easy_reads k n (tree.concat ts) e h = easy_row k n ts e h
        easy_reads k n (tree.alt no_trees) e h = absurd (true≢false (sym e))
        easy_reads k n (tree.alt (more_trees t ts)) e h = easy_branches k n (more_trees t ts) e h
        easy_reads k n tree.empty e h = tt
        easy_reads k n (tree.any newline crlf) e h = tt
        easy_reads k n (tree.literal val casei) e h = tt
        easy_reads k n (tree.delegate text casei) e h = h (text, casei) (zero, omega arith, refl)
        easy_reads k n (tree.assertion a) e h = tt
        easy_reads k n (tree.group t) e h = easy_reads (k + 1) (n + 1) t (both_true (is_easy reads (k + 1) t) (not (reads k)) e).0 h
        easy_reads k n (tree.repeat t lo hi greedy) e h =
            no_iteration_if (written groups call n t).front lo hi greedy
            (λ some. easy_reads k n t e (λ c m. h c (subst (λ b. Contains (cond b [] (classes t)) c) (sym some) m)))
        easy_reads k n (tree.general_newline uni) e h = absurd (true≢false (sym e))
        easy_reads k n (tree.look_around t how) e h = absurd (true≢false (sym e))
        easy_reads k n (tree.atomic_group t) e h = absurd (true≢false (sym e))
        easy_reads k n (tree.backref j casei) e h = absurd (true≢false (sym e))
        easy_reads k n (tree.backref_exists j level) e h = absurd (true≢false (sym e))
        easy_reads k n (tree.conditional x y z) e h = absurd (true≢false (sym e))
        easy_reads k n (tree.subroutine_call j) e h = absurd (true≢false (sym e))
        easy_reads k n tree.keep_out e h = absurd (true≢false (sym e))
        easy_reads k n tree.continue e h = absurd (true≢false (sym e))
        easy_reads k n (tree.verb v) e h = absurd (true≢false (sym e))
        easy_reads k n (tree.absent_repeater t) e h = absurd (true≢false (sym e))
        easy_reads k n (tree.define_group t) e h = absurd (true≢false (sym e))
        easy_reads k n (tree.literal_bytes bytes) e h = absurd (true≢false (sym e))
        easy_reads k n (tree.backref_with_level j level casei) e h = absurd (true≢false (sym e))
        easy_reads k n (tree.absent_expression a t) e h = absurd (true≢false (sym e))
        easy_reads k n (tree.absent_stopper t) e h = absurd (true≢false (sym e))
        easy_reads k n tree.absent_clear e h = absurd (true≢false (sym e))
        easy_reads k n (tree.ast_group name t position) e h = absurd (true≢false (sym e))
        easy_reads k n (tree.ast_backref goal casei level position) e h = absurd (true≢false (sym e))
        easy_reads k n (tree.ast_call goal position) e h = absurd (true≢false (sym e))
        easy_reads k n (tree.ast_condition goal level position) e h = absurd (true≢false (sym e))

        easy_row : (k n : ℕ) (ts : Trees) → all_easy reads k ts ≡ true → AreRead (row_classes ts) → Reads (cat_all (written_all groups call n ts))
        easy_row k n no_trees e h = tt
        easy_row k n (more_trees t ts) e h =
            let both = both_true (is_easy reads k t) (all_easy reads (k + group_count t) ts) e in (
              easy_reads k n t both.0 (λ c m. h c (Contains-append_left (classes t) (row_classes ts) c m)),
              easy_row (k + group_count t) (n + group_count t) ts both.1 (λ c m. h c (Contains-append_right (classes t) (row_classes ts) c m)),
            )

        easy_branches : (k n : ℕ) (ts : Trees) → all_easy reads k ts ≡ true → AreRead (row_classes ts) →
            Reads (alt_all (fronts (written_all groups call n ts)))
        easy_branches k n no_trees e h = tt
        easy_branches k n (more_trees t no_trees) e h =
            easy_reads k n t (both_true (is_easy reads k t) (all_easy reads (k + group_count t) no_trees) e).0 (λ c m. h c (Contains-append_left (classes t) [] c m))
        easy_branches k n (more_trees t (more_trees u us)) e h =
            let both = both_true (is_easy reads k t) (all_easy reads (k + group_count t) (more_trees u us)) e in (
              easy_reads k n t both.0 (λ c m. h c (Contains-append_left (classes t) (row_classes (more_trees u us)) c m)),
              easy_branches (k + group_count t) (n + group_count t) (more_trees u us) both.1 (λ c m. h c (Contains-append_right (classes t) (row_classes (more_trees u us)) c m)),
            )

    body_reads : (n : ℕ) (for_any : Bool) (t : Tree) → Reads (body_of for_any t (written groups call n t).front) → Reads (written groups call n t).front
    body_reads n for_any t =
        let p = (written groups call n t).front in
        let sought = searched for_any t in
        let reads = is_read_group (length (pattern_of sought).groups) sought in
        elim (is_delegated for_any t) as (λ b. is_delegated for_any t ≡ b → Reads (cond b (delegate sought p) p) → Reads p) [
          | true ↦ λ e h.
              easy_reads reads 1 n t (sym (searched_easy for_any reads 1 t) ∙ (part_of sought (searched_can_be for_any t e)).easy)
              (λ c m. All-contains (IsRead unicode) (classes t) c (subst (All (IsRead unicode)) (searched_classes for_any t) h) m)
          | false ↦ λ e h. h
        ] refl

    look_reads : (n : ℕ) (t : Tree) (how : LookAround) → Reads (look t how (written groups call n t)) → HasSide (written groups call n t)
    look_reads n t LookAhead h = inl (body_reads n true t h)
    look_reads n t LookAheadNeg h = inl (body_reads n true t h)
    look_reads n t LookBehind h = inr h
    look_reads n t LookBehindNeg h = inr h

  module _ (groups : List Tree) where
    node_reads : (t : Tree) (p : CorePattern) → HasSide (node groups t p) → Reads p
    node_reads t p h = ⊎_elim (λ (e : Reads p). e) (λ (e : Unit {0} × Reads p). e.1) h

    -- over the patterns of all calls
    module _ (call : ℕ → CorePattern) where
      -- The grammar reads each class in one side of what the tree is written out to.
      record At (t : Tree) : Type 0 where
        first : ℕ
        side : HasSide (written groups call first t)

      from_front : (n : ℕ) (t u : Tree) → t ≡ u → Reads (written groups call n t).front → At u
      from_front n t u is h = subst At is (record { first = n; side = inl h })

      from_behind : (n : ℕ) (t u : Tree) → t ≡ u → Reads (written groups call n t).behind → At u
      from_behind n t u is h = subst At is (record { first = n; side = inr h })

      in_row : (n : ℕ) (ts : Trees) (u : Tree) → Reads (cat_all (written_all groups call n ts)) → Contains (listed ts) u → At u
      unfolding written
      in_row n no_trees u h m = absurd (none_there u m)
      in_row n (more_trees t ts) u h m =
          ⊎_elim (λ e. from_front n t u e h.0) (λ e. in_row (n + group_count t) ts u h.1 e) (first_or_later t (listed ts) u m)

      in_fronts : (n : ℕ) (ts : Trees) (u : Tree) → Reads (alt_all (fronts (written_all groups call n ts))) → Contains (listed ts) u → At u
      unfolding written
      in_fronts n no_trees u h m = absurd (none_there u m)
      in_fronts n (more_trees t ts) u h m =
          let later = fronts (written_all groups call (n + group_count t) ts) in
          ⊎_elim (λ e. from_front n t u e (alt_first (written groups call n t).front later h))
          (λ e. in_fronts (n + group_count t) ts u (alt_later (written groups call n t).front later h) e) (first_or_later t (listed ts) u m)

      in_behinds : (n : ℕ) (ts : Trees) (u : Tree) → Reads (alt_all (behinds (written_all groups call n ts))) → Contains (listed ts) u → At u
      unfolding written
      in_behinds n no_trees u h m = absurd (none_there u m)
      in_behinds n (more_trees t ts) u h m =
          let later = behinds (written_all groups call (n + group_count t) ts) in
          ⊎_elim (λ e. from_behind n t u e (alt_first (written groups call n t).behind later h))
          (λ e. in_behinds (n + group_count t) ts u (alt_later (written groups call n t).behind later h) e) (first_or_later t (listed ts) u m)

      in_branches : (n : ℕ) (ts : Trees) (u : Tree) → HasSide (branches groups (tree.alt ts) (written_all groups call n ts)) →
          Contains (listed ts) u → At u
      in_branches n ts u h m =
          let us = written_all groups call n ts in
          ⊎_elim (λ e. in_fronts n ts u e m)
          (λ e. ⊎_elim (λ f. in_fronts n ts u f m) (λ f. in_behinds n ts u f m)
          (either_reads (size groups (tree.alt ts)).always (size groups (tree.alt ts)).least (alt_all (fronts us)) (alt_all (behinds us)) e)) h

      from_side : (n : ℕ) (t u : Tree) → t ≡ u → HasSide (written groups call n t) → At u
      from_side n t u is h = subst At is (record { first = n; side = h })

      -- What is so of a node is so of each of its children.
      child_at : (n : ℕ) (t u : Tree) → HasSide (written groups call n t) → skips_children t ≡ false → is_built t ≡ true →
          Contains (subtrees t) u → At u
      unfolding written
      child_at n (tree.alt ts) u h seen built m = in_branches n ts u h m
      child_at n (tree.concat ts) u h seen built m = in_row n ts u (node_reads (tree.concat ts) (cat_all (written_all groups call n ts)) h) m
      child_at n (tree.group t) u h seen built m =
          from_front (n + 1) t u (only_child t u m) (node_reads (tree.group t) (group n (written groups call (n + 1) t).front) h)
      child_at n (tree.look_around t how) u h seen built m =
          let w = written groups call n t in
          from_side n t u (only_child t u m) (look_reads groups call n t how (node_reads (tree.look_around t how) (look t how w) h))
      child_at n (tree.repeat t lo hi greedy) u h seen built m =
          let p = (written groups call n t).front in
          from_front n t u (only_child t u m)
          (repeated_reads p lo hi greedy seen (node_reads (tree.repeat t lo hi greedy) (repeated p lo hi greedy) h))
      child_at n (tree.atomic_group t) u h seen built m =
          from_front n t u (only_child t u m)
          (body_reads groups call n false t (node_reads (tree.atomic_group t) (atomic (first_way_of t (written groups call n t).front)) h))
      child_at n (tree.conditional c a b) u h seen built m =
          let parts = node_reads (tree.conditional c a b) (conditional (first_way_of c (written groups call n c).front) (written groups call (n + group_count c) a).front
          (written groups call (n + group_count c + group_count a) b).front) h in
          ⊎_elim (λ e. from_front n c u e (body_reads groups call n false c parts.0))
          (λ e. ⊎_elim (λ f. from_front (n + group_count c) a u f parts.1)
          (λ f. from_front (n + group_count c + group_count a) b u (only_child b u f) parts.2)
          (first_or_later a (b ∷ []) u e))
          (first_or_later c (a ∷ b ∷ []) u m)
      child_at n (tree.absent_repeater t) u h seen built m =
          from_front n t u (only_child t u m) (node_reads (tree.absent_repeater t) (absent (written groups call n t).front) h)
      child_at n (tree.absent_expression a t) u h seen built m = absurd (true≢false (sym built))
      child_at n (tree.absent_stopper t) u h seen built m = absurd (true≢false (sym built))
      child_at n (tree.ast_group name t position) u h seen built m = absurd (true≢false (sym built))
      child_at n (tree.define_group t) u h seen built m = absurd (true≢false seen)
      child_at n t u h seen built m = absurd (none_there u m)

      -- a class where it is written out
      class_at : (t : Tree) (text : Text) (casei : Bool) → At t → is_class text casei t ≡ true → IsTrue (is_read (class_text unicode casei text))
      unfolding written
      class_at (tree.delegate inner c) text casei h e =
          let both = both_true (bytes_eq inner text) (cond casei c (not c)) e in
          let same : inner ≡ text = (bytes_eq-Decides inner text).0 both.0 in
          subst (λ x. IsTrue (is_read (class_text unicode casei x))) same
          (subst (λ b. IsTrue (is_read (class_text unicode b inner))) (same_case c casei both.1)
          (node_reads (tree.delegate inner c) (read (class inner c)) h.side))
      class_at t text casei h e = absurd (true≢false (sym e))

    -- A call is its target's body, with one call more open.
    call_at : (m : ℕ) (opened : List ℕ) (n k : ℕ) (u : Tree) → target groups k ≡ Some u → is_at_call_limit opened k ≡ false →
        HasSide (written groups (written_call groups (suc m) opened) n (tree.subroutine_call k)) → At (written_call groups m (k ∷ opened)) u
    unfolding written written_call
    call_at m opened n k u found free h =
        let inside = λ (b : Tree). (written groups (written_call groups m (k ∷ opened)) (k + 1) b).front in
        let is = ap (λ b. called k (cond b fail (pat_for inside (target groups k)))) free ∙ ap (λ o. called k (pat_for inside o)) found in
        record { first = k + 1; side = inl (subst Reads is (node_reads (tree.subroutine_call k) (written_call groups (suc m) opened k) h)) }

-- how often the target is open
abbrev opens : ℕ → List ℕ → ℕ
opens k opened = count_by (λ j. j == k) opened

opens-cons : (k j : ℕ) (opened : List ℕ) → opens k (j ∷ opened) ≡ cond (j == k) 1 0 + opens k opened
opens-cons k j opened = sum_by-cons (λ i. cond (i == k) 1 0) j opened

same_one : (j k : ℕ) → j ≡ k → ◌≡◌ {A = ℕ} (cond (j == k) 1 0) 1
same_one j k e = grind (arith, nat_tests)

other_one : (j k : ℕ) → (j ≡ k → ⊥) → ◌≡◌ {A = ℕ} (cond (j == k) 1 0) 0
other_one j k e = grind (arith, nat_tests)

-- how many targets below n are not open
left : ℕ → List ℕ → ℕ
left zero opened = 0
left (suc n) opened = left n opened + cond (opens n opened == 0) 1 0

left_one_less : (n k : ℕ) (opened : List ℕ) → opens k opened ≡ 0 → left n (k ∷ opened) + cond (nat_lt k n) 1 0 ≡ left n opened
unfolding left
left_one_less zero k opened none = grind (arith, nat_tests)
left_one_less (suc n) k opened none =
    ⊎_elim
    (λ (e : k ≡ n). grind (arith, nat_tests, left_one_less n k opened none, opens-cons n k opened, same_one k n e))
    (λ (ne : k ≡ n → ⊥). grind (arith, nat_tests, left_one_less n k opened none, opens-cons n k opened, other_one k n ne))
    (cases_eq k n)

left_fewer : (n k : ℕ) (opened : List ℕ) → k < n → opens k opened ≡ 0 → left n (k ∷ opened) < left n opened
left_fewer n k opened below none = grind (arith, nat_tests, left_one_less n k opened none)

left_most : (n : ℕ) (opened : List ℕ) → left n opened ≤ n
unfolding left
left_most zero opened = omega arith
left_most (suc n) opened = grind (arith, nat_tests, left_most n opened)

not_full : (opened : List ℕ) (k : ℕ) → opens k opened ≡ 0 → is_at_call_limit opened k ≡ false
not_full opened k none = ap (nat_le 19) none

module _ (groups : List Tree) (root : Tree) where
  -- A part that is written out, and the targets of the calls that are open round it, each of them once.
  data Reached : List ℕ → Tree → Type 0 where
    at_root : Reached [] root
    at_child : (opened : List ℕ) (t u : Tree) → Reached opened t → skips_children t ≡ false → is_built t ≡ true → Contains (subtrees t) u →
        Reached opened u
    at_body : (opened : List ℕ) (k : ℕ) (u : Tree) → Reached opened (tree.subroutine_call k) → target groups k ≡ Some u →
        opens k opened ≡ 0 → Reached (k ∷ opened) u

  abbrev IsReached : Tree → Type 0
  IsReached t = (opened : List ℕ) × Reached opened t

  -- the body of a target that is open was reached when it was opened
  earlier : (opened : List ℕ) (t : Tree) → Reached opened t → (k : ℕ) (u : Tree) → target groups k ≡ Some u → (opens k opened ≡ 0 → ⊥) → IsReached u
  earlier opened t at_root k u found again = absurd (again refl)
  earlier opened t (at_child _ s _ r seen built m) k u found again = earlier opened s r k u found again
  earlier opened t (at_body others j _ r is none) k u found again =
      ⊎_elim
      (λ (e : j ≡ k). subst IsReached (same_Some t u (sym is ∙ ap (target groups) e ∙ found)) (opened, at_body others j t r is none))
      (λ (ne : j ≡ k → ⊥). earlier others (tree.subroutine_call j) r k u found
      (λ z. again (omega (arith, opens-cons k j others, other_one j k ne, z))))
      (cases_eq j k)

  body_reached : (opened : List ℕ) (k : ℕ) (u : Tree) → Reached opened (tree.subroutine_call k) → target groups k ≡ Some u → IsReached u
  body_reached opened k u r found =
      ⊎_elim (λ (e : opens k opened ≡ 0). (k ∷ opened, at_body opened k u r found e))
      (λ (ne : opens k opened ≡ 0 → ⊥). earlier opened (tree.subroutine_call k) r k u found ne)
      (cases_eq (opens k opened) 0)

  -- where the tree is clear
  module _ (parts : SomeEmittedPart groups root (is_unsupported (size groups)) → ⊥) (nodes : SomeEmittedPart groups root (λ _. is_invalid_node (length groups)) → ⊥) where
    built : (i : Inside) (t : Tree) → IsEmitted groups root i t → is_built t ≡ true
    built i (tree.absent_expression a t) w = absurd (parts (i, tree.absent_expression a t, w, refl))
    built i (tree.absent_stopper t) w = absurd (parts (i, tree.absent_stopper t, w, refl))
    built i (tree.ast_group name t position) w = absurd (nodes (i, tree.ast_group name t position, w, refl))
    built i t w = refl

    reached : (i : Inside) (t : Tree) → IsEmitted groups root i t → IsReached t
    reached i t the_root = ([], at_root)
    reached i u (child j t _ w seen m) = let r = reached j t w in (r.0, at_child r.0 t u r.1 seen (built j t w) m)
    reached i u (body _ k _ w found) = let r = reached i (tree.subroutine_call k) w in body_reached r.0 k u r.1 found

  module _ (unicode : Bool) where
    -- with enough calls that may open for all the targets that are not open
    record Walked (opened : List ℕ) (t : Tree) : Type 0 where
      calls : ℕ
      enough : left (length groups) opened ≤ calls
      place : At unicode groups (written_call groups calls opened) t

    walk_body : (opened : List ℕ) (k : ℕ) (u : Tree) (m : ℕ) → left (length groups) opened ≤ m → target groups k ≡ Some u → opens k opened ≡ 0 →
        At unicode groups (written_call groups m opened) (tree.subroutine_call k) → Walked (k ∷ opened) u
    walk_body opened k u zero enough found none a =
        absurd (omega (arith, left_fewer (length groups) k opened (slice_get_within groups k u found) none))
    walk_body opened k u (suc m) enough found none a = record {
      calls = m;
      enough = omega (arith, left_fewer (length groups) k opened (slice_get_within groups k u found) none);
      place = call_at unicode groups m opened a.first k u found (not_full opened k none) a.side;
    }

    walked : (At unicode groups (written_call groups (max_open_calls groups) []) root) → (opened : List ℕ) (t : Tree) → Reached opened t → Walked opened t
    walked whole opened t at_root = record { calls = max_open_calls groups; enough = omega (arith, left_most (length groups) []); place = whole }
    walked whole opened u (at_child _ t _ r seen built m) =
        let w = walked whole opened t r in
        record { calls = w.calls; enough = w.enough; place = child_at unicode groups _ w.place.first t u w.place.side seen built m }
    walked whole _ u (at_body opened k _ r found none) =
        let w = walked whole opened (tree.subroutine_call k) r in
        walk_body opened k u w.calls w.enough found none w.place

-- what is read of a whole pattern is read of its tree as a part
module _ (unicode : Bool) (groups : List Tree) (call : ℕ → CorePattern) where
  plain_reads : (b : Bool) (t : Tree) (p : CorePattern) → Reads unicode (cond b (tail t p) p) → Reads unicode p
  plain_reads true t p h = h
  plain_reads false t p h = h

  row_reads : (b : Bool) (p q row : CorePattern) → (Reads unicode p → Reads unicode row) → (Reads unicode q → Reads unicode row) → Reads unicode (cond b p q) → Reads unicode row
  row_reads true p q row f g h = f h
  row_reads false p q row f g h = g h

  tail_reads : (n : ℕ) (ts : Trees) → Reads unicode (written_tail groups call n ts) → Reads unicode (cat_all (written_all groups call n ts))
  unfolding written_tail written_all
  tail_reads n no_trees h = tt
  tail_reads n (more_trees t ts) h =
      let row = cat_all (written_all groups call n (more_trees t ts)) in
      row_reads (begins_tail (more_trees t ts)) (written_plain groups call n (more_trees t ts)) (cat (written groups call n t).front (written_tail groups call (n + group_count t) ts)) row
      (plain_reads (is_delegated false (tree.concat (more_trees t ts))) (tree.concat (more_trees t ts)) row)
      (λ k. (k.0, tail_reads (n + group_count t) ts k.1)) h

  whole_reads : (n : ℕ) (t : Tree) → Reads unicode (written_whole groups call n t) → Reads unicode (written groups call n t).front
  unfolding written_whole written
  whole_reads n (tree.concat ts) h = tail_reads n ts h
  whole_reads n t h = h

whole_at : (unicode explicit : Bool) (t : Tree) → IsAllowed unicode true (core_pattern_of (pattern_in explicit t)) →
    At unicode (pattern_in explicit t).groups (written_call (pattern_in explicit t).groups (max_open_calls (pattern_in explicit t).groups) []) t
unfolding core_pattern_of
whole_at unicode true t h = record {
  first = 0;
  side = inl (whole_reads unicode (pattern_in true t).groups (written_call (pattern_in true t).groups (max_open_calls (pattern_in true t).groups) []) 0 t
      (allowed_reads unicode true (core_pattern_of (pattern_in true t)) h));
}
whole_at unicode false t h = record {
  first = 1;
  side = inl (whole_reads unicode (pattern_in false t).groups (written_call (pattern_in false t).groups (max_open_calls (pattern_in false t).groups) []) 1 t
      (allowed_reads unicode true (core_pattern_of (pattern_in false t)) h));
}

pub classes_are_read : (unicode explicit : Bool) (t : Tree) → IsClear (pattern_in explicit t).groups t →
    IsAllowed unicode true (core_pattern_of (pattern_in explicit t)) → ReadsClasses unicode (pattern_in explicit t).groups t
classes_are_read unicode explicit t clear allowed casei text part =
    let groups = (pattern_in explicit t).groups in
    let nodes : SomeEmittedPart groups t (λ _. is_invalid_node (length groups)) → ⊥ =
    λ p. absurd (let never : true ≡ false = sym (part_node (is_invalid_node (length groups)) explicit t p) ∙ clear.nodes in cc) in
    let r = reached groups t clear.parts nodes part.0 part.1 part.2 in
    let w = walked groups t unicode (whole_at unicode explicit t allowed) r.0 part.1 r.1 in
    class_at unicode groups _ part.1 text casei w.place part.3
