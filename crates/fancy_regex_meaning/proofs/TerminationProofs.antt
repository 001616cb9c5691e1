-- Which parts can end.
use Rattle.std.proofs.Common.{◌≡◌, ℕ, zero, suc, ◌+◌, ◌<◌, ◌≤◌, Bool, true, false, cond, List, length, Option, Some, None, refl, sym, ap, subst, ◌∙◌, ⊎_elim, ◌⊎◌, inl, inr, arith}
use Rattle.std.specs.Prelude.{◌&&◌, ◌||◌, ◌==◌}
use Rattle.std.proofs.lemmas.Bool.{and_parts, or_cases, or_left, or_right, eqb-true, cases_eq, false≢true}
use mathlib.Core.Path.{fun_ext}
use Rattle.std.proofs.lemmas.Option.{slice_get_within}
use Rattle.fancy_regex_tree.specs.Tree.{Tree, Trees, concat, alt, group, look_around, repeat, atomic_group, conditional, subroutine_call, absent_repeater, absent_expression, absent_stopper, define_group, ast_group, no_trees, more_trees}
use Rattle.fancy_regex_meaning.specs.Sizes.{target}
use Rattle.fancy_regex_meaning.specs.TerminationLaws.{TerminatingHasUnfolding, NonTerminatingHasNoUnfolding, TerminationDepthSuffices, FixpointIsReached}
use Rattle.fancy_regex_meaning.specs.Termination.{can_end_with, all_can_end, some_can_end, has_parts, ends_through, can_end, Unfolding, of_leaf, of_row, of_branch, of_no_repetition, of_repetitions, of_yes, of_no, of_target, of_no_target, of_group, of_look_around, of_atomic_group, of_absent_repeater, of_absent_expression, of_absent_stopper, of_define_group, of_ast_group, RowUnfolding, of_none, of_each, BranchUnfolding, of_this, of_later}

and_both : (a b : Bool) → a ≡ true → b ≡ true → (a && b) ≡ true
and_both true b h k = k
and_both false b h k = absurd (false≢true h)

leaf_ends : (call : ℕ → Bool) (t : Tree) → has_parts t ≡ false → can_end_with call t ≡ true
unfolding can_end_with
leaf_ends call (concat ts) h = absurd (false≢true (sym h))
leaf_ends call (alt ts) h = absurd (false≢true (sym h))
leaf_ends call (repeat t lo hi greedy) h = absurd (false≢true (sym h))
leaf_ends call (conditional c a b) h = absurd (false≢true (sym h))
leaf_ends call (subroutine_call k) h = absurd (false≢true (sym h))
leaf_ends call (group t) h = absurd (false≢true (sym h))
leaf_ends call (look_around t how) h = absurd (false≢true (sym h))
leaf_ends call (atomic_group t) h = absurd (false≢true (sym h))
leaf_ends call (absent_repeater t) h = absurd (false≢true (sym h))
leaf_ends call (absent_expression a t) h = absurd (false≢true (sym h))
leaf_ends call (absent_stopper t) h = absurd (false≢true (sym h))
leaf_ends call (define_group t) h = absurd (false≢true (sym h))
leaf_ends call (ast_group name t position) h = absurd (false≢true (sym h))
leaf_ends call _ h = refl

module _ (groups : List Tree) where
  module _ (call : ℕ → Bool) (free : (k : ℕ) → target groups k ≡ None → call k ≡ true)
      (closed : (k : ℕ) (body : Tree) → target groups k ≡ Some body → can_end_with call body ≡ true → call k ≡ true) where
    -- what has an unfolding can end
    mutual
      unfolding can_end_with

      ends : (t : Tree) → Unfolding groups t → can_end_with call t ≡ true
      ends x (of_leaf t h) = leaf_ends call t h
      ends x (of_row ts u) = all_end ts u
      ends x (of_branch ts u) = some_ends ts u
      ends x (of_no_repetition t hi greedy) = refl
      ends x (of_repetitions t lo hi greedy u) = or_right (lo == 0) _ (ends t u)
      ends x (of_yes c a b u v) = and_both _ _ (ends c u) (or_left _ (can_end_with call b) (ends a v))
      ends x (of_no c a b u v) = and_both _ _ (ends c u) (or_right (can_end_with call a) _ (ends b v))
      ends x (of_target k body e u) = closed k body e (ends body u)
      ends x (of_no_target k e) = free k e
      ends x (of_group t u) = ends t u
      ends x (of_look_around t how u) = ends t u
      ends x (of_atomic_group t u) = ends t u
      ends x (of_absent_repeater t u) = ends t u
      ends x (of_absent_expression a t u v) = and_both _ _ (ends t v) (ends a u)
      ends x (of_absent_stopper t u) = ends t u
      ends x (of_define_group t u) = ends t u
      ends x (of_ast_group name t position u) = ends t u

      all_end : (ts : Trees) → RowUnfolding groups ts → all_can_end call ts ≡ true
      all_end x of_none = refl
      all_end x (of_each t ts u us) = and_both _ _ (ends t u) (all_end ts us)

      some_ends : (ts : Trees) → BranchUnfolding groups ts → some_can_end call ts ≡ true
      some_ends x (of_this t ts u) = or_left _ (some_can_end call ts) (ends t u)
      some_ends x (of_later t ts u) = or_right (can_end_with call t) _ (some_ends ts u)

  module _ (call : ℕ → Bool) (unfolds : (k : ℕ) → call k ≡ true → Unfolding groups (subroutine_call k)) where
    -- and what can end has one
    mutual
      unfolding can_end_with

      unfolded : (t : Tree) → can_end_with call t ≡ true → Unfolding groups t
      unfolded (concat ts) h = of_row ts (unfolded_row ts h)
      unfolded (alt ts) h = of_branch ts (unfolded_branch ts h)
      unfolded (repeat t lo hi greedy) h =
          ⊎_elim
          (λ (none : (lo == 0) ≡ true).
          subst (λ n. Unfolding groups (repeat t n hi greedy)) (sym (eqb-true lo 0 none)) (of_no_repetition t hi greedy))
          (λ some. of_repetitions t lo hi greedy (unfolded t some))
          (or_cases (lo == 0) (can_end_with call t) h)
      unfolded (conditional c a b) h =
          let parts = and_parts (can_end_with call c) (can_end_with call a || can_end_with call b) h in
          ⊎_elim (λ yes. of_yes c a b (unfolded c parts.0) (unfolded a yes)) (λ no. of_no c a b (unfolded c parts.0) (unfolded b no))
          (or_cases (can_end_with call a) (can_end_with call b) parts.1)
      unfolded (subroutine_call k) h = unfolds k h
      unfolded (group t) h = of_group t (unfolded t h)
      unfolded (look_around t how) h = of_look_around t how (unfolded t h)
      unfolded (atomic_group t) h = of_atomic_group t (unfolded t h)
      unfolded (absent_repeater t) h = of_absent_repeater t (unfolded t h)
      unfolded (absent_expression a t) h =
          let parts = and_parts (can_end_with call t) (can_end_with call a) h in
          of_absent_expression a t (unfolded a parts.1) (unfolded t parts.0)
      unfolded (absent_stopper t) h = of_absent_stopper t (unfolded t h)
      unfolded (define_group t) h = of_define_group t (unfolded t h)
      unfolded (ast_group name t position) h = of_ast_group name t position (unfolded t h)
      unfolded t h = of_leaf t refl

      unfolded_row : (ts : Trees) → all_can_end call ts ≡ true → RowUnfolding groups ts
      unfolded_row no_trees h = of_none
      unfolded_row (more_trees t ts) h =
          let parts = and_parts (can_end_with call t) (all_can_end call ts) h in of_each t ts (unfolded t parts.0) (unfolded_row ts parts.1)

      unfolded_branch : (ts : Trees) → some_can_end call ts ≡ true → BranchUnfolding groups ts
      unfolded_branch no_trees h = absurd (false≢true h)
      unfolded_branch (more_trees t ts) h =
          ⊎_elim (λ this. of_this t ts (unfolded t this)) (λ later. of_later t ts (unfolded_branch ts later))
          (or_cases (can_end_with call t) (some_can_end call ts) h)

-- A table of which calls can end, and one more iteration of it.
abbrev known : (Tree → Bool) → Option Tree → Bool
known f None = true
known f (Some body) = f body

known_same : (f g : Tree → Bool) (o : Option Tree) → ((body : Tree) → f body ≡ g body) → known f o ≡ known g o
known_same f g None h = refl
known_same f g (Some body) h = h body

known_more : (f g : Tree → Bool) (o : Option Tree) → ((body : Tree) → f body ≡ true → g body ≡ true) → known f o ≡ true → known g o ≡ true
known_more f g None h e = refl
known_more f g (Some body) h e = h body e

-- where more calls can end, so does more
module _ (call other : ℕ → Bool) (calls : (k : ℕ) → call k ≡ true → other k ≡ true) where
  mutual
    unfolding can_end_with

    pub more : (t : Tree) → can_end_with call t ≡ true → can_end_with other t ≡ true
    more (concat ts) h = more_all ts h
    more (alt ts) h = more_some ts h
    more (repeat t lo hi greedy) h =
        ⊎_elim (λ none. or_left _ (can_end_with other t) none) (λ some. or_right (lo == 0) _ (more t some))
        (or_cases (lo == 0) (can_end_with call t) h)
    more (conditional c a b) h =
        let parts = and_parts (can_end_with call c) (can_end_with call a || can_end_with call b) h in
        and_both _ _ (more c parts.0)
        (⊎_elim (λ yes. or_left _ (can_end_with other b) (more a yes)) (λ no. or_right (can_end_with other a) _ (more b no))
        (or_cases (can_end_with call a) (can_end_with call b) parts.1))
    more (subroutine_call k) h = calls k h
    more (group t) h = more t h
    more (look_around t how) h = more t h
    more (atomic_group t) h = more t h
    more (absent_repeater t) h = more t h
    more (absent_expression a t) h =
        let parts = and_parts (can_end_with call t) (can_end_with call a) h in and_both _ _ (more t parts.0) (more a parts.1)
    more (absent_stopper t) h = more t h
    more (define_group t) h = more t h
    more (ast_group name t position) h = more t h
    more _ h = refl

    more_all : (ts : Trees) → all_can_end call ts ≡ true → all_can_end other ts ≡ true
    more_all no_trees h = refl
    more_all (more_trees t ts) h =
        let parts = and_parts (can_end_with call t) (all_can_end call ts) h in and_both _ _ (more t parts.0) (more_all ts parts.1)

    more_some : (ts : Trees) → some_can_end call ts ≡ true → some_can_end other ts ≡ true
    more_some no_trees h = absurd (false≢true h)
    more_some (more_trees t ts) h =
        ⊎_elim (λ this. or_left _ (some_can_end other ts) (more t this)) (λ later. or_right (can_end_with other t) _ (more_some ts later))
        (or_cases (can_end_with call t) (some_can_end call ts) h)

-- of the first n, how many pass
passing : ℕ → (ℕ → Bool) → ℕ
passing zero f = 0
passing (suc n) f = passing n f + cond (f n) 1 0

same_step : (a b : Bool) → (a ≡ true → b ≡ true) → (a ≡ b) ⊎ (◌<◌ (cond a 1 0) (cond b 1 0))
same_step true true h = inl refl
same_step true false h = absurd (false≢true (h refl))
same_step false true h = inr (omega arith)
same_step false false h = inl refl

step_rises : (a b : Bool) → (a ≡ true → b ≡ true) → ◌≤◌ (cond a 1 0) (cond b 1 0)
step_rises true true h = omega arith
step_rises true false h = absurd (false≢true (h refl))
step_rises false b h = omega arith

passing_rises : (n : ℕ) (f g : ℕ → Bool) → ((k : ℕ) → f k ≡ true → g k ≡ true) → passing n f ≤ passing n g
unfolding passing
passing_rises zero f g h = omega arith
passing_rises (suc n) f g h = omega (arith, passing_rises n f g h, step_rises (f n) (g n) (h n))

same_or_more : (n : ℕ) (f g : ℕ → Bool) → ((k : ℕ) → f k ≡ true → g k ≡ true) →
    ((k : ℕ) → k < n → f k ≡ g k) ⊎ (passing n f < passing n g)
unfolding passing
same_or_more zero f g h = inl (λ k lt. absurd (omega (arith, lt)))
same_or_more (suc n) f g h =
    ⊎_elim
    (λ (same : (k : ℕ) → k < n → f k ≡ g k).
    ⊎_elim
    (λ (last : f n ≡ g n). inl (λ k lt.
    ⊎_elim (λ (here : k ≡ n). subst (λ j. f j ≡ g j) (sym here) last) (λ (other : k ≡ n → ⊥). same k (omega (arith, lt, other))) (cases_eq k n)))
    (λ (rises : ◌<◌ (cond (f n) 1 0) (cond (g n) 1 0)). inr (omega (arith, rises, passing_rises n f g h)))
    (same_step (f n) (g n) (h n)))
    (λ (less : passing n f < passing n g). inr (omega (arith, less, step_rises (f n) (g n) (h n))))
    (same_or_more n f g h)

one_at_most : (b : Bool) → ◌≤◌ (cond b 1 0) 1
one_at_most true = omega arith
one_at_most false = omega arith

passing_most : (n : ℕ) (f : ℕ → Bool) → passing n f ≤ n
unfolding passing
passing_most zero f = omega arith
passing_most (suc n) f = omega (arith, passing_most n f, one_at_most (f n))

passes : (b : Bool) → ◌≤◌ 1 (cond b 1 0) → b ≡ true
passes true h = refl
passes false h = absurd (omega (arith, h))

all_pass : (n : ℕ) (f : ℕ → Bool) → n ≤ passing n f → (k : ℕ) → k < n → f k ≡ true
unfolding passing
all_pass zero f h k lt = absurd (omega (arith, lt))
all_pass (suc n) f h k lt =
    ⊎_elim
    (λ (here : k ≡ n). subst (λ j. f j ≡ true) (sym here) (passes (f n) (omega (arith, h, passing_most n f))))
    (λ (other : k ≡ n → ⊥). all_pass n f (omega (arith, h, one_at_most (f n))) k (omega (arith, lt, other)))
    (cases_eq k n)

both_ways : (a b : Bool) → (a ≡ true → b ≡ true) → (b ≡ true → a ≡ true) → a ≡ b
both_ways true b f g = sym (f refl)
both_ways false true f g = g refl
both_ways false false f g = refl

module _ (groups : List Tree) where
  -- which calls can end, where calls are followed n deep
  pub table : ℕ → ℕ → Bool
  table zero k = known (λ body. false) (target groups k)
  table (suc n) k = known (can_end_with (table n)) (target groups k)

  pub through_table : (n : ℕ) (t : Tree) → ends_through groups n t ≡ can_end_with (table n) t
  unfolding ends_through table
  through_table zero t = refl
  through_table (suc n) t =
      ap (λ c. can_end_with c t) (fun_ext (λ k. known_same (ends_through groups n) (can_end_with (table n)) (target groups k) (through_table n)))

  pub table_none : (n k : ℕ) → target groups k ≡ None → table n k ≡ true
  unfolding table
  table_none zero k e = ap (known (λ body. false)) e
  table_none (suc n) k e = ap (known (can_end_with (table n))) e

  pub table_some : (n k : ℕ) (body : Tree) → target groups k ≡ Some body → table (suc n) k ≡ can_end_with (table n) body
  unfolding table
  table_some n k body e = ap (known (can_end_with (table n))) e

  table_first : (k : ℕ) (body : Tree) → target groups k ≡ Some body → table zero k ≡ false
  unfolding table
  table_first k body e = ap (known (λ body. false)) e

  table_rises : (n m : ℕ) → n ≤ m → (k : ℕ) → table n k ≡ true → table m k ≡ true
  unfolding table
  table_rises zero zero le k h = h
  table_rises zero (suc m) le k h = known_more (λ body. false) (can_end_with (table m)) (target groups k) (λ body e. absurd (false≢true e)) h
  table_rises (suc n) zero le k h = absurd (omega (arith, le))
  table_rises (suc n) (suc m) le k h =
      known_more (can_end_with (table n)) (can_end_with (table m)) (target groups k)
      (λ body e. more (table n) (table m) (table_rises n m (omega (arith, le))) body e) h

  abbrev IsStill : ℕ → Type 0
  IsStill n = (k : ℕ) → table n k ≡ table (suc n) k

  still_next : (n : ℕ) → IsStill n → IsStill (suc n)
  unfolding table
  still_next n h k = ap (λ c. known (can_end_with c) (target groups k)) (fun_ext h)

  -- enough for those that are there
  still_within : (n : ℕ) → ((k : ℕ) → k < length groups → table n k ≡ table (suc n) k) → IsStill n
  still_within n h k = by_target (target groups k) refl
    where
      by_target : (o : Option Tree) → target groups k ≡ o → table n k ≡ table (suc n) k
      by_target None e = table_none n k e ∙ sym (table_none (suc n) k e)
      by_target (Some body) e = h k (slice_get_within groups k body e)

  still_or_more : (n : ℕ) → IsStill n ⊎ (n ≤ passing (length groups) (table n))
  still_or_more zero = inr (omega arith)
  still_or_more (suc n) =
      ⊎_elim (λ (still : IsStill n). inl (still_next n still))
      (λ (many : n ≤ passing (length groups) (table n)).
      ⊎_elim (λ (same : (k : ℕ) → k < length groups → table n k ≡ table (suc n) k). inl (still_next n (still_within n same)))
      (λ (less : passing (length groups) (table n) < passing (length groups) (table (suc n))). inr (omega (arith, many, less)))
      (same_or_more (length groups) (table n) (table (suc n)) (table_rises n (suc n) (omega arith))))
      (still_or_more n)

  still_at_last : IsStill (length groups)
  still_at_last =
      let most = length groups in
      ⊎_elim (λ (still : IsStill most). still)
      (λ (many : most ≤ passing most (table most)).
      still_within most (λ k lt.
      let passed = all_pass most (table most) many k lt in passed ∙ sym (table_rises most (suc most) (omega arith) k passed)))
      (still_or_more most)

  -- What can end through so many calls has an unfolding, and through enough of them no other.
  first_unfolds : (k : ℕ) (o : Option Tree) → target groups k ≡ o → table zero k ≡ true → Unfolding groups (subroutine_call k)
  first_unfolds k None e h = of_no_target k e
  first_unfolds k (Some body) e h = absurd (false≢true (sym (table_first k body e) ∙ h))

  next_unfolds : (n k : ℕ) → ((j : ℕ) → table n j ≡ true → Unfolding groups (subroutine_call j)) →
      (o : Option Tree) → target groups k ≡ o → table (suc n) k ≡ true → Unfolding groups (subroutine_call k)
  next_unfolds n k earlier None e h = of_no_target k e
  next_unfolds n k earlier (Some body) e h =
      of_target k body e (unfolded groups (table n) earlier body (sym (table_some n k body e) ∙ h))

  call_unfolds : (n k : ℕ) → table n k ≡ true → Unfolding groups (subroutine_call k)
  call_unfolds zero k h = first_unfolds k (target groups k) refl h
  call_unfolds (suc n) k h = next_unfolds n k (call_unfolds n) (target groups k) refl h

  still_ends : (n : ℕ) → IsStill n → (t : Tree) → Unfolding groups t → can_end_with (table n) t ≡ true
  still_ends n still t u =
      ends groups (table n) (table_none n) (λ k body e h. still k ∙ table_some n k body e ∙ h) t u

  unfolds_through : (n : ℕ) (t : Tree) → ends_through groups n t ≡ true → Unfolding groups t
  unfolds_through n t h = unfolded groups (table n) (call_unfolds n) t (sym (through_table n t) ∙ h)

  ends_at_last : (t : Tree) → Unfolding groups t → can_end groups t ≡ true
  unfolding can_end
  ends_at_last t u = through_table (length groups) t ∙ still_ends (length groups) still_at_last t u

  pub ends_unfold : TerminatingHasUnfolding groups
  unfolding can_end
  ends_unfold t h = unfolds_through (length groups) t h

  pub others_do_not : NonTerminatingHasNoUnfolding groups
  others_do_not t h u = false≢true (sym h ∙ ends_at_last t u)

  pub ends_are_unbounded : TerminationDepthSuffices groups
  unfolding can_end
  ends_are_unbounded m le t =
      both_ways _ _ (λ h. ends_at_last t (unfolds_through m t h))
      (λ h. through_table m t ∙ more (table (length groups)) (table m) (table_rises (length groups) m le) t (sym (through_table (length groups) t) ∙ h))

  pub still_is_settled : FixpointIsReached groups
  still_is_settled n h t =
      both_ways _ _ (λ e. ends_at_last t (unfolds_through (suc n) t e))
      (λ e. through_table (suc n) t ∙ still_ends (suc n) still t (ends_unfold t e))
    where
      by_target : (k : ℕ) (o : Option Tree) → target groups k ≡ o → table (suc n) k ≡ table (suc (suc n)) k
      by_target k None e = table_none (suc n) k e ∙ sym (table_none (suc (suc n)) k e)
      by_target k (Some body) e =
          table_some n k body e ∙ sym (through_table n body) ∙ sym (h k body e) ∙ through_table (suc n) body ∙ sym (table_some (suc n) k body e)

      still : IsStill (suc n)
      still k = by_target k (target groups k) refl
