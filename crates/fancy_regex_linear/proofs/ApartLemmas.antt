-- No group stands inside of itself, also where calls are written out: a call inside of a group does not lead back to it.
use Rattle.std.proofs.Common.{◌≡◌, ◌≢◌, ◌⊎◌, ℕ, zero, suc, ◌+◌, ◌≤◌, Bool, true, false, true≢false, List, slice_get, Option, Some, None, refl, sym, ap, subst, ◌∙◌, inl, inr, ⊎_elim, arith}
use Rattle.std.proofs.lemmas.Option.{none-some, same_Some}
use Rattle.fancy_regex_tree.specs.Tree.{Tree, Trees, Text, empty, any, assertion, general_newline, literal, concat, alt, group, look_around, repeat, delegate, atomic_group, conditional, verb, keep_out, continue, define_group, subroutine_call, no_trees, more_trees}
use Rattle.fancy_regex_tree.specs.declared.expr.BacktrackingControlVerb.{BacktrackingControlVerb}
use Rattle.fancy_regex_tree.specs.declared.expr.BacktrackingControlVerb.TheVariants.{Fail}
use Rattle.fancy_regex_meaning.specs.Groups.{group_count}
use Rattle.fancy_regex_meaning.specs.GroupLaws.{OccursAt, OccursInRowAt}
use Rattle.fancy_regex_meaning.specs.Sizes.{target}
use Rattle.fancy_regex_linear.specs.Re.{Re}
use Rattle.fancy_regex_linear.specs.Plain.{IsRegular, AreRegular, IsFail, has_no_iteration, re_of}
use Rattle.fancy_regex_linear.specs.Calls.{OfBody, IsCallable, IsOfBody, IsCalled}
use Rattle.fancy_regex_linear.proofs.CarryLemmas.{Lacks}
use Rattle.fancy_regex_linear.proofs.OccurrenceLemmas.{Stands, AllStand}
use Rattle.fancy_regex_linear.proofs.PlainLemmas.{Misses, MissesRow, below, CallLacks, lacks, regular_either, regular_into, regular_both}

module _ (unicode : Bool) (groups : List Tree) (called : ℕ → Re) where
  -- no group of the tree stands inside of itself, where the first one has this number
  abbrev mutual
    pub IsApart : ℕ → Tree → Type 0
    IsApart n (group t) = ((k : ℕ) → Lacks n (re_of unicode groups called (n + 1) k t)) × IsApart (n + 1) t
    IsApart n (concat ts) = AreApart n ts
    IsApart n (alt ts) = AreApart n ts
    IsApart n (look_around t how) = IsApart n t
    IsApart n (atomic_group t) = IsApart n t
    IsApart n (conditional c a b) = IsApart n c × (IsApart (n + group_count c) a × IsApart (n + group_count c + group_count a) b)
    IsApart n (repeat t lo hi greedy) = has_no_iteration lo hi ≡ false → IsApart n t
    IsApart n _ = Unit {0}

    pub AreApart : ℕ → Trees → Type 0
    AreApart n no_trees = Unit {0}
    AreApart n (more_trees t ts) = IsApart n t × AreApart (n + group_count t) ts

-- whether something holds
abbrev pub IsDecided : Type 0 → Type 0
IsDecided P = P ⊎ (P → ⊥)

both_decided : {P Q : Type 0} → IsDecided P → IsDecided Q → IsDecided (P × Q)
both_decided (inl p) (inl q) = inl (p, q)
both_decided (inr p) q = inr (λ h. p h.0)
both_decided (inl p) (inr q) = inr (λ h. q h.1)

if_decided : {P : Type 0} (b : Bool) → IsDecided P → IsDecided (b ≡ false → P)
if_decided true d = inl (λ e. absurd (true≢false e))
if_decided false (inl p) = inl (λ e. p)
if_decided false (inr p) = inr (λ h. p (h refl))

fail_decided : (v : BacktrackingControlVerb) → IsDecided (IsFail v)
fail_decided Fail = inl tt
fail_decided _ = inr (λ h. h)

same_decided : (resets : Bool) → IsDecided (resets ≡ true)
same_decided true = inl refl
same_decided false = inr (λ e. true≢false (sym e))

some_decided : (ts : Trees) → IsDecided (ts ≢ no_trees)
some_decided no_trees = inr (λ h. h refl)
some_decided (more_trees t ts) = inl (λ e. cc)

module _ (called : ℕ → Type 0) (decided : (j : ℕ) → IsDecided (called j)) where
  mutual
    pub regular_decided : (resets : Bool) (t : Tree) → IsDecided (IsRegular resets called t)
    regular_decided resets empty = inl tt
    regular_decided resets (any newline crlf) = inl tt
    regular_decided resets (literal val casei) = inl tt
    regular_decided resets (delegate class casei) = inl tt
    regular_decided resets (general_newline wide) = inl tt
    regular_decided resets (assertion a) = inl tt
    regular_decided resets (concat ts) = all_decided resets ts
    regular_decided resets (alt ts) = both_decided (some_decided ts) (all_decided resets ts)
    regular_decided resets (group t) = regular_decided resets t
    regular_decided resets (look_around t how) = regular_decided false t
    regular_decided resets (atomic_group t) = regular_decided resets t
    regular_decided resets (conditional c a b) = both_decided (regular_decided resets c) (both_decided (regular_decided resets a) (regular_decided resets b))
    regular_decided resets (define_group t) = inl tt
    regular_decided resets (verb v) = fail_decided v
    regular_decided resets keep_out = same_decided resets
    regular_decided resets continue = inl tt
    regular_decided resets (subroutine_call j) = decided j
    regular_decided resets (repeat t lo hi greedy) = if_decided (has_no_iteration lo hi) (regular_decided resets t)
    regular_decided resets _ = inr (λ h. h)

    all_decided : (resets : Bool) (ts : Trees) → IsDecided (AreRegular resets called ts)
    all_decided resets no_trees = inl tt
    all_decided resets (more_trees t ts) = both_decided (regular_decided resets t) (all_decided resets ts)

-- of the body of a group, if there is that group
body_decided : (P : Tree → Type 0) → ((t : Tree) → IsDecided (P t)) → (o : Option Tree) → IsDecided (OfBody P o)
body_decided P decided None = inr (λ h. h)
body_decided P decided (Some t) = decided t

pub body_into : (P Q : Tree → Type 0) → (o : Option Tree) → ((t : Tree) → o ≡ Some t → P t → Q t) → OfBody P o → OfBody Q o
body_into P Q None into h = h
body_into P Q (Some t) into h = into t refl h

pub of_some : (P : Tree → Type 0) (o : Option Tree) (t : Tree) → o ≡ Some t → P t → OfBody P o
of_some P None t e h = absurd (none-some t e)
of_some P (Some u) t e h = subst P (sym (same_Some u t e)) h

pub some_body : (P : Tree → Type 0) (o : Option Tree) → OfBody P o → (t : Tree) × (o ≡ Some t) × P t
some_body P None h = absurd h
some_body P (Some t) h = (t, refl, h)

module _ (groups : List Tree) where
  pub callable_decided : (depth j : ℕ) → IsDecided (IsCallable groups depth j)
  unfolding IsCallable
  callable_decided zero j = inr (λ h. h)
  callable_decided (suc depth) j =
      body_decided (IsRegular false (IsCallable groups depth)) (regular_decided (IsCallable groups depth) (callable_decided depth) false) (target groups j)

  -- what can be called can be where calls may nest deeper
  pub deeper : (depth j : ℕ) → IsCallable groups depth j → IsCallable groups (suc depth) j
  unfolding IsCallable
  deeper zero j h = absurd h
  deeper (suc depth) j h =
      body_into (IsRegular false (IsCallable groups depth)) (IsRegular false (IsCallable groups (suc depth))) (target groups j)
      (λ t e p. regular_into (IsCallable groups depth) (IsCallable groups (suc depth)) (deeper depth) false t p) h

  module _ (unicode : Bool) (cs : List (Text × Bool)) where
    -- what is called can be called
    pub called_callable : (depth j : ℕ) (x : Re) → IsCalled groups unicode cs depth j x → IsCallable groups depth j
    unfolding IsCallable IsCalled
    called_callable zero j x h = h
    called_callable (suc depth) j x h =
        body_into (IsOfBody groups unicode cs (IsCalled groups unicode cs depth) j x) (IsRegular false (IsCallable groups depth)) (target groups j)
        (λ t e b. regular_into (λ i. IsCalled groups unicode cs depth i (b.0 i)) (IsCallable groups depth) (λ i. called_callable depth i (b.0 i)) false t b.2) h

    module _ (stand : AllStand groups) (n : ℕ) (inner : Tree) (there : slice_get groups n ≡ Some inner) (resets : Bool) where
      -- A body of a called group that is regular where calls nest less deep than in the group's body has no such group.
      module _ (depth : ℕ) (not_inner : IsRegular resets (IsCallable groups depth) inner → ⊥) where
        mutual
          unfolding OccursAt

          misses : (m : ℕ) (t : Tree) → Stands groups m t → IsRegular false (IsCallable groups depth) t → Misses n m t
          misses m (group t) s p = (
            λ e. not_inner (regular_either (IsCallable groups depth) resets inner (subst (IsRegular false (IsCallable groups depth))
                (same_Some t inner (sym (s m t (inl (refl, refl))) ∙ ap (slice_get groups) (sym e) ∙ there)) p)),
            misses (m + 1) t (λ k b o. s k b (inr o)) p,
          )
          misses m (concat ts) s p = misses_row m ts (λ k b o. s k b (inr o)) p
          misses m (alt ts) s p = misses_row m ts (λ k b o. s k b (inr o)) p.1
          misses m (look_around t how) s p = misses m t (λ k b o. s k b (inr o)) p
          misses m (atomic_group t) s p = misses m t (λ k b o. s k b (inr o)) p
          misses m (conditional c a b) s p = (
            misses m c (λ k u o. s k u (inr (inl o))) p.0,
            (
              misses (m + group_count c) a (λ k u o. s k u (inr (inr (inl o)))) p.1.0,
              misses (m + group_count c + group_count a) b (λ k u o. s k u (inr (inr (inr o)))) p.1.1,
            ),
          )
          misses m (repeat t lo hi greedy) s p = λ made. misses m t (λ k b o. s k b (inr o)) (p made)
          misses m _ s p = tt

          misses_row : (m : ℕ) (ts : Trees) → ((k : ℕ) (b : Tree) → OccursInRowAt m ts k (group b) → slice_get groups k ≡ Some b)
              → AreRegular false (IsCallable groups depth) ts → MissesRow n m ts
          misses_row m no_trees s p = tt
          misses_row m (more_trees t ts) s p =
              (misses m t (λ k b o. s k b (inl o)) p.0, misses_row (m + group_count t) ts (λ k b o. s k b (inr o)) p.1)

      -- nor do calls in such a tree write it
      pub written : (far depth j : ℕ) (x : Re) → IsCallable groups depth j
          → ((below : ℕ) → suc below ≡ depth → IsRegular resets (IsCallable groups below) inner → ⊥) → IsCalled groups unicode cs far j x → Lacks n x
      unfolding IsCallable IsCalled
      written zero depth j x callable outside h = absurd h
      written (suc far) zero j x callable outside h = absurd callable
      written (suc far) (suc depth) j x callable outside h =
          let found = some_body (IsOfBody groups unicode cs (IsCalled groups unicode cs far) j x) (target groups j) h in
          let body = found.0 in
          let called = found.2.0 in
          let other = some_body (IsRegular false (IsCallable groups depth)) (target groups j) callable in
          let regular : IsRegular false (IsCallable groups depth) body =
          subst (IsRegular false (IsCallable groups depth)) (same_Some other.0 body (sym other.1 ∙ found.1)) other.2 in
          let each : IsRegular false (CallLacks unicode groups called n) body =
          regular_into (λ i. IsCallable groups depth i × IsCalled groups unicode cs far i (called i)) (CallLacks unicode groups called n)
          (λ i both. written far depth i (called i) both.0
          (λ below e p. outside depth refl (subst (λ (d : ℕ). IsRegular resets (IsCallable groups d) inner) e
          (regular_into (IsCallable groups below) (IsCallable groups (suc below)) (deeper below) resets inner p))) both.1) false body
          (regular_both (IsCallable groups depth) (λ i. IsCalled groups unicode cs far i (called i)) false body regular found.2.2) in
          subst (Lacks n) (sym found.2.3)
          (lacks unicode groups called n false (λ e. absurd (true≢false (sym e))) (j + 1) found.2.1 body each
          (misses depth (outside depth refl) (j + 1) body (stand j body found.1) regular))

      module _ (depth : ℕ) (called : ℕ → Re) (regular : IsRegular resets (λ j. IsCalled groups unicode cs depth j (called j)) inner) where
        -- the calls in the group's body do not write it
        inner_lacks : (m : ℕ) → IsRegular resets (IsCallable groups m) inner → IsRegular resets (CallLacks unicode groups called n) inner
        unfolding IsCallable
        inner_lacks zero p = regular_into (IsCallable groups zero) (CallLacks unicode groups called n) (λ j h. absurd h) resets inner p
        inner_lacks (suc m) p =
            ⊎_elim (λ (deep : IsRegular resets (IsCallable groups m) inner). inner_lacks m deep)
            (λ (not_yet : IsRegular resets (IsCallable groups m) inner → ⊥).
            regular_into (λ j. IsCallable groups (suc m) j × IsCalled groups unicode cs depth j (called j)) (CallLacks unicode groups called n)
            (λ j both. written depth (suc m) j (called j) both.0
            (λ below e p. not_yet (subst (λ (d : ℕ). IsRegular resets (IsCallable groups d) inner) (let same : below ≡ m = omega (arith, e) in same) p)) both.1)
            resets inner
            (regular_both (IsCallable groups (suc m)) (λ j. IsCalled groups unicode cs depth j (called j)) resets inner p regular))
            (regular_decided (IsCallable groups m) (callable_decided m) resets inner)

        -- `\K` in the group's body writes group 0
        pub body_lacks : (resets ≡ true → 1 ≤ n) → (k : ℕ) → Lacks n (re_of unicode groups called (n + 1) k inner)
        body_lacks low k =
            lacks unicode groups called n resets low (n + 1) k inner
            (inner_lacks depth (regular_into (λ j. IsCalled groups unicode cs depth j (called j)) (IsCallable groups depth)
            (λ j. called_callable depth j (called j)) resets inner regular))
            (below n (n + 1) inner (omega arith))

    -- So no group of a regular tree stands inside of itself. Where `\K` is in the tree, its groups have numbers from 1 on.
    module _ (stand : AllStand groups) (depth : ℕ) (called : ℕ → Re) where
      abbrev known : ℕ → Type 0
      known j = IsCalled groups unicode cs depth j (called j)

      mutual
        unfolding OccursAt

        pub apart : (resets : Bool) (n : ℕ) (t : Tree) → (resets ≡ true → 1 ≤ n) → Stands groups n t → IsRegular resets known t
            → IsApart unicode groups called n t
        apart resets n (group t) low s p = (
          body_lacks stand n t (s n t (inl (refl, refl))) resets depth called p low,
          apart resets (n + 1) t (λ e. omega arith) (λ k b o. s k b (inr o)) p,
        )
        apart resets n (concat ts) low s p = all_apart resets n ts low (λ k b o. s k b (inr o)) p
        apart resets n (alt ts) low s p = all_apart resets n ts low (λ k b o. s k b (inr o)) p.1
        apart resets n (look_around t how) low s p = apart false n t (λ e. absurd (true≢false (sym e))) (λ k b o. s k b (inr o)) p
        apart resets n (atomic_group t) low s p = apart resets n t low (λ k b o. s k b (inr o)) p
        apart resets n (conditional c a b) low s p = (
          apart resets n c low (λ k u o. s k u (inr (inl o))) p.0,
          (
            apart resets (n + group_count c) a (λ e. let le = low e in omega (arith, le)) (λ k u o. s k u (inr (inr (inl o)))) p.1.0,
            apart resets (n + group_count c + group_count a) b (λ e. let le = low e in omega (arith, le)) (λ k u o. s k u (inr (inr (inr o)))) p.1.1,
          ),
        )
        apart resets n (repeat t lo hi greedy) low s p = λ made. apart resets n t low (λ k b o. s k b (inr o)) (p made)
        apart resets n _ low s p = tt

        all_apart : (resets : Bool) (n : ℕ) (ts : Trees) → (resets ≡ true → 1 ≤ n)
            → ((k : ℕ) (b : Tree) → OccursInRowAt n ts k (group b) → slice_get groups k ≡ Some b)
            → AreRegular resets known ts → AreApart unicode groups called n ts
        all_apart resets n no_trees low s p = tt
        all_apart resets n (more_trees t ts) low s p = (
          apart resets n t low (λ k b o. s k b (inl o)) p.0,
          all_apart resets (n + group_count t) ts (λ e. let le = low e in omega (arith, le)) (λ k b o. s k b (inr o)) p.1,
        )
