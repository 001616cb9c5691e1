-- The numbers that bound loops and calls never end them.
use Rattle.std.proofs.Common.{◌≡◌, ℕ, zero, suc, ◌+◌, ◌-◌, ◌*◌, ◌<◌, ◌≤◌, Bool, true, false, cond, List, [], ◌∷◌, ◌++◌, length, Option, Some, None, refl, sym, ap, subst, ◌∙◌, ⊎_elim, arith, ◌==◌, nat_lt, count_by}
use Rattle.std.specs.List.{flat_map}
use Rattle.std.proofs.lemmas.Bool.{eqb-false, le-leb, cases_eq, ne_eqb, leb-false, false≢true}
use Rattle.std.proofs.lemmas.Bool.Decides.{nat_tests}
use Rattle.std.proofs.lemmas.List.Sums.{sum_by-cons}
use Rattle.std.proofs.lemmas.Option.{slice_get_within}
use mathlib.Core.Path.{fun_ext}
use Rattle.fancy_regex_tree.specs.Tree.{Tree}
use Rattle.fancy_regex_meaning.specs.Sizes.{target}
use Rattle.fancy_regex_meaning.specs.Ways.{MatchState, Moves, Setting, meaning, call_ways, ways, max_open_calls, prefer, due, up_to, loop, for_some, is_at_call_limit}
use Rattle.fancy_regex_meaning.specs.WayLaws.{Each, IsForward, MovesForward, LoopsAreUnbounded, RepeatsUnroll, CallsAreUnbounded}

flat_map_each : {A B : Type 0} (P : A → Type 0) (f g : A → List B) → ((x : A) → P x → f x ≡ g x) → (xs : List A) → Each P xs →
    flat_map f xs ≡ flat_map g xs
flat_map_each P f g h [] e = refl
flat_map_each P f g h (x ∷ xs) e = λ i. h x e.0 i ++ flat_map_each P f g h xs e.1 i

pub else_same : {A : Type 0} (b : Bool) (x y z : A) → (b ≡ false → x ≡ y) → cond b z x ≡ cond b z y
else_same true x y z h = refl
else_same false x y z h = h refl

module _ (s : Setting) where
  loop_enough : (n m : ℕ) (greedy : Bool) (body : Moves) → MovesForward s.text body → (w : MatchState) → w.position ≤ length s.text →
      length s.text - w.position < n → length s.text - w.position < m → loop n greedy body w ≡ loop m greedy body w
  loop_enough zero m greedy body p w h en em = absurd (omega arith)
  loop_enough (suc n) zero greedy body p w h en em = absurd (omega arith)
  loop_enough (suc n) (suc m) greedy body p w h en em =
      ap (λ ws. prefer greedy ws (w ∷ []))
      (flat_map_each (IsForward s.text w) _ _
      (λ v o. else_same (v.position == w.position) _ _ (v ∷ [])
      (λ e. let ne : v.position ≡ w.position → ⊥ = eqb-false v.position w.position e in
      loop_enough n m greedy body p v o.1 (omega (arith, o.0, o.1)) (omega (arith, o.0, o.1))))
      (body w) (p w h))

  pub loops_unbounded : LoopsAreUnbounded s
  loops_unbounded greedy body p w h =
      loop_enough (length s.text + 1) (suc (length s.text + 1)) greedy body p w h (omega arith) (omega arith)

same_rest : (lo hi : ℕ) → suc hi - suc lo ≡ hi - lo
same_rest lo hi = omega arith

all_left : (hi : ℕ) → hi - 0 ≡ hi
all_left hi = omega arith

pub repeats_unroll : (s : Setting) → RepeatsUnroll s
repeats_unroll s lo hi greedy body w = (
  refl,
  ap (λ n. flat_map (due lo body (up_to n greedy body)) (body w)) (same_rest lo hi),
  ap (λ n. up_to n greedy body w) (all_left (suc hi))
      ∙ ap (λ n. prefer greedy (flat_map (up_to n greedy body) (body w)) (w ∷ [])) (sym (all_left hi)),
  ap (λ n. up_to n greedy body w) (all_left 0),
)

-- how many of the list are below n
total : ℕ → List ℕ → ℕ
total zero o = 0
total (suc n) o = total n o + count_by (λ j. j == n) o

one_more : (x n : ℕ) → cond (nat_lt x (suc n)) 1 0 ≡ cond (nat_lt x n) 1 0 + cond (x == n) 1 0
one_more x n = grind (arith, nat_tests)

none_below : (x : ℕ) → ◌≡◌ {A = ℕ} (cond (nat_lt x 0) 1 0) 0
none_below x = grind (arith, nat_tests)

count-cons : (k x : ℕ) (o : List ℕ) → count_by (λ j. j == k) (x ∷ o) ≡ cond (x == k) 1 0 + count_by (λ j. j == k) o
count-cons k x o = sum_by-cons (λ j. cond (j == k) 1 0) x o

total-cons : (n x : ℕ) (o : List ℕ) → total n (x ∷ o) ≡ total n o + cond (nat_lt x n) 1 0
unfolding total
total-cons zero x o = omega (arith, none_below x)
total-cons (suc n) x o = omega (arith, total-cons n x o, count-cons n x o, one_more x n)

total-nil : (n : ℕ) → total n [] ≡ 0
unfolding total
total-nil zero = refl
total-nil (suc n) = omega (arith, total-nil n)

counts_one : (x n : ℕ) → x < n → ◌≡◌ {A = ℕ} (cond (nat_lt x n) 1 0) 1
counts_one x n h = grind (arith, nat_tests)

total_length : (n : ℕ) (o : List ℕ) → Each (λ j. j < n) o → total n o ≡ length o
total_length n [] h = total-nil n
total_length n (x ∷ o) h = omega (arith, total-cons n x o, total_length n o h.1, counts_one x n h.0)

-- no target is called more often than it may be
abbrev AreWithin : List ℕ → Type 0
AreWithin o = (j : ℕ) → count_by (λ i. i == j) o ≤ 19

total_most : (n : ℕ) (o : List ℕ) → AreWithin o → total n o ≤ 19 * n
unfolding total
total_most zero o h = omega arith
total_most (suc n) o h = omega (arith, total_most n o h, h n)

-- where one target may still be called, they are fewer
total_fewer : (n k : ℕ) (o : List ℕ) → AreWithin o → k < n → total n o + 19 ≤ 19 * n + count_by (λ i. i == k) o
unfolding total
total_fewer zero k o h lt = absurd (omega arith)
total_fewer (suc n) k o h lt =
    ⊎_elim
    (λ (e : k ≡ n). rw e (omega (arith, total_most n o h)))
    (λ (ne : k ≡ n → ⊥). omega (arith, total_fewer n k o h (omega arith), h n))
    (cases_eq k n)

else_none : {A B : Type 0} (b : Bool) (f : A → List B) (o : Option A) → ((x : A) → o ≡ Some x → b ≡ true) → cond b [] (for_some f o) ≡ []
else_none true f o h = refl
else_none false f None h = refl
else_none false f (Some x) h = absurd (false≢true (h x refl))

pub for_some_same : {A B : Type 0} (f g : A → List B) (o : Option A) → ((x : A) → o ≡ Some x → f x ≡ g x) → for_some f o ≡ for_some g o
for_some_same f g None h = refl
for_some_same f g (Some x) h = h x refl

module _ (s : Setting) (groups : List Tree) where
  abbrev most : ℕ
  most = length groups

  is_full_at : (o : List ℕ) → AreWithin o → Each (λ j. j < most) o → 19 * most ≤ length o → (k : ℕ) → k < most → is_at_call_limit o k ≡ true
  is_full_at o h e le k lt = le-leb 19 _ (omega (arith, total_fewer most k o h lt, total_length most o e))

  within-cons : (o : List ℕ) (k : ℕ) → AreWithin o → is_at_call_limit o k ≡ false → AreWithin (k ∷ o)
  within-cons o k h e j =
      let room : count_by (λ i. i == k) o < 19 = leb-false 19 _ e in
      ⊎_elim
      (λ (same : k ≡ j). omega (arith, count-cons j k o, at_most_one (k == j), subst (λ i. count_by (λ x. x == i) o < 19) same room))
      (λ (other : k ≡ j → ⊥). omega (arith, count-cons j k o, h j, is_none k j other))
      (cases_eq k j)
    where
      at_most_one : (b : Bool) → ◌≤◌ (cond b 1 0) 1
      at_most_one true = omega arith
      at_most_one false = omega arith

      is_none : (x y : ℕ) → (x ≡ y → ⊥) → ◌≡◌ {A = ℕ} (cond (x == y) 1 0) 0
      is_none x y ne = ap (λ b. cond b 1 0) (ne_eqb x y ne)

  calls_enough : (n m : ℕ) (o : List ℕ) → AreWithin o → Each (λ j. j < most) o → 19 * most ≤ n + length o → 19 * most ≤ m + length o →
      (k : ℕ) (w : MatchState) → call_ways s groups n o k w ≡ call_ways s groups m o k w
  unfolding call_ways
  calls_enough zero zero o h e ln lm k w = refl
  calls_enough zero (suc m) o h e ln lm k w =
      sym (else_none (is_at_call_limit o k) _ (target groups k) (λ body is. is_full_at o h e (omega arith) k (slice_get_within groups k body is)))
  calls_enough (suc n) zero o h e ln lm k w =
      else_none (is_at_call_limit o k) _ (target groups k) (λ body is. is_full_at o h e (omega arith) k (slice_get_within groups k body is))
  calls_enough (suc n) (suc m) o h e ln lm k w =
      else_same (is_at_call_limit o k) _ _ [] (λ free. for_some_same _ _ (target groups k) (λ body is.
      ap (λ c. (meaning s groups c (k + 1) body).from w)
      (fun_ext (λ j. fun_ext (λ v.
      calls_enough n m (k ∷ o) (within-cons o k h free) (slice_get_within groups k body is, e) (omega arith) (omega arith) j v)))))

  none_yet : AreWithin []
  none_yet j = omega arith

pub calls_are_unbounded : (s : Setting) (groups : List Tree) → CallsAreUnbounded s groups
unfolding ways
calls_are_unbounded s groups m le n t w =
    ap (λ c. (meaning s groups c n t).from w)
    (fun_ext (λ k. fun_ext (λ v.
    calls_enough s groups m (max_open_calls groups) [] (none_yet s groups) tt (omega arith) (omega arith) k v)))
