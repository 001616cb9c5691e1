-- The least size through so many calls as there are targets is the least through any number of calls.
use Rattle.std.proofs.Common.{◌≡◌, ℕ, zero, suc, ◌+◌, ◌<◌, ◌≤◌, Bool, true, false, cond, List, length, min, Option, Some, None, refl, sym, ap, subst, ◌∙◌, ⊎_elim, arith, ◌==◌}
use Rattle.std.specs.Prelude.{◌||◌}
use Rattle.std.proofs.lemmas.Bool.{eqb-true, eq-eqb, cases_eq, cases_lt, false≢true}
use Rattle.std.proofs.lemmas.Option.{slice_get_within, same_Some}
use Rattle.std.proofs.lemmas.Nat.{mul-le}
use Rattle.fancy_regex_tree.specs.Tree as tree
use Rattle.fancy_regex_tree.specs.Tree.{Tree, Trees, empty, any, assertion, general_newline, literal, literal_bytes, concat, alt, group, look_around, delegate, backref, backref_with_level, atomic_group, keep_out, continue, backref_exists, conditional, subroutine_call, verb, absent_repeater, absent_expression, absent_stopper, absent_clear, define_group, ast_group, ast_backref, ast_call, ast_condition, no_trees, more_trees}
use Rattle.fancy_regex_meaning.specs.Sizes.{Size, unbounded, times, any_size, endless_size, both_sizes, either_size, repeated_size, size_with, concat_size, alternation_size, size_through, size, target, is_recursive}

-- The least of the second is no higher than that of the first, or that is at least B.
pub record Above (B : ℕ) (z y : Size) : Type 0 where
  pub fits : y.least ≤ unbounded
  pub low : min B y.least ≤ z.least

least_times : (B lo a b : ℕ) → B ≤ unbounded → min B b ≤ a → min B (times lo b) ≤ times lo a
least_times B zero a b le h = omega arith
least_times B (suc n) a b le h =
    ⊎_elim
    (λ (low : a < B). omega (arith, mul-le (suc n) b (suc n) a (omega arith) (omega arith)))
    (λ (high : B ≤ a). omega (arith, mul-le 1 a (suc n) a (omega arith) (omega arith)))
    (cases_lt a B)

module _ (B : ℕ) (le : B ≤ unbounded) where
  above_both : (z y v u : Size) → Above B z y → Above B v u → Above B (both_sizes z v) (both_sizes y u)
  above_both z y v u h k = record { fits = omega arith; low = omega (arith, h.low, k.low) }

  above_either : (z y v u : Size) → Above B z y → Above B v u → Above B (either_size z v) (either_size y u)
  above_either z y v u h k = record { fits = omega (arith, h.fits); low = omega (arith, h.low, k.low) }

  above_repeated : (z y : Size) (lo hi : ℕ) → Above B z y → Above B (repeated_size z lo hi) (repeated_size y lo hi)
  above_repeated z y lo hi h = record { fits = omega arith; low = least_times B lo z.least y.least le h.low }

  module _ (call other : ℕ → Size) (calls : (k : ℕ) → Above B (call k) (other k)) where
    mutual
      unfolding size_with

      pub above : (t : Tree) → Above B (size_with call t) (size_with other t)
      above (concat ts) = above_sum ts
      above (alt ts) = above_branches ts
      above (group t) = above t
      above (tree.repeat t lo hi greedy) = above_repeated _ _ lo hi (above t)
      above (atomic_group t) = above t
      above (conditional c a b) =
          above_either (both_sizes (size_with call c) (size_with call a)) (both_sizes (size_with other c) (size_with other a)) _ _
          (above_both _ _ (size_with call a) (size_with other a) (above c) (above a)) (above b)
      above (subroutine_call k) = calls k
      above _ = record { fits = omega arith; low = omega arith }

      above_sum : (ts : Trees) → Above B (concat_size call ts) (concat_size other ts)
      above_sum no_trees = record { fits = omega arith; low = omega arith }
      above_sum (more_trees t ts) = above_both _ _ (concat_size call ts) (concat_size other ts) (above t) (above_sum ts)

      above_branches : (ts : Trees) → Above B (alternation_size call ts) (alternation_size other ts)
      above_branches no_trees = record { fits = omega arith; low = omega arith }
      above_branches (more_trees t no_trees) = above t
      above_branches (more_trees t (more_trees u ts)) =
          above_either _ _ (alternation_size call (more_trees u ts)) (alternation_size other (more_trees u ts)) (above t) (above_branches (more_trees u ts))

-- what is never too high, and what is no higher
abbrev IsBounded : Size → Type 0
IsBounded z = z.least ≤ unbounded

lower : (z y : Size) → Above unbounded z y → y.least ≤ z.least
lower z y h = omega (arith, h.fits, h.low)

raised : (z y : Size) → y.least ≤ unbounded → y.least ≤ z.least → Above unbounded z y
raised z y h k = record { fits = h; low = omega (arith, k) }

bounded_size : (call : ℕ → Size) → ((k : ℕ) → IsBounded (call k)) → (t : Tree) → IsBounded (size_with call t)
bounded_size call h t = (above unbounded (omega arith) call call (λ k. raised (call k) (call k) (h k) (omega arith)) t).fits

lower_size : (call other : ℕ → Size) → ((k : ℕ) → Above unbounded (call k) (other k)) → (t : Tree) →
    (size_with other t).least ≤ (size_with call t).least
lower_size call other h t = lower _ _ (above unbounded (omega arith) call other h t)

-- the size of a target, if it is there
abbrev pub called : (Tree → Size) → Option Tree → Size
called f None = any_size
called f (Some body) = f body

called_above : (B : ℕ) (f g : Tree → Size) (o : Option Tree) → ((body : Tree) → o ≡ Some body → Above B (f body) (g body)) →
    Above B (called f o) (called g o)
called_above B f g None h = record { fits = omega arith; low = omega arith }
called_above B f g (Some body) h = h body refl

cond_above : (B : ℕ) (b : Bool) (z y v u : Size) → (b ≡ true → Above B z y) → (b ≡ false → Above B v u) →
    Above B (cond b z v) (cond b y u)
cond_above B true z y v u h k = h refl
cond_above B false z y v u h k = k refl

-- one more target may not be called
abbrev close : (ℕ → Bool) → ℕ → ℕ → Bool
close S k j = j == k || S j

-- how many of the first n targets may be called
free : ℕ → (ℕ → Bool) → ℕ
free zero S = 0
free (suc n) S = free n S + cond (S n) 0 1

no_more : (a b : Bool) → ◌≤◌ (cond (a || b) 0 1) (cond b 0 1)
no_more true true = omega arith
no_more true false = omega arith
no_more false b = omega arith

free_all : (n : ℕ) → free n (λ j. false) ≡ n
unfolding free
free_all zero = refl
free_all (suc n) = omega (arith, free_all n)

free_less : (n k : ℕ) (S : ℕ → Bool) → free n (close S k) ≤ free n S
unfolding free
free_less zero k S = omega arith
free_less (suc n) k S = omega (arith, free_less n k S, no_more (n == k) (S n))

closes_one : (a b : Bool) → a ≡ true → b ≡ false → ◌≡◌ {A = ℕ} (cond (a || b) 0 1 + 1) (cond b 0 1)
closes_one true true e f = absurd (false≢true (sym f))
closes_one true false e f = refl
closes_one false b e f = absurd (false≢true e)

free_fewer : (n k : ℕ) (S : ℕ → Bool) → k < n → S k ≡ false → free n (close S k) < free n S
unfolding free
free_fewer zero k S lt e = absurd (omega arith)
free_fewer (suc n) k S lt e =
    ⊎_elim
    (λ (same : k ≡ n).
    omega (arith, free_less n k S, closes_one (n == k) (S n) (subst (λ j. (j == k) ≡ true) same (eq-eqb k k refl)) (subst (λ j. S j ≡ false) same e)))
    (λ (other : k ≡ n → ⊥). omega (arith, free_fewer n k S (omega arith) e, no_more (n == k) (S n)))
    (cases_eq k n)

none_free : (n k : ℕ) (S : ℕ → Bool) → k < n → free n S ≤ 0 → S k ≡ true
unfolding free
none_free zero k S lt h = absurd (omega arith)
none_free (suc n) k S lt h =
    ⊎_elim (λ (same : k ≡ n). rw same (is_closed (S n) (omega (arith, h)))) (λ (other : k ≡ n → ⊥). none_free n k S (omega arith) (omega (arith, h))) (cases_eq k n)
  where
    is_closed : (b : Bool) → ◌≤◌ (cond b 0 1) 0 → b ≡ true
    is_closed true h = refl
    is_closed false h = absurd (omega (arith, h))

module _ (groups : List Tree) where
  -- the least size of a call, where some targets may not be called, and calls are followed n deep
  unfoldable pub calls_of : (ℕ → Bool) → ℕ → ℕ → Size
  calls_of S zero k = called (λ body. endless_size) (target groups k)
  calls_of S (suc n) k = called (λ body. cond (S k) endless_size (size_with (calls_of S n) body)) (target groups k)

  bounded_called : (f : Tree → Size) (o : Option Tree) → ((body : Tree) → IsBounded (f body)) → IsBounded (called f o)
  bounded_called f None h = omega arith
  bounded_called f (Some body) h = h body

  bounded_cond : (b : Bool) (z : Size) → IsBounded z → IsBounded (cond b endless_size z)
  bounded_cond true z h = omega arith
  bounded_cond false z h = h

  bounded : (S : ℕ → Bool) (n k : ℕ) → IsBounded (calls_of S n k)
  unfolding calls_of
  bounded S zero k = bounded_called _ (target groups k) (λ body. omega arith)
  bounded S (suc n) k =
      bounded_called (λ body. cond (S k) endless_size (size_with (calls_of S n) body)) (target groups k)
      (λ body. bounded_cond (S k) _ (bounded_size (calls_of S n) (bounded S n) body))

  -- the least size of a tree
  abbrev least_of : (ℕ → Bool) → ℕ → Tree → ℕ
  least_of S n t = (size_with (calls_of S n) t).least

  bounded_least : (S : ℕ → Bool) (n : ℕ) (t : Tree) → least_of S n t ≤ unbounded
  bounded_least S n t = bounded_size (calls_of S n) (bounded S n) t

  -- deeper is no higher
  deeper : (S : ℕ → Bool) (n m : ℕ) → n ≤ m → (k : ℕ) → Above unbounded (calls_of S n k) (calls_of S m k)
  unfolding calls_of
  deeper S zero zero le k = called_above unbounded _ _ (target groups k) (λ body e. record { fits = omega arith; low = omega arith })
  deeper S zero (suc m) le k =
      called_above unbounded (λ body. endless_size) (λ body. cond (S k) endless_size (size_with (calls_of S m) body)) (target groups k)
      (λ body e.
      let fits = bounded_cond (S k) (size_with (calls_of S m) body) (bounded_least S m body) in record { fits = fits; low = omega (arith, fits) })
  deeper S (suc n) zero le k = absurd (omega arith)
  deeper S (suc n) (suc m) le k =
      called_above unbounded _ _ (target groups k) (λ body e.
      cond_above unbounded (S k) endless_size endless_size _ _ (λ f. record { fits = omega arith; low = omega arith })
      (λ f. above unbounded (omega arith) (calls_of S n) (calls_of S m) (deeper S n m (omega arith)) body))

  -- where fewer may be called it is no lower
  closed_above : (a b : Bool) (z y : Size) → Above unbounded z y → Above unbounded (cond (a || b) endless_size z) (cond b endless_size y)
  closed_above true true z y h = record { fits = omega arith; low = omega arith }
  closed_above true false z y h = record { fits = h.fits; low = omega (arith, h.fits) }
  closed_above false true z y h = record { fits = omega arith; low = omega arith }
  closed_above false false z y h = h

  fewer : (S : ℕ → Bool) (k n i : ℕ) → Above unbounded (calls_of (close S k) n i) (calls_of S n i)
  unfolding calls_of
  fewer S k zero i = called_above unbounded _ _ (target groups i) (λ body e. record { fits = omega arith; low = omega arith })
  fewer S k (suc n) i =
      called_above unbounded _ _ (target groups i) (λ body e.
      closed_above (i == k) (S i) _ _ (above unbounded (omega arith) (calls_of (close S k) n) (calls_of S n) (fewer S k n) body))

  -- A least way through a target does not call it again.
  cut_above : (B : ℕ) (a b : Bool) (z y : Size) → (a ≡ true → B ≤ z.least) → Above B z y →
      Above B (cond b endless_size z) (cond (a || b) endless_size y)
  cut_above B true true z y f h = record { fits = omega arith; low = omega arith }
  cut_above B true false z y f h = record { fits = omega arith; low = omega (arith, f refl) }
  cut_above B false true z y f h = record { fits = omega arith; low = omega arith }
  cut_above B false false z y f h = h

  module _ (S : ℕ → Bool) (k m : ℕ) (body : Tree) (is : target groups k ≡ Some body) where
    abbrev best : ℕ
    best = least_of (close S k) m body

    cut_calls : (j : ℕ) → j ≤ m → (i : ℕ) → Above best (calls_of S j i) (calls_of (close S k) j i)
    unfolding calls_of
    cut_calls zero le i = called_above best _ _ (target groups i) (λ other e. record { fits = omega arith; low = omega arith })
    cut_calls (suc j) le i =
        called_above best _ _ (target groups i) (λ other e.
        let inside = above best (bounded_least (close S k) m body) (calls_of S j) (calls_of (close S k) j) (cut_calls j (omega arith)) other in
        cut_above best (i == k) (S i) _ _
        (λ same.
        let known : body ≡ other = same_Some body other (sym is ∙ ap (target groups) (sym (eqb-true i k same)) ∙ e) in
        let low : best ≤ least_of (close S k) j other =
        subst (λ t. best ≤ least_of (close S k) j t) known
        (lower_size (calls_of (close S k) j) (calls_of (close S k) m) (deeper (close S k) j m (omega arith)) body) in
        omega (arith, inside.low, low))
        inside)

    cut : best ≤ least_of S m body
    cut =
        let h = above best (bounded_least (close S k) m body) (calls_of S m) (calls_of (close S k) m) (cut_calls m (omega arith)) body in
        omega (arith, h.low)

  -- So it is as deep as there are targets that may be called.
  settled : (d : ℕ) (S : ℕ → Bool) → free (length groups) S ≤ d → (m k : ℕ) → Above unbounded (calls_of S m k) (calls_of S d k)
  unfolding calls_of
  settled zero S h zero k = called_above unbounded _ _ (target groups k) (λ body e. record { fits = omega arith; low = omega arith })
  settled (suc d) S h zero k =
      called_above unbounded (λ body. endless_size) (λ body. cond (S k) endless_size (size_with (calls_of S d) body)) (target groups k)
      (λ body e.
      let fits = bounded_cond (S k) (size_with (calls_of S d) body) (bounded_least S d body) in record { fits = fits; low = omega (arith, fits) })
  settled zero S h (suc m) k =
      called_above unbounded _ _ (target groups k) (λ body e.
      let closed = none_free (length groups) k S (slice_get_within groups k body e) h in
      rw closed record { fits = omega arith; low = omega arith })
  settled (suc d) S h (suc m) k =
      called_above unbounded _ _ (target groups k) (λ body e.
      cond_above unbounded (S k) endless_size endless_size _ _ (λ f. record { fits = omega arith; low = omega arith })
      (λ f.
      let room : free (length groups) (close S k) ≤ d = omega (arith, h, free_fewer (length groups) k S (slice_get_within groups k body e) f) in
      raised _ _ (bounded_least S d body)
      (omega (
        arith,
        cut S k m body e,
        lower_size (calls_of (close S k) m) (calls_of (close S k) d) (settled d (close S k) room m) body,
        lower_size (calls_of (close S k) d) (calls_of S d) (fewer S k d) body,
      ))))

  abbrev pub open_to_all : ℕ → Bool
  open_to_all k = false

  -- the size of a call, as the sizes have it
  unfoldable pub call_size : ℕ → ℕ → Size
  call_size zero k = called (λ body. endless_size) (target groups k)
  call_size (suc n) k =
      called (λ body. let s = size_through groups n body in
      cond (is_recursive groups k body) (record { least = s.least; greatest = unbounded; always = false }) s) (target groups k)

  pub through_is : (n : ℕ) (t : Tree) → size_through groups n t ≡ size_with (call_size n) t
  unfolding size_through call_size
  through_is zero t = refl
  through_is (suc n) t = refl

  recursive_above : (b : Bool) (z y : Size) → Above unbounded z y →
      Above unbounded z (cond b (record { least = y.least; greatest = unbounded; always = false }) y)
  recursive_above true z y h = record { fits = h.fits; low = h.low }
  recursive_above false z y h = h

  linked : (n k : ℕ) → Above unbounded (calls_of open_to_all n k) (call_size n k)
  unfolding calls_of call_size
  linked zero k = called_above unbounded _ _ (target groups k) (λ body e. record { fits = omega arith; low = omega arith })
  linked (suc n) k =
      called_above unbounded _ _ (target groups k) (λ body e.
      recursive_above (is_recursive groups k body) _ _
      (subst (λ z. Above unbounded (size_with (calls_of open_to_all n) body) z) (sym (through_is n body))
      (above unbounded (omega arith) (calls_of open_to_all n) (call_size n) (linked n) body)))

  abbrev pub least_through : ℕ → ℕ → Size
  least_through = calls_of open_to_all

  -- the least size is no higher than that through any number of calls
  pub size_is_least : (m : ℕ) (t : Tree) → (size groups t).least ≤ (size_with (least_through m) t).least
  unfolding size
  size_is_least m t =
      let most = length groups in
      let far = lower_size (calls_of open_to_all m) (calls_of open_to_all most)
      (settled most open_to_all (omega (arith, free_all most)) m) t in
      let near = lower_size (calls_of open_to_all most) (call_size most) (linked most) t in
      let is : (size_through groups most t).least ≡ (size_with (call_size most) t).least = ap (λ (z : Size). z.least) (through_is most t) in
      omega (arith, far, near, is)

  pub least_is_bounded : (t : Tree) → (size groups t).least ≤ unbounded
  least_is_bounded t = omega (arith, size_is_least 0 t, bounded_least open_to_all 0 t)
