-- The ways of a pattern take as many characters as its size says.
use Rattle.std.proofs.Common.{◌≡◌, ℕ, zero, suc, ◌+◌, ◌*◌, ◌<◌, ◌≤◌, Bool, true, false, cond, List, [], ◌∷◌, length, max, Option, Some, None, refl, sym, ap, subst, ◌∙◌, ⊎_elim, ◌⊎◌, arith}
use Rattle.std.specs.Prelude.{⊤, slice_get, ◌&&◌, ◌||◌, ◌==◌}
use Rattle.std.specs.Str.{IsUtf8}
use Rattle.std.proofs.lemmas.Bool.{and_parts, or_cases, eqb-true, cases_lt, false≢true}
use Rattle.std.proofs.lemmas.Option.{none-some, same_Some}
use Rattle.std.proofs.lemmas.Nat.{mul-le}
use Rattle.fancy_regex_tree.specs.Tree as tree
use Rattle.fancy_regex_tree.specs.Tree.{Tree, Trees, empty, any, assertion, general_newline, literal, literal_bytes, concat, alt, group, look_around, delegate, backref, backref_with_level, atomic_group, keep_out, continue, backref_exists, conditional, subroutine_call, verb, absent_repeater, absent_expression, absent_stopper, absent_clear, define_group, ast_group, ast_backref, ast_call, ast_condition, no_trees, more_trees}
use Rattle.fancy_regex_meaning.specs.Sizes.{Size, unbounded, times, endless_size, both_sizes, either_size, repeated_size, size_with, concat_size, alternation_size, size_through, size, target, is_recursive}
use Rattle.fancy_regex_meaning.specs.Ways.{MatchState, Moves, Setting, for_some, meaning, call_ways, ways, max_open_calls, is_at_call_limit}
use Rattle.fancy_regex_meaning.specs.WayLaws.{Each, PreservesForward, HasCharBoundaries}
use Rattle.fancy_regex_meaning.specs.SizeLaws.{EachRepeat, EachRepeatInRow, IsInOrder, LeastIsLowerBound, GreatestIsUpperBound, ConstSizeIsExact, NonEmptyMoves, UnboundedLeastHasNoWay}
use Rattle.fancy_regex_meaning.proofs.EachLemmas.{Each-weaker}
use Rattle.fancy_regex_meaning.proofs.CharacterLemmas.{between_fits}
use Rattle.fancy_regex_meaning.proofs.WayProofs.{calls_onward}
use Rattle.fancy_regex_meaning.proofs.ForwardProofs.{keeps_cuts}
use Rattle.fancy_regex_meaning.proofs.SizedWays.{both_hold, Repetitions, Bounds, Sized, sized_any, sized_weaker, sized}
use Rattle.fancy_regex_meaning.proofs.LeastLemmas.{called, call_size, through_is, calls_of, least_through, size_is_least}

-- what every repeat is
abbrev Anything : ℕ → ℕ → Type 0
Anything lo hi = ⊤

mutual
  unfolding EachRepeat

  each_any : (t : Tree) → EachRepeat Anything t
  each_any (group t) = each_any t
  each_any (concat ts) = each_any_row ts
  each_any (alt ts) = each_any_row ts
  each_any (look_around t how) = each_any t
  each_any (tree.repeat t lo hi greedy) = (tt, each_any t)
  each_any (atomic_group t) = each_any t
  each_any (conditional c a b) = (each_any c, each_any a, each_any b)
  each_any (absent_repeater t) = each_any t
  each_any (absent_expression a t) = (each_any a, each_any t)
  each_any (absent_stopper t) = each_any t
  each_any (define_group t) = each_any t
  each_any (ast_group name t position) = each_any t
  each_any _ = tt

  each_any_row : (ts : Trees) → EachRepeatInRow Anything ts
  each_any_row no_trees = tt
  each_any_row (more_trees t ts) = (each_any t, each_any_row ts)

-- The least number.
abbrev IsAtLeast : Size → ℕ → Type 0
IsAtLeast z c = z.least ≤ c

least_repetitions : (a : Size) (n c : ℕ) → Repetitions (IsAtLeast a) n c → n * a.least ≤ c
least_repetitions a zero c h = omega (arith, h)
least_repetitions a (suc n) c h = omega (arith, h.2, least_repetitions a n h.1 h.3, h.4)

least_bounds : Bounds IsAtLeast Anything
least_bounds = record {
  fixed = λ n. omega arith;
  newline = λ c one two. one;
  some = λ c. omega arith;
  both = λ a b x y h k. omega (arith, h, k);
  left = λ a b x h. omega (arith, h);
  right = λ a b x h. omega (arith, h);
  repeated = λ a lo hi n c good r low high. omega (arith, least_repetitions a n c r, mul-le lo a.least n a.least low (omega arith));
}

-- The greatest number, where there is one.
abbrev IsAtMost : Size → ℕ → Type 0
IsAtMost z c = z.greatest < unbounded → c ≤ z.greatest

abbrev InOrder : ℕ → ℕ → Type 0
InOrder lo hi = lo ≤ hi

greatest_repetitions : (a : Size) (n c : ℕ) → a.greatest < unbounded → Repetitions (IsAtMost a) n c → c ≤ n * a.greatest
greatest_repetitions a zero c lt h = omega (arith, h)
greatest_repetitions a (suc n) c lt h = omega (arith, h.2 lt, greatest_repetitions a n h.1 lt h.3, h.4)

greatest_repeated : (a : Size) (lo hi n c : ℕ) → lo ≤ hi → Repetitions (IsAtMost a) n c → (n ≤ max lo hi) ⊎ (hi ≡ unbounded) →
    times hi a.greatest < unbounded → c ≤ times hi a.greatest
greatest_repeated a lo hi zero c good r high lt = omega (arith, r)
greatest_repeated a lo zero (suc n) c good r high lt =
    ⊎_elim (λ (few : suc n ≤ max lo 0). absurd (omega arith)) (λ (wide : 0 ≡ unbounded). absurd (omega arith)) high
greatest_repeated a lo (suc hi) (suc n) c good r high lt =
    let small : a.greatest < unbounded = omega (arith, mul-le 1 a.greatest (suc hi) a.greatest (omega arith) (omega arith)) in
    let most = greatest_repetitions a (suc n) c small r in
    ⊎_elim
    (λ (few : suc n ≤ max lo (suc hi)). omega (arith, most, mul-le (suc n) a.greatest (suc hi) a.greatest (omega arith) (omega arith)))
    (λ (wide : suc hi ≡ unbounded).
    ⊎_elim
    (λ (none : a.greatest < 1).
    let zeros : a.greatest ≡ 0 = omega arith in
    let nothing : c ≤ suc n * 0 = subst (λ g. c ≤ suc n * g) zeros most in omega (arith, nothing))
    (λ (one : 1 ≤ a.greatest). absurd (omega (arith, mul-le (suc hi) 1 (suc hi) a.greatest (omega arith) one)))
    (cases_lt a.greatest 1))
    high

greatest_bounds : Bounds IsAtMost InOrder
greatest_bounds = record {
  fixed = λ n lt. omega arith;
  newline = λ c one two lt. two;
  some = λ c lt. absurd (omega arith);
  both = λ a b x y h k lt. omega (arith, h (omega (arith, lt)), k (omega (arith, lt)));
  left = λ a b x h lt. omega (arith, h (omega (arith, lt)));
  right = λ a b x h lt. omega (arith, h (omega (arith, lt)));
  repeated = λ a lo hi n c good r low high lt. greatest_repeated a lo hi n c good r high lt;
}

-- What is always the same is as long as its greatest.
abbrev IsExact : Size → Type 0
IsExact z = z.always ≡ true → z.least < unbounded → z.greatest ≡ z.least

exact_both : (a b : Size) → IsExact a → IsExact b → IsExact (both_sizes a b)
exact_both a b h k e lt =
    let both : (a.always ≡ true) × (b.always ≡ true) = and_parts _ _ e in
    omega (arith, h both.0 (omega (arith, lt)), k both.1 (omega (arith, lt)))

exact_either : (a b : Size) → IsExact a → IsExact b → IsExact (either_size a b)
exact_either a b h k e lt =
    let parts : ((a.always && b.always) ≡ true) × ((a.least == b.least) ≡ true) = and_parts _ _ e in
    let both : (a.always ≡ true) × (b.always ≡ true) = and_parts _ _ parts.0 in
    let same : a.least ≡ b.least = eqb-true a.least b.least parts.1 in
    omega (arith, same, lt, h both.0 (omega (arith, lt, same)), k both.1 (omega (arith, lt, same)))

no_least : (a : Size) (lo hi : ℕ) → a.greatest ≡ a.least → a.least ≡ 0 → times hi a.greatest ≡ times lo a.least
no_least a lo hi e z =
    let none : a.greatest ≡ 0 = e ∙ z in
    subst (λ g. times hi g ≡ times lo a.least) (sym none) (subst (λ g. times hi 0 ≡ times lo g) (sym z) (omega arith))

same_bounds : (a : Size) (lo hi : ℕ) → (a.least < unbounded → a.greatest ≡ a.least) → lo ≡ hi → times lo a.least < unbounded →
    times hi a.greatest ≡ times lo a.least
same_bounds a zero hi h e lt = subst (λ n. times n a.greatest ≡ times 0 a.least) e (omega arith)
same_bounds a (suc lo) hi h e lt =
    let small : a.least < unbounded = omega (arith, lt, mul-le 1 a.least (suc lo) a.least (omega arith) (omega arith)) in
    subst (λ n. times n a.greatest ≡ times (suc lo) a.least) e (ap (times (suc lo)) (h small))

exact_repeated : (a : Size) (lo hi : ℕ) → IsExact a → IsExact (repeated_size a lo hi)
exact_repeated a lo hi h e lt =
    let parts : (a.always ≡ true) × ((lo == hi || a.least == 0) ≡ true) = and_parts _ _ e in
    ⊎_elim
    (λ (same : (lo == hi) ≡ true). same_bounds a lo hi (h parts.0) (eqb-true lo hi same) lt)
    (λ (none : (a.least == 0) ≡ true).
    let zeros : a.least ≡ 0 = eqb-true a.least 0 none in no_least a lo hi (h parts.0 (omega (arith, zeros))) zeros)
    (or_cases (lo == hi) (a.least == 0) parts.1)

module _ (sizes : ℕ → Size) (calls : (k : ℕ) → IsExact (sizes k)) where
  mutual
    unfolding size_with

    exact : (t : Tree) → IsExact (size_with sizes t)
    exact (concat ts) = exact_sum ts
    exact (alt ts) = exact_branches ts
    exact (group t) = exact t
    exact (tree.repeat t lo hi greedy) = exact_repeated (size_with sizes t) lo hi (exact t)
    exact (atomic_group t) = exact t
    exact (conditional c a b) =
        exact_either (both_sizes (size_with sizes c) (size_with sizes a)) (size_with sizes b)
        (exact_both (size_with sizes c) (size_with sizes a) (exact c) (exact a)) (exact b)
    exact (subroutine_call k) = calls k
    exact (general_newline unicode) = λ e lt. absurd (false≢true e)
    exact (backref k casei) = λ e lt. absurd (false≢true e)
    exact (backref_with_level k level casei) = λ e lt. absurd (false≢true e)
    exact (absent_repeater t) = λ e lt. absurd (false≢true e)
    exact (absent_expression a t) = λ e lt. absurd (false≢true e)
    exact (absent_stopper t) = λ e lt. absurd (false≢true e)
    exact absent_clear = λ e lt. absurd (false≢true e)
    exact (ast_backref goal casei level position) = λ e lt. absurd (false≢true e)
    exact (ast_call goal position) = λ e lt. absurd (false≢true e)
    exact _ = λ e lt. refl

    exact_sum : (ts : Trees) → IsExact (concat_size sizes ts)
    exact_sum no_trees = λ e lt. refl
    exact_sum (more_trees t ts) = exact_both (size_with sizes t) (concat_size sizes ts) (exact t) (exact_sum ts)

    exact_branches : (ts : Trees) → IsExact (alternation_size sizes ts)
    exact_branches no_trees = λ e lt. refl
    exact_branches (more_trees t no_trees) = exact t
    exact_branches (more_trees t (more_trees u ts)) =
        exact_either (size_with sizes t) (alternation_size sizes (more_trees u ts)) (exact t) (exact_branches (more_trees u ts))

exact_called : (f : Tree → Size) (o : Option Tree) → ((body : Tree) → IsExact (f body)) → IsExact (called f o)
exact_called f None h = λ e lt. absurd (false≢true e)
exact_called f (Some body) h = h body

exact_recursive : (b : Bool) (z : Size) → IsExact z →
    IsExact (cond b (record { least = z.least; greatest = unbounded; always = false }) z)
exact_recursive true z h = λ e lt. absurd (false≢true e)
exact_recursive false z h = h

pub each_at : {A : Type 0} (P : A → Type 0) (xs : List A) (k : ℕ) (x : A) → Each P xs → slice_get xs k ≡ Some x → P x
each_at P [] k x h e = absurd (none-some x e)
each_at P (y ∷ ys) zero x h e = subst P (same_Some y x e) h.0
each_at P (y ∷ ys) (suc k) x h e = each_at P ys k x h.1 e

module _ (groups : List Tree) where
  exact_calls : (n k : ℕ) → IsExact (call_size groups n k)
  unfolding call_size
  exact_calls zero k = exact_called _ (target groups k) (λ body e lt. absurd (false≢true e))
  exact_calls (suc n) k =
      exact_called (λ body. cond (is_recursive groups k body) (record { least = (size_through groups n body).least; greatest = unbounded; always = false }) (size_through groups n body))
      (target groups k)
      (λ body. exact_recursive (is_recursive groups k body) _ (subst IsExact (sym (through_is groups n body)) (exact (call_size groups n) (exact_calls n) body)))

  exact_size : (t : Tree) → IsExact (size groups t)
  unfolding size
  exact_size t = subst IsExact (sym (through_is groups (length groups) t)) (exact (call_size groups (length groups)) (exact_calls (length groups)) t)

  module _ (s : Setting) (utf8 : IsUtf8 s.text) where
    abbrev Of : (Size → ℕ → Type 0) → Size → Moves → Type 0
    Of Fits z moves = Sized s utf8 (Fits z) moves

    calls_well : (n : ℕ) (opened : List ℕ) (k : ℕ) → PreservesForward (HasCharBoundaries s.text) (call_ways s groups n opened k)
    calls_well n opened k = calls_onward s (HasCharBoundaries s.text) (keeps_cuts s utf8) groups n opened k

    -- the ways of a call are those of its target
    of_target : (P : Size → ℕ → Type 0) (f : Tree → Size) (o : Option Tree) (full : Bool) (inside : Tree → Moves) →
        ((body : Tree) → o ≡ Some body → Sized s utf8 (P (f body)) (inside body)) →
        Sized s utf8 (P (called f o)) (λ w. cond full [] (for_some (λ body. inside body w) o))
    of_target P f o true inside h w k = tt
    of_target P f None false inside h w k = tt
    of_target P f (Some body) false inside h w k = h body refl w k

    bodies_of : ℕ → List ℕ → ℕ → Tree → Moves
    bodies_of n opened k body = (meaning s groups (call_ways s groups n (k ∷ opened)) (k + 1) body).from

    least_calls : (n : ℕ) (opened : List ℕ) (k : ℕ) → Sized s utf8 (IsAtLeast (least_through groups n k)) (call_ways s groups n opened k)
    unfolding call_ways calls_of bodies_of
    least_calls zero opened k = λ w h. tt
    least_calls (suc n) opened k =
        of_target IsAtLeast _ (target groups k) (is_at_call_limit opened k) (bodies_of n opened k) (λ body e.
        sized s utf8 IsAtLeast Anything least_bounds groups (least_through groups n) (call_ways s groups n (k ∷ opened))
        (least_calls n (k ∷ opened)) (k + 1) body (each_any body))

    wide : (z : Size) (moves : Moves) → z.greatest ≡ unbounded → PreservesForward (HasCharBoundaries s.text) moves → Sized s utf8 (IsAtMost z) moves
    wide z moves e p = sized_any s utf8 (IsAtMost z) moves p (λ c lt. absurd (omega (arith, lt, e)))

    module _ (ordered : Each IsInOrder groups) where
      recursive_most : (b : Bool) (z : Size) (moves : Moves) → Sized s utf8 (IsAtMost z) moves →
          Sized s utf8 (IsAtMost (cond b (record { least = z.least; greatest = unbounded; always = false }) z)) moves
      recursive_most true z moves p =
          sized_weaker s utf8 (IsAtMost z) (IsAtMost (record { least = z.least; greatest = unbounded; always = false })) moves (λ c i lt. absurd (omega (arith, lt))) p
      recursive_most false z moves p = p

      greatest_calls : (n d : ℕ) (opened : List ℕ) (k : ℕ) → Sized s utf8 (IsAtMost (call_size groups d k)) (call_ways s groups n opened k)
      unfolding call_ways call_size bodies_of
      greatest_calls zero d opened k = λ w h. tt
      greatest_calls (suc n) zero opened k =
          wide (called (λ body. endless_size) (target groups k)) _ (endless (target groups k)) (calls_well (suc n) opened k)
        where
          endless : (o : Option Tree) → (called (λ body. endless_size) o).greatest ≡ unbounded
          endless None = refl
          endless (Some body) = refl
      greatest_calls (suc n) (suc d) opened k =
          of_target IsAtMost _ (target groups k) (is_at_call_limit opened k) (bodies_of n opened k) (λ body e.
          recursive_most (is_recursive groups k body) (size_through groups d body) (bodies_of n opened k body)
          (subst (λ z. Sized s utf8 (IsAtMost z) (bodies_of n opened k body)) (sym (through_is groups d body))
          (sized s utf8 IsAtMost InOrder greatest_bounds groups (call_size groups d) (call_ways s groups n (k ∷ opened))
          (greatest_calls n d (k ∷ opened)) (k + 1) body (each_at IsInOrder groups k body ordered e))))

      greatest_ways : (n : ℕ) (t : Tree) → IsInOrder t → Sized s utf8 (IsAtMost (size groups t)) (ways s groups n t)
      unfolding ways size
      greatest_ways n t order =
          subst (λ z. Sized s utf8 (IsAtMost z) (ways s groups n t)) (sym (through_is groups (length groups) t))
          (sized s utf8 IsAtMost InOrder greatest_bounds groups (call_size groups (length groups)) (call_ways s groups (max_open_calls groups) [])
          (greatest_calls (max_open_calls groups) (length groups) []) n t order)

    least_ways : (n : ℕ) (t : Tree) → Sized s utf8 (IsAtLeast (size groups t)) (ways s groups n t)
    unfolding ways
    least_ways n t =
        let far = least_through groups (max_open_calls groups) in
        sized_weaker s utf8 (IsAtLeast (size_with far t)) (IsAtLeast (size groups t)) (ways s groups n t)
        (λ c h. omega (arith, h, size_is_least groups (max_open_calls groups) t))
        (sized s utf8 IsAtLeast Anything least_bounds groups far (call_ways s groups (max_open_calls groups) [])
        (least_calls (max_open_calls groups) []) n t (each_any t))

module _ (s : Setting) (groups : List Tree) where
  pub least_is_taken : LeastIsLowerBound s groups
  least_is_taken utf8 n t w h = Each-weaker _ _ (λ v o. o.1) (ways s groups n t w) (least_ways groups s utf8 n t w h)

  pub greatest_is_kept : GreatestIsUpperBound s groups
  greatest_is_kept utf8 ordered n t w h order lt =
      Each-weaker _ _ (λ v o. o.1 lt) (ways s groups n t w) (greatest_ways groups s utf8 ordered n t order w h)

  pub always_is_exact : ConstSizeIsExact s groups
  always_is_exact utf8 ordered n t w h order e lt =
      let same : (size groups t).greatest ≡ (size groups t).least = exact_size groups t e lt in
      let low = least_is_taken utf8 n t w h in
      let high = greatest_is_kept utf8 ordered n t w h order (omega (arith, same, lt)) in
      Each-weaker _ _ (λ v o. omega (arith, o.0, o.1, same)) (ways s groups n t w) (both_hold _ _ (ways s groups n t w) low high)

  pub non_empty_moves : NonEmptyMoves s groups
  non_empty_moves utf8 n t w h e =
      let some : 0 < (size groups t).least = above_zero (size groups t).least e in
      Each-weaker _ _ (λ (v : MatchState) o. omega (arith, o.0.0, o.1, some, between_fits s.text utf8 w.position v.position o.0.0 h.0 o.0.1.0))
      (ways s groups n t w) (least_ways groups s utf8 n t w h)
    where
      above_zero : (n : ℕ) → (n == 0) ≡ false → 0 < n
      above_zero zero e = absurd (false≢true (sym e))
      above_zero (suc n) e = omega arith

  pub endless_has_none : UnboundedLeastHasNoWay s groups
  endless_has_none utf8 short n t w h e =
      none_of _ (Each-weaker _ (λ (v : MatchState). ⊥) (λ (v : MatchState) o.
      let inside : v.position ≤ length s.text = o.0.1.0.0 in
      absurd (omega (arith, o.0.0, o.1, e, short, inside, between_fits s.text utf8 w.position v.position o.0.0 h.0 o.0.1.0)))
      (ways s groups n t w) (least_ways groups s utf8 n t w h))
    where
      none_of : (vs : List MatchState) → Each (λ v. ⊥) vs → vs ≡ []
      none_of [] h = refl
      none_of (v ∷ vs) h = absurd h.0
