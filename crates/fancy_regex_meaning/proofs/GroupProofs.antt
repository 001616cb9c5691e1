-- Groups are found by the numbers that they bear.
use Rattle.std.proofs.Common.{◌≡◌, ℕ, zero, suc, ◌+◌, List, [], ◌∷◌, ◌++◌, length, Option, Some, None, refl, sym, ap, subst, ◌∙◌, ⊎_elim, ◌⊎◌, inl, inr, arith, cond, length-append}
use Rattle.std.specs.Prelude.{slice_get}
use Rattle.std.proofs.lemmas.Option.{none-some, same_Some}
use Rattle.fancy_regex_tree.specs.Tree.{Tree, Trees, empty, any, assertion, general_newline, literal, literal_bytes, concat, alt, group, look_around, repeat, delegate, backref, backref_with_level, atomic_group, keep_out, continue, backref_exists, conditional, subroutine_call, verb, absent_repeater, absent_expression, absent_stopper, absent_clear, define_group, ast_group, ast_backref, ast_call, ast_condition, no_trees, more_trees}
use Rattle.fancy_regex_meaning.specs.Groups.{bodies, row_bodies, group_count, row_group_count}
use Rattle.fancy_regex_meaning.specs.Ways.{meaning, call_ways, is_at_call_limit, for_some}
use Rattle.fancy_regex_meaning.specs.GroupLaws.{AreSame, OccursAt, OccursInRowAt, GroupsAreCounted, NumbersAreRanks, BodiesOccur, TargetsAreGroups, CallsRunGroups}

mutual
  unfolding bodies group_count

  counted : (t : Tree) → length (bodies t) ≡ group_count t
  counted (group t) = omega (arith, counted t)
  counted (concat ts) = row_counted ts
  counted (alt ts) = row_counted ts
  counted (look_around t how) = counted t
  counted (repeat t lo hi greedy) = counted t
  counted (atomic_group t) = counted t
  counted (conditional c a b) =
      omega (arith, counted c, counted a, counted b, length-append (bodies c) (bodies a ++ bodies b), length-append (bodies a) (bodies b))
  counted (absent_repeater t) = counted t
  counted (absent_expression a t) = omega (arith, counted a, counted t, length-append (bodies a) (bodies t))
  counted (absent_stopper t) = counted t
  counted (define_group t) = counted t
  counted (ast_group name t position) = counted t
  counted empty = refl
  counted (any newline crlf) = refl
  counted (assertion a) = refl
  counted (general_newline unicode) = refl
  counted (literal val casei) = refl
  counted (literal_bytes bytes) = refl
  counted (delegate inner casei) = refl
  counted (backref k casei) = refl
  counted (backref_with_level k level casei) = refl
  counted keep_out = refl
  counted continue = refl
  counted (backref_exists k level) = refl
  counted (subroutine_call k) = refl
  counted (verb v) = refl
  counted absent_clear = refl
  counted (ast_backref goal casei level position) = refl
  counted (ast_call goal position) = refl
  counted (ast_condition goal level position) = refl

  row_counted : (ts : Trees) → length (row_bodies ts) ≡ row_group_count ts
  row_counted no_trees = refl
  row_counted (more_trees t ts) = omega (arith, counted t, row_counted ts, length-append (bodies t) (row_bodies ts))

pub groups_are_counted : GroupsAreCounted
groups_are_counted t = counted t

get_left : {A : Type 0} (xs ys : List A) (i : ℕ) (x : A) → slice_get xs i ≡ Some x → slice_get (xs ++ ys) i ≡ Some x
get_left [] ys i x h = absurd (none-some x h)
get_left (y ∷ xs) ys zero x h = h
get_left (y ∷ xs) ys (suc i) x h = get_left xs ys i x h

get_right : {A : Type 0} (xs ys : List A) (i : ℕ) (x : A) → slice_get ys i ≡ Some x →
    (j : ℕ) × (j ≡ length xs + i) × (slice_get (xs ++ ys) j ≡ Some x)
get_right [] ys i x h = (i, omega arith, h)
get_right (y ∷ xs) ys i x h = let later = get_right xs ys i x h in (suc later.0, omega (arith, later.1), later.2)

get_split : {A : Type 0} (xs ys : List A) (i : ℕ) (x : A) → slice_get (xs ++ ys) i ≡ Some x →
    (slice_get xs i ≡ Some x) ⊎ ((j : ℕ) × (i ≡ length xs + j) × (slice_get ys j ≡ Some x))
get_split [] ys i x h = inr (i, omega arith, h)
get_split (y ∷ xs) ys zero x h = inl h
get_split (y ∷ xs) ys (suc i) x h =
    ⊎_elim (λ (e : slice_get xs i ≡ Some x). inl e)
    (λ (later : (j : ℕ) × (i ≡ length xs + j) × (slice_get ys j ≡ Some x)). inr (later.0, omega (arith, later.1), later.2))
    (get_split xs ys i x h)

-- the body with the number k, where those of the list are numbered from n on
abbrev Listed : List Tree → ℕ → ℕ → Tree → Type 0
Listed bs n k body = (i : ℕ) × (k ≡ n + i) × (slice_get bs i ≡ Some body)

in_first : (xs ys : List Tree) (n k : ℕ) (body : Tree) → Listed xs n k body → Listed (xs ++ ys) n k body
in_first xs ys n k body h = (h.0, h.1, get_left xs ys h.0 body h.2)

in_second : (xs ys : List Tree) (n m k : ℕ) (body : Tree) → m ≡ n + length xs → Listed ys m k body → Listed (xs ++ ys) n k body
in_second xs ys n m k body e h =
    let place = get_right xs ys h.0 body h.2 in
    (place.0, omega (arith, e, h.1, place.1), place.2)

-- what a group holds
abbrev body_of : Tree → Option Tree
body_of (group t) = Some t
body_of _ = None

no_group : (n : ℕ) (t : Tree) (k : ℕ) (body : Tree) → body_of t ≡ None → AreSame n t k (group body) → ⊥
no_group n t k body e h = none-some body (sym e ∙ ap body_of h.1)

-- a group that stands in a tree that is none stands in a part of it
inside : (n : ℕ) (t : Tree) (k : ℕ) (body : Tree) (Q : Type 0) → body_of t ≡ None → AreSame n t k (group body) ⊎ Q → Q
inside n t k body Q e h = ⊎_elim (λ (same : AreSame n t k (group body)). absurd (no_group n t k body e same)) (λ (q : Q). q) h

mutual
  unfolding bodies OccursAt group_count

  finds : (n : ℕ) (t : Tree) (k : ℕ) (body : Tree) → OccursAt n t k (group body) → Listed (bodies t) n k body
  finds n (group t) k body h =
      ⊎_elim (λ (same : AreSame n (group t) k (group body)). (0, omega (arith, same.0), ap body_of same.1))
      (λ (later : OccursAt (n + 1) t k (group body)).
      let found = finds (n + 1) t k body later in
      (suc found.0, omega (arith, found.1), found.2))
      h
  finds n (concat ts) k body h = finds_in_row n ts k body (inside n (concat ts) k body _ refl h)
  finds n (alt ts) k body h = finds_in_row n ts k body (inside n (alt ts) k body _ refl h)
  finds n (look_around t how) k body h = finds n t k body (inside n (look_around t how) k body _ refl h)
  finds n (repeat t lo hi greedy) k body h = finds n t k body (inside n (repeat t lo hi greedy) k body _ refl h)
  finds n (atomic_group t) k body h = finds n t k body (inside n (atomic_group t) k body _ refl h)
  finds n (absent_repeater t) k body h = finds n t k body (inside n (absent_repeater t) k body _ refl h)
  finds n (absent_stopper t) k body h = finds n t k body (inside n (absent_stopper t) k body _ refl h)
  finds n (define_group t) k body h = finds n t k body (inside n (define_group t) k body _ refl h)
  finds n (ast_group name t position) k body h = finds n t k body (inside n (ast_group name t position) k body _ refl h)
  finds n (conditional c a b) k body h =
      ⊎_elim (λ (p : OccursAt n c k (group body)). in_first (bodies c) (bodies a ++ bodies b) n k body (finds n c k body p))
      (λ (rest : OccursAt (n + group_count c) a k (group body) ⊎ OccursAt (n + group_count c + group_count a) b k (group body)).
      in_second (bodies c) (bodies a ++ bodies b) n (n + group_count c) k body (omega (arith, counted c))
      (⊎_elim
      (λ (p : OccursAt (n + group_count c) a k (group body)).
      in_first (bodies a) (bodies b) (n + group_count c) k body (finds (n + group_count c) a k body p))
      (λ (p : OccursAt (n + group_count c + group_count a) b k (group body)).
      in_second (bodies a) (bodies b) (n + group_count c) (n + group_count c + group_count a) k body (omega (arith, counted a))
      (finds (n + group_count c + group_count a) b k body p))
      rest))
      (inside n (conditional c a b) k body _ refl h)
  finds n (absent_expression a t) k body h =
      ⊎_elim (λ (p : OccursAt n a k (group body)). in_first (bodies a) (bodies t) n k body (finds n a k body p))
      (λ (p : OccursAt (n + group_count a) t k (group body)).
      in_second (bodies a) (bodies t) n (n + group_count a) k body (omega (arith, counted a)) (finds (n + group_count a) t k body p))
      (inside n (absent_expression a t) k body _ refl h)
  finds n empty k body h = absurd (no_group n empty k body refl h)
  finds n (any newline crlf) k body h = absurd (no_group n (any newline crlf) k body refl h)
  finds n (assertion a) k body h = absurd (no_group n (assertion a) k body refl h)
  finds n (general_newline unicode) k body h = absurd (no_group n (general_newline unicode) k body refl h)
  finds n (literal val casei) k body h = absurd (no_group n (literal val casei) k body refl h)
  finds n (literal_bytes bytes) k body h = absurd (no_group n (literal_bytes bytes) k body refl h)
  finds n (delegate inner casei) k body h = absurd (no_group n (delegate inner casei) k body refl h)
  finds n (backref j casei) k body h = absurd (no_group n (backref j casei) k body refl h)
  finds n (backref_with_level j level casei) k body h = absurd (no_group n (backref_with_level j level casei) k body refl h)
  finds n keep_out k body h = absurd (no_group n keep_out k body refl h)
  finds n continue k body h = absurd (no_group n continue k body refl h)
  finds n (backref_exists j level) k body h = absurd (no_group n (backref_exists j level) k body refl h)
  finds n (subroutine_call j) k body h = absurd (no_group n (subroutine_call j) k body refl h)
  finds n (verb v) k body h = absurd (no_group n (verb v) k body refl h)
  finds n absent_clear k body h = absurd (no_group n absent_clear k body refl h)
  finds n (ast_backref goal casei level position) k body h = absurd (no_group n (ast_backref goal casei level position) k body refl h)
  finds n (ast_call goal position) k body h = absurd (no_group n (ast_call goal position) k body refl h)
  finds n (ast_condition goal level position) k body h = absurd (no_group n (ast_condition goal level position) k body refl h)

  finds_in_row : (n : ℕ) (ts : Trees) (k : ℕ) (body : Tree) → OccursInRowAt n ts k (group body) → Listed (row_bodies ts) n k body
  finds_in_row n no_trees k body h = absurd h
  finds_in_row n (more_trees t ts) k body h =
      ⊎_elim (λ (p : OccursAt n t k (group body)). in_first (bodies t) (row_bodies ts) n k body (finds n t k body p))
      (λ (p : OccursInRowAt (n + group_count t) ts k (group body)).
      in_second (bodies t) (row_bodies ts) n (n + group_count t) k body (omega (arith, counted t))
      (finds_in_row (n + group_count t) ts k body p))
      h

pub numbers_are_ranks : NumbersAreRanks
numbers_are_ranks n t k body h = finds n t k body h

pub targets_are_groups : TargetsAreGroups
targets_are_groups t k body = (
  λ h.
      let found = finds 1 t k body h in
      subst (λ j. slice_get (t ∷ bodies t) j ≡ Some body) (next found.0 k found.1) found.2,
  λ h.
      let found = finds 0 t k body h in
      subst (λ j. slice_get (bodies t) j ≡ Some body) (same found.0 k found.1) found.2,
)
  where
    next : (i k : ℕ) → k ≡ 1 + i → suc i ≡ k
    next i k e = omega (arith, e)

    same : (i k : ℕ) → k ≡ 0 + i → i ≡ k
    same i k e = omega (arith, e)

pub calls_run_groups : CallsRunGroups
unfolding call_ways
calls_run_groups s t k body h m opened w =
    ap (λ o. cond (is_at_call_limit opened k) [] (for_some (λ b. (meaning s (t ∷ bodies t) (call_ways s (t ∷ bodies t) m (k ∷ opened)) (k + 1) b).from w) o))
    ((targets_are_groups t k body).0 h)

mutual
  unfolding bodies OccursAt group_count

  stand : (n : ℕ) (t : Tree) (i : ℕ) (body : Tree) (k : ℕ) → k ≡ n + i → slice_get (bodies t) i ≡ Some body → OccursAt n t k (group body)
  stand n (group t) zero body k e h = inl (omega (arith, e), ap group (same_Some t body h))
  stand n (group t) (suc i) body k e h = inr (stand (n + 1) t i body k (omega (arith, e)) h)
  stand n (concat ts) i body k e h = inr (stand_in_row n ts i body k e h)
  stand n (alt ts) i body k e h = inr (stand_in_row n ts i body k e h)
  stand n (look_around t how) i body k e h = inr (stand n t i body k e h)
  stand n (repeat t lo hi greedy) i body k e h = inr (stand n t i body k e h)
  stand n (atomic_group t) i body k e h = inr (stand n t i body k e h)
  stand n (absent_repeater t) i body k e h = inr (stand n t i body k e h)
  stand n (absent_stopper t) i body k e h = inr (stand n t i body k e h)
  stand n (define_group t) i body k e h = inr (stand n t i body k e h)
  stand n (ast_group name t position) i body k e h = inr (stand n t i body k e h)
  stand n (conditional c a b) i body k e h =
      ⊎_elim (λ (p : slice_get (bodies c) i ≡ Some body). inr (inl (stand n c i body k e p)))
      (λ (p : (j : ℕ) × (i ≡ length (bodies c) + j) × (slice_get (bodies a ++ bodies b) j ≡ Some body)).
      let there : k ≡ n + group_count c + p.0 = omega (arith, e, p.1, counted c) in
      ⊎_elim (λ (q : slice_get (bodies a) p.0 ≡ Some body). inr (inr (inl (stand (n + group_count c) a p.0 body k there q))))
      (λ (q : (j : ℕ) × (p.0 ≡ length (bodies a) + j) × (slice_get (bodies b) j ≡ Some body)).
      inr (inr (inr (stand (n + group_count c + group_count a) b q.0 body k (omega (arith, there, q.1, counted a)) q.2))))
      (get_split (bodies a) (bodies b) p.0 body p.2))
      (get_split (bodies c) (bodies a ++ bodies b) i body h)
  stand n (absent_expression a t) i body k e h =
      ⊎_elim (λ (p : slice_get (bodies a) i ≡ Some body). inr (inl (stand n a i body k e p)))
      (λ (p : (j : ℕ) × (i ≡ length (bodies a) + j) × (slice_get (bodies t) j ≡ Some body)).
      inr (inr (stand (n + group_count a) t p.0 body k (omega (arith, e, p.1, counted a)) p.2)))
      (get_split (bodies a) (bodies t) i body h)
  stand n empty i body k e h = absurd (none-some body h)
  stand n (any newline crlf) i body k e h = absurd (none-some body h)
  stand n (assertion a) i body k e h = absurd (none-some body h)
  stand n (general_newline unicode) i body k e h = absurd (none-some body h)
  stand n (literal val casei) i body k e h = absurd (none-some body h)
  stand n (literal_bytes bytes) i body k e h = absurd (none-some body h)
  stand n (delegate inner casei) i body k e h = absurd (none-some body h)
  stand n (backref j casei) i body k e h = absurd (none-some body h)
  stand n (backref_with_level j level casei) i body k e h = absurd (none-some body h)
  stand n keep_out i body k e h = absurd (none-some body h)
  stand n continue i body k e h = absurd (none-some body h)
  stand n (backref_exists j level) i body k e h = absurd (none-some body h)
  stand n (subroutine_call j) i body k e h = absurd (none-some body h)
  stand n (verb v) i body k e h = absurd (none-some body h)
  stand n absent_clear i body k e h = absurd (none-some body h)
  stand n (ast_backref goal casei level position) i body k e h = absurd (none-some body h)
  stand n (ast_call goal position) i body k e h = absurd (none-some body h)
  stand n (ast_condition goal level position) i body k e h = absurd (none-some body h)

  stand_in_row : (n : ℕ) (ts : Trees) (i : ℕ) (body : Tree) (k : ℕ) → k ≡ n + i → slice_get (row_bodies ts) i ≡ Some body →
      OccursInRowAt n ts k (group body)
  stand_in_row n no_trees i body k e h = absurd (none-some body h)
  stand_in_row n (more_trees t ts) i body k e h =
      ⊎_elim (λ (p : slice_get (bodies t) i ≡ Some body). inl (stand n t i body k e p))
      (λ (p : (j : ℕ) × (i ≡ length (bodies t) + j) × (slice_get (row_bodies ts) j ≡ Some body)).
      inr (stand_in_row (n + group_count t) ts p.0 body k (omega (arith, e, p.1, counted t)) p.2))
      (get_split (bodies t) (row_bodies ts) i body h)

pub bodies_stand : BodiesOccur
bodies_stand n t i body h = stand n t i body (n + i) refl h
