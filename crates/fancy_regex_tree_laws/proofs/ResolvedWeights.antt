-- Resolving references adds no unit.
use Rattle.std.proofs.Common.{ℕ, suc, ◌≤◌, Bool, true, false, cond, Option, Some, None, Result, Ok, Err, ℤ, le_refl, arith}
use Rattle.fancy_regex_tree.specs.Tree.{Text, Tree, Trees, Target, empty, any, assertion, general_newline, literal, literal_bytes, concat, alt, group, look_around, repeat, delegate}
use Rattle.fancy_regex_tree.specs.Tree.{backref, backref_with_level, atomic_group, keep_out, continue, backref_exists, conditional, subroutine_call, verb, absent_repeater}
use Rattle.fancy_regex_tree.specs.Tree.{absent_expression, absent_stopper, absent_clear, define_group, ast_group, ast_backref, ast_call, ast_condition, no_trees, more_trees}
use Rattle.fancy_regex_tree.specs.Numbering.{PositionedFault, ◌⨟◌, counts, backref_of, group_target, call_target, resolved, all_resolved}
use Rattle.fancy_regex_tree_laws.proofs.WeightUnits.{units, units_of, branch_units}

-- what is answered has the property, if something is
abbrev pub IsGood : {A : Type 0} → (A → Type 0) → Result A PositionedFault → Type 0
IsGood P (Ok a) = P a
IsGood P (Err e) = Unit {0}

pub and_then : {A B : Type 0} (P : A → Type 0) (Q : B → Type 0) (r : Result A PositionedFault) (f : A → Result B PositionedFault) →
    IsGood P r → ((a : A) → P a → IsGood Q (f a)) → IsGood Q (r ⨟ f)
and_then P Q (Ok a) f h k = k a h
and_then P Q (Err e) f h k = tt

-- no more units than the tree
abbrev pub IsLess : Tree → Tree × ℕ → Type 0
IsLess t x = units x.0 ≤ units t

-- the same of the parts of a row, and of branches
abbrev AreLess : Trees → Trees × ℕ → Type 0
AreLess ts x = (units_of x.0 ≤ units_of ts) × (branch_units x.0 ≤ branch_units ts)

-- there is nothing to show of a number
abbrev Any : {A : Type 0} → A → Type 0
Any a = Unit {0}

all_good : (r : Result ℕ PositionedFault) → IsGood Any r
all_good (Ok k) = tt
all_good (Err e) = tt

module _ (ignored : Bool) (group_named : Text → Option ℕ) where
  backref_less : (level : Option ℤ) (casei : Bool) (g : ℕ) → units (backref_of level casei g) ≤ 1
  backref_less None casei g = omega arith
  backref_less (Some level) casei g = omega arith

  call_less : (target : Target) (position : ℕ) (o : Option ℕ) → units (elim o [ Some g ↦ subroutine_call g | None ↦ ast_call target position ]) ≤ 1
  call_less target position (Some g) = omega arith
  call_less target position None = omega arith

  abbrev Fits : Tree → Result (Tree × ℕ) PositionedFault → Type 0
  Fits t r = IsGood (IsLess t) r

  group_fits : (b : Bool) (e : Tree) (name : Option Text) (position : ℕ) (x y : Result (Tree × ℕ) PositionedFault) → Fits e x → Fits e y →
      Fits (ast_group name e position) (cond b (x ⨟ λ found. Ok (group found.0, found.1)) y)
  group_fits true e name position x y h k = and_then (IsLess e) (IsLess (ast_group name e position)) x _ h (λ a less. omega (arith, less))
  group_fits false e name position x (Ok y) h k = omega (arith, k)
  group_fits false e name position x (Err y) h k = tt

  leaf : (t : Tree) (n : ℕ) → IsLess t (t, n)
  leaf t n = le_refl (units t)

  mutual
    pub resolved_fits : (n : ℕ) (t : Tree) → Fits t (resolved ignored group_named n t)
    resolved_fits n (ast_group name e position) =
        group_fits (counts ignored name) e name position _ _ (resolved_fits (suc n) e) (resolved_fits n e)
    resolved_fits n (group e) = and_then (IsLess e) (IsLess (group e)) _ _ (resolved_fits (suc n) e) (λ a less. omega (arith, less))
    resolved_fits n (ast_backref target casei level position) =
        and_then Any (IsLess (ast_backref target casei level position)) _ _ (all_good (group_target group_named (Some n) n position target)) (λ g any. backref_less level casei g)
    resolved_fits n (ast_condition target level position) =
        and_then Any (IsLess (ast_condition target level position)) _ _ (all_good (group_target group_named None n position target)) (λ g any. leaf (backref_exists g level) n)
    resolved_fits n (ast_call target position) = call_less target position (call_target group_named n target)
    resolved_fits n (concat es) = and_then (AreLess es) (IsLess (concat es)) _ _ (all_fit n es) (λ a less. omega (arith, less.0))
    resolved_fits n (alt es) = and_then (AreLess es) (IsLess (alt es)) _ _ (all_fit n es) (λ a less. omega (arith, less.1))
    resolved_fits n (look_around e k) = and_then (IsLess e) (IsLess (look_around e k)) _ _ (resolved_fits n e) (λ a less. omega (arith, less))
    resolved_fits n (repeat e lo hi greedy) = and_then (IsLess e) (IsLess (repeat e lo hi greedy)) _ _ (resolved_fits n e) (λ a less. omega (arith, less))
    resolved_fits n (atomic_group e) = and_then (IsLess e) (IsLess (atomic_group e)) _ _ (resolved_fits n e) (λ a less. omega (arith, less))
    resolved_fits n (conditional c a b) =
        and_then (IsLess c) (IsLess (conditional c a b)) _ _ (resolved_fits n c)
        (λ x l. and_then (IsLess a) (IsLess (conditional c a b)) _ _ (resolved_fits x.1 a)
        (λ y m. and_then (IsLess b) (IsLess (conditional c a b)) _ _ (resolved_fits y.1 b)
        (λ z r. omega (arith, l, m, r))))
    resolved_fits n (absent_expression e d) =
        and_then (IsLess e) (IsLess (absent_expression e d)) _ _ (resolved_fits n e)
        (λ x l. and_then (IsLess d) (IsLess (absent_expression e d)) _ _ (resolved_fits x.1 d) (λ y m. omega (arith, l, m)))
    resolved_fits n (absent_repeater e) = and_then (IsLess e) (IsLess (absent_repeater e)) _ _ (resolved_fits n e) (λ a less. omega (arith, less))
    resolved_fits n (absent_stopper e) = and_then (IsLess e) (IsLess (absent_stopper e)) _ _ (resolved_fits n e) (λ a less. omega (arith, less))
    resolved_fits n (define_group e) = and_then (IsLess e) (IsLess (define_group e)) _ _ (resolved_fits n e) (λ a less. omega (arith, less))
    resolved_fits n empty = leaf empty n
    resolved_fits n (any newline crlf) = leaf (any newline crlf) n
    resolved_fits n (assertion a) = leaf (assertion a) n
    resolved_fits n (general_newline unicode) = leaf (general_newline unicode) n
    resolved_fits n (literal val casei) = leaf (literal val casei) n
    resolved_fits n (literal_bytes bs) = leaf (literal_bytes bs) n
    resolved_fits n (delegate inner casei) = leaf (delegate inner casei) n
    resolved_fits n (backref g casei) = leaf (backref g casei) n
    resolved_fits n (backref_with_level g level casei) = leaf (backref_with_level g level casei) n
    resolved_fits n keep_out = leaf keep_out n
    resolved_fits n continue = leaf continue n
    resolved_fits n (backref_exists g level) = leaf (backref_exists g level) n
    resolved_fits n (subroutine_call g) = leaf (subroutine_call g) n
    resolved_fits n (verb v) = leaf (verb v) n
    resolved_fits n absent_clear = leaf absent_clear n

    all_fit : (n : ℕ) (ts : Trees) → IsGood (AreLess ts) (all_resolved ignored group_named n ts)
    all_fit n no_trees = (le_refl 0, le_refl 0)
    all_fit n (more_trees e es) =
        and_then (IsLess e) (AreLess (more_trees e es)) _ _ (resolved_fits n e)
        (λ x l. and_then (AreLess es) (AreLess (more_trees e es)) _ _ (all_fit x.1 es)
        (λ y m. (omega (arith, l, m.0), omega (arith, l, m.1))))
