-- Resolving references adds no node and no depth, and its faults lie at positions that stand in the tree.
use Rattle.std.proofs.Common.{ℕ, suc, ◌≤◌, max, Bool, true, false, cond, Option, Some, None, Result, Ok, Err, ℤ, le_refl, arith}
use Rattle.std.proofs.Math.Nat.{le-max_left, le-max_right, max-le}
use Rattle.fancy_regex_tree.specs.Tree.{Text, Tree, Trees, Target, by_number, by_name, relative, empty, any, assertion, general_newline, literal, literal_bytes, concat, alt, group}
use Rattle.fancy_regex_tree.specs.Tree.{look_around, repeat, delegate, backref, backref_with_level, atomic_group, keep_out, continue, backref_exists, conditional, subroutine_call, verb}
use Rattle.fancy_regex_tree.specs.Tree.{absent_repeater, absent_expression, absent_stopper, absent_clear, define_group, ast_group, ast_backref, ast_call, ast_condition, no_trees}
use Rattle.fancy_regex_tree.specs.Tree.{more_trees}
use Rattle.fancy_regex_tree.specs.Bounds.{nodes, nodes_of, depth, depth_of}
use Rattle.fancy_regex_tree.specs.Numbering.{PositionedFault, ◌⨟◌, counts, backref_of, relative_number, is_within, named_target, group_target, call_target, resolved, all_resolved}
use Rattle.fancy_regex_tree.specs.Positions.{HasPositionsWithin, HavePositionsWithin}

-- what is answered has the property, or the fault is inside this size
abbrev pub IsGood : {A : Type 0} → ℕ → (A → Type 0) → Result A PositionedFault → Type 0
IsGood size P (Ok a) = P a
IsGood size P (Err e) = e.position ≤ size

pub and_then : {A B : Type 0} (size : ℕ) (P : A → Type 0) (Q : B → Type 0) (r : Result A PositionedFault) (f : A → Result B PositionedFault) →
    IsGood size P r → ((a : A) → P a → IsGood size Q (f a)) → IsGood size Q (r ⨟ f)
and_then size P Q (Ok a) f h k = k a h
and_then size P Q (Err e) f h k = h

-- no more nodes and no longer paths than the tree
abbrev pub IsLess : Tree → Tree × ℕ → Type 0
IsLess t x = (nodes x.0 ≤ nodes t) × (depth x.0 ≤ depth t)

abbrev AreLess : Trees → Trees × ℕ → Type 0
AreLess ts x = (nodes_of x.0 ≤ nodes_of ts) × (depth_of x.0 ≤ depth_of ts)

max_both : (a b c d : ℕ) → a ≤ c → b ≤ d → max a b ≤ max c d
max_both a b c d h k = max-le (omega (arith, h, le-max_left c d)) (omega (arith, k, le-max_right c d))

-- there is nothing to show of a number
abbrev Any : {A : Type 0} → A → Type 0
Any a = Unit {0}

option_good : (size position : ℕ) (kind : _) → position ≤ size → (o : Option ℕ) → IsGood size Any (elim o [ Some g ↦ Ok g | None ↦ Err (record { kind = kind; position = position }) ])
option_good size position kind h (Some g) = tt
option_good size position kind h None = h

if_good : (size : ℕ) (b : Bool) (x y : Result ℕ PositionedFault) → IsGood size Any x → IsGood size Any y → IsGood size Any (cond b x y)
if_good size true x y h k = h
if_good size false x y h k = k

limited_good : (size : ℕ) (limit : Option ℕ) (o : Option ℕ) (position : ℕ) (name : Text) → position ≤ size → IsGood size Any (named_target limit o position name)
limited_good size limit None position name h = h
limited_good size limit (Some g) position name h = if_good size (is_within limit g) _ _ tt h

module _ (size : ℕ) (ignored : Bool) (group_named : Text → Option ℕ) where
  target_good : (limit : Option ℕ) (n position : ℕ) (target : Target) → position ≤ size → IsGood size Any (group_target group_named limit n position target)
  target_good limit n position (by_number k) h = tt
  target_good limit n position (relative k) h = option_good size position _ h (relative_number n k)
  target_good limit n position (by_name name) h = limited_good size limit (group_named name) position name h

  backref_less : (level : Option ℤ) (casei : Bool) (g : ℕ) → (nodes (backref_of level casei g) ≤ 1) × (depth (backref_of level casei g) ≤ 1)
  backref_less None casei g = (omega arith, omega arith)
  backref_less (Some level) casei g = (omega arith, omega arith)

  call_less : (target : Target) (position : ℕ) (o : Option ℕ) →
      (nodes (elim o [ Some g ↦ subroutine_call g | None ↦ ast_call target position ]) ≤ 1)
      × (depth (elim o [ Some g ↦ subroutine_call g | None ↦ ast_call target position ]) ≤ 1)
  call_less target position (Some g) = (omega arith, omega arith)
  call_less target position None = (omega arith, omega arith)

  grown : {a b : ℕ} → a ≤ b → suc a ≤ suc b
  grown h = omega (arith, h)

  below : {a b : ℕ} → a ≤ b → a ≤ suc b
  below h = omega (arith, h)

  abbrev Fits : Tree → Result (Tree × ℕ) PositionedFault → Type 0
  Fits t r = IsGood size (IsLess t) r

  group_fits : (b : Bool) (e : Tree) (name : Option Text) (position : ℕ) (x y : Result (Tree × ℕ) PositionedFault) → Fits e x → Fits e y →
      Fits (ast_group name e position) (cond b (x ⨟ λ found. Ok (group found.0, found.1)) y)
  group_fits true e name position x y h k = and_then size (IsLess e) (IsLess (ast_group name e position)) x _ h (λ a less. (grown less.0, grown less.1))
  group_fits false e name position (Ok x) (Ok y) h k = (below k.0, below k.1)
  group_fits false e name position (Err x) (Ok y) h k = (below k.0, below k.1)
  group_fits false e name position x (Err y) h k = k

  leaf : (t : Tree) (n : ℕ) → IsLess t (t, n)
  leaf t n = (le_refl (nodes t), le_refl (depth t))

  mutual
    pub resolved_fits : (n : ℕ) (t : Tree) → HasPositionsWithin size t → Fits t (resolved ignored group_named n t)
    resolved_fits n (ast_group name e position) h =
        group_fits (counts ignored name) e name position _ _ (resolved_fits (suc n) e h.1) (resolved_fits n e h.1)
    resolved_fits n (group e) h = and_then size (IsLess e) (IsLess (group e)) _ _ (resolved_fits (suc n) e h) (λ a less. (grown less.0, grown less.1))
    resolved_fits n (ast_backref target casei level position) h =
        and_then size Any (IsLess (ast_backref target casei level position)) _ _ (target_good (Some n) n position target h) (λ g any. backref_less level casei g)
    resolved_fits n (ast_condition target level position) h =
        and_then size Any (IsLess (ast_condition target level position)) _ _ (target_good None n position target h) (λ g any. leaf (backref_exists g level) n)
    resolved_fits n (ast_call target position) h = call_less target position (call_target group_named n target)
    resolved_fits n (concat es) h = and_then size (AreLess es) (IsLess (concat es)) _ _ (all_fit n es h) (λ a less. (grown less.0, grown less.1))
    resolved_fits n (alt es) h = and_then size (AreLess es) (IsLess (alt es)) _ _ (all_fit n es h) (λ a less. (grown less.0, grown less.1))
    resolved_fits n (look_around e k) h =
        and_then size (IsLess e) (IsLess (look_around e k)) _ _ (resolved_fits n e h) (λ a less. (grown less.0, grown less.1))
    resolved_fits n (repeat e lo hi greedy) h =
        and_then size (IsLess e) (IsLess (repeat e lo hi greedy)) _ _ (resolved_fits n e h) (λ a less. (grown less.0, grown less.1))
    resolved_fits n (atomic_group e) h =
        and_then size (IsLess e) (IsLess (atomic_group e)) _ _ (resolved_fits n e h) (λ a less. (grown less.0, grown less.1))
    resolved_fits n (conditional c a b) h =
        and_then size (IsLess c) (IsLess (conditional c a b)) _ _ (resolved_fits n c h.0)
        (λ x l. and_then size (IsLess a) (IsLess (conditional c a b)) _ _ (resolved_fits x.1 a h.1)
        (λ y m. and_then size (IsLess b) (IsLess (conditional c a b)) _ _ (resolved_fits y.1 b h.2)
        (λ z r. (omega (arith, l.0, m.0, r.0), grown (max_both _ _ _ _ l.1 (max_both _ _ _ _ m.1 r.1))))))
    resolved_fits n (absent_repeater e) h =
        and_then size (IsLess e) (IsLess (absent_repeater e)) _ _ (resolved_fits n e h) (λ a less. (grown less.0, grown less.1))
    resolved_fits n (absent_expression e d) h =
        and_then size (IsLess e) (IsLess (absent_expression e d)) _ _ (resolved_fits n e h.0)
        (λ x l. and_then size (IsLess d) (IsLess (absent_expression e d)) _ _ (resolved_fits x.1 d h.1)
        (λ y m. (omega (arith, l.0, m.0), grown (max_both _ _ _ _ l.1 m.1))))
    resolved_fits n (absent_stopper e) h =
        and_then size (IsLess e) (IsLess (absent_stopper e)) _ _ (resolved_fits n e h) (λ a less. (grown less.0, grown less.1))
    resolved_fits n (define_group e) h =
        and_then size (IsLess e) (IsLess (define_group e)) _ _ (resolved_fits n e h) (λ a less. (grown less.0, grown less.1))
    resolved_fits n empty h = leaf empty n
    resolved_fits n (any newline crlf) h = leaf (any newline crlf) n
    resolved_fits n (assertion a) h = leaf (assertion a) n
    resolved_fits n (general_newline unicode) h = leaf (general_newline unicode) n
    resolved_fits n (literal val casei) h = leaf (literal val casei) n
    resolved_fits n (literal_bytes bs) h = leaf (literal_bytes bs) n
    resolved_fits n (delegate inner casei) h = leaf (delegate inner casei) n
    resolved_fits n (backref g casei) h = leaf (backref g casei) n
    resolved_fits n (backref_with_level g level casei) h = leaf (backref_with_level g level casei) n
    resolved_fits n keep_out h = leaf keep_out n
    resolved_fits n continue h = leaf continue n
    resolved_fits n (backref_exists g level) h = leaf (backref_exists g level) n
    resolved_fits n (subroutine_call g) h = leaf (subroutine_call g) n
    resolved_fits n (verb v) h = leaf (verb v) n
    resolved_fits n absent_clear h = leaf absent_clear n

    all_fit : (n : ℕ) (ts : Trees) → HavePositionsWithin size ts → IsGood size (AreLess ts) (all_resolved ignored group_named n ts)
    all_fit n no_trees h = (le_refl 0, le_refl 0)
    all_fit n (more_trees e es) h =
        and_then size (IsLess e) (AreLess (more_trees e es)) _ _ (resolved_fits n e h.0)
        (λ x l. and_then size (AreLess es) (AreLess (more_trees e es)) _ _ (all_fit x.1 es h.1)
        (λ y m. (omega (arith, l.0, m.0), max_both _ _ _ _ l.1 m.1)))
