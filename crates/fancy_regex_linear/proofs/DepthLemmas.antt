-- The depth of a tree by the trees below it, and that of a tree with its calls written out.
use Rattle.std.proofs.Common.{◌≡◌, ℕ, zero, suc, ◌+◌, ◌-◌, ◌*◌, ◌≤◌, ◌==◌, max, Bool, true, false, List, length, Option, Some, None, if◌then◌else◌, refl, ap, true≢false, arith}
use Rattle.std.proofs.Math.Nat.{mul-le-mul_right}
use Rattle.fancy_regex_tree.specs.Tree.{Tree, Trees, no_trees, more_trees, concat, alt, group, look_around, repeat, atomic_group, conditional, subroutine_call}
use Rattle.fancy_regex_tree.specs.Tree.{absent_repeater, absent_expression, absent_stopper, define_group, ast_group}
use Rattle.fancy_regex_tree.specs.Traversal.{listed, subtrees}
use Rattle.fancy_regex_tree.specs.Bounds.{depth, depth_of, max_depth}
use Rattle.fancy_regex_meaning.specs.Sizes.{unbounded, bound_of, target, may_be_empty, repeat_weight}
use Rattle.fancy_regex_linear.specs.Plain.{has_no_iteration}
use Rattle.fancy_regex_linear.specs.Calls.{greatest_nesting, weight_with, weights_with, body_weight, call_weight, written_weight}

deepest_listed : (ts : Trees) → depth_of ts ≡ max_depth (listed ts)
deepest_listed no_trees = refl
deepest_listed (more_trees t ts) = ap (max (depth t)) (deepest_listed ts)

-- a node is one deeper than the deepest tree below it
pub depth_by_parts : (t : Tree) → depth t ≡ suc (max_depth (subtrees t))
depth_by_parts (concat ts) = ap suc (deepest_listed ts)
depth_by_parts (alt ts) = ap suc (deepest_listed ts)
depth_by_parts (group t) = omega arith
depth_by_parts (look_around t how) = omega arith
depth_by_parts (repeat t lo hi greedy) = omega arith
depth_by_parts (atomic_group t) = omega arith
depth_by_parts (conditional c a b) = omega arith
depth_by_parts (absent_repeater t) = omega arith
depth_by_parts (absent_expression a t) = omega arith
depth_by_parts (absent_stopper t) = omega arith
depth_by_parts (define_group t) = omega arith
depth_by_parts (ast_group name t position) = omega arith
depth_by_parts t = refl

-- The depth of a tree with its calls written out, where that of calls is given. A definition and what is repeated no times become one node.
unfoldable mutual
  pub depth_with : (ℕ → ℕ) → Tree → ℕ
  depth_with call (subroutine_call j) = call j
  depth_with call (concat ts) = suc (depths_with call ts)
  depth_with call (alt ts) = suc (depths_with call ts)
  depth_with call (group t) = suc (depth_with call t)
  depth_with call (look_around t how) = suc (depth_with call t)
  depth_with call (repeat t lo hi greedy) = if has_no_iteration lo hi then 1 else suc (depth_with call t)
  depth_with call (atomic_group t) = suc (depth_with call t)
  depth_with call (conditional c a b) = suc (max (depth_with call c) (max (depth_with call a) (depth_with call b)))
  depth_with call t = 1

  pub depths_with : (ℕ → ℕ) → Trees → ℕ
  depths_with call no_trees = 0
  depths_with call (more_trees t ts) = max (depth_with call t) (depths_with call ts)

-- over the bodies of all groups
module _ (groups : List Tree) where
  -- the depth of a call, which is that of the body of its group, where calls nest at most so deep
  unfoldable pub call_depth : ℕ → ℕ → ℕ
  call_depth zero j = 1
  call_depth (suc level) j = elim (target groups j) [ None ↦ 1 | Some body ↦ depth_with (call_depth level) body ]

  abbrev pub written_depth : Tree → ℕ
  written_depth = depth_with (call_depth (greatest_nesting (length groups)))

  -- a repeat that has an iteration weighs no less than its body
  finite_heavy : (lo hi w : ℕ) (may : Bool) → has_no_iteration lo hi ≡ false → w ≤ repeat_weight groups lo (Some hi) w may
  finite_heavy zero zero w may made = absurd (true≢false made)
  finite_heavy zero (suc hi) w may made = omega (arith, mul-le-mul_right {m = 1} {n = suc hi - 0} (w + 3) (omega arith))
  finite_heavy (suc lo) hi w may made = omega (arith, mul-le-mul_right {m = 1} {n = suc lo} w (omega arith))

  endless_heavy : (lo w : ℕ) (may : Bool) → w ≤ repeat_weight groups lo None w may
  endless_heavy lo w true = omega (arith, mul-le-mul_right {m = 1} {n = lo + 2} w (omega arith))
  endless_heavy lo w false = omega (arith, mul-le-mul_right {m = 1} {n = max lo 1} w (omega arith))

  repeat_heavy : (lo hi w : ℕ) (may : Bool) → has_no_iteration lo hi ≡ false → w ≤ repeat_weight groups lo (bound_of hi) w may
  repeat_heavy lo hi w may made = by_bound (hi == unbounded)
    where
      by_bound : (b : Bool) → w ≤ repeat_weight groups lo (if b then None else Some hi) w may
      by_bound true = endless_heavy lo w may
      by_bound false = finite_heavy lo hi w may made

  repeat_low : (lo hi w d e : ℕ) (may none : Bool) → has_no_iteration lo hi ≡ none → 2 * e ≤ w + 2 * d
      → 2 * (if none then 1 else suc e) ≤ repeat_weight groups lo (bound_of hi) w may + 2 * suc d
  repeat_low lo hi w d e may true made h = omega arith
  repeat_low lo hi w d e may false made h = omega (arith, h, repeat_heavy lo hi w may made)

  module _ (call deep : ℕ → ℕ) (calls : (j : ℕ) → 2 * deep j ≤ call j + 2) where
    mutual
      unfolding weight_with depth_with

      low_with : (t : Tree) → 2 * depth_with deep t ≤ weight_with groups call t + 2 * depth t
      low_with (subroutine_call j) = omega (arith, calls j)
      low_with (concat ts) = omega (arith, lows_with ts)
      low_with (alt ts) = omega (arith, lows_with ts)
      low_with (group t) = omega (arith, low_with t)
      low_with (look_around t how) = omega (arith, low_with t)
      low_with (repeat t lo hi greedy) =
          repeat_low lo hi (weight_with groups call t) (depth t) (depth_with deep t) (may_be_empty groups t) (has_no_iteration lo hi) refl (low_with t)
      low_with (atomic_group t) = omega (arith, low_with t)
      low_with (conditional c a b) = omega (arith, low_with c, low_with a, low_with b)
      low_with t = omega arith

      lows_with : (ts : Trees) → 2 * depths_with deep ts ≤ weights_with groups call ts + 2 * depth_of ts
      lows_with no_trees = omega arith
      lows_with (more_trees t ts) = omega (arith, low_with t, lows_with ts)

  call_low : (level j : ℕ) → 2 * call_depth level j ≤ call_weight groups level j + 2
  unfolding call_depth call_weight
  call_low zero j = omega arith
  call_low (suc level) j = of_target (call_low level) (target groups j)
    where
      of_target : ((i : ℕ) → 2 * call_depth level i ≤ call_weight groups level i + 2) → (o : Option Tree)
          → 2 * elim o [ None ↦ 1 | Some body ↦ depth_with (call_depth level) body ]
          ≤ elim o [ None ↦ 1 | Some body ↦ body_weight groups (call_weight groups level) body ] + 2
      of_target below None = omega arith
      of_target below (Some body) = omega (arith, low_with (call_weight groups level) (call_depth level) below body)

  -- So a tree with its calls written out is no deeper than the tree that is read and half of its weight.
  pub written_low : (t : Tree) → 2 * written_depth t ≤ written_weight groups t + 2 * depth t
  written_low =
      let n = greatest_nesting (length groups) in
      low_with (call_weight groups n) (call_depth n) (call_low n)
