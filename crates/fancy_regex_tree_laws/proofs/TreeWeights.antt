-- A tree without counted repeats weighs no more than its units.
use Rattle.std.proofs.Common.{◌≡◌, ⊎_elim, ℕ, ◌+◌, ◌-◌, ◌*◌, ◌≤◌, max, Bool, false, List, arith, zero, suc, ne_eqb, eq-eqb}
use Rattle.fancy_regex_tree.specs.Tree.{Tree, Trees, empty, any, assertion, general_newline, literal, literal_bytes, concat, alt, group, look_around, repeat, delegate, backref}
use Rattle.fancy_regex_tree.specs.Tree.{backref_with_level, atomic_group, keep_out, continue, backref_exists, conditional, subroutine_call, verb, absent_repeater, absent_expression}
use Rattle.fancy_regex_tree.specs.Tree.{absent_stopper, absent_clear, define_group, ast_group, ast_backref, ast_call, ast_condition, no_trees, more_trees}
use Rattle.fancy_regex_meaning.specs.Sizes.{unbounded, bound_of, may_be_empty, repeat_weight, weight, weights, branch_gaps}
use Rattle.fancy_regex_tree_laws.specs.UncountedRepeats.{HasNoCountedRepeats, HaveNoCountedRepeats}
use Rattle.fancy_regex_tree_laws.proofs.WeightUnits.{units, units_of, branch_units}

module _ (groups : List Tree) where
  -- a repeat up to one, and an unbounded one of what is never empty
  counted : (lo hi w v : ℕ) → lo ≤ 1 → hi ≤ 1 → w ≤ v → max 1 (lo * w + (hi - lo) * (w + 3)) ≤ v + 3
  counted zero zero w v h k l = omega (arith, l)
  counted zero (suc zero) w v h k l = omega (arith, l)
  counted (suc zero) zero w v h k l = omega (arith, l)
  counted (suc zero) (suc zero) w v h k l = omega (arith, l)
  counted (suc (suc lo)) hi w v h k l = absurd (omega (arith, h))
  counted zero (suc (suc hi)) w v h k l = absurd (omega (arith, k))
  counted (suc zero) (suc (suc hi)) w v h k l = absurd (omega (arith, k))

  up_to_one : (lo hi w v : ℕ) (b : Bool) → lo ≤ 1 → hi ≤ 1 → w ≤ v → repeat_weight groups lo (bound_of hi) w b ≤ v + 3
  up_to_one lo hi w v b h k l = rw (ne_eqb hi unbounded (omega (arith, k))) (counted lo hi w v h k l)

  looped : (lo w v : ℕ) → lo ≤ 1 → w ≤ v → max lo 1 * w + 3 ≤ v + 3
  looped zero w v h l = omega (arith, l)
  looped (suc zero) w v h l = omega (arith, l)
  looped (suc (suc lo)) w v h l = absurd (omega (arith, h))

  endless : (lo hi w v : ℕ) (b : Bool) → lo ≤ 1 → hi ≡ unbounded → b ≡ false → w ≤ v → repeat_weight groups lo (bound_of hi) w b ≤ v + 3
  endless lo hi w v b h is never l = rw (eq-eqb hi unbounded is, never) (looped lo w v h l)

  mutual
    unfolding weight

    pub weighs : (t : Tree) → HasNoCountedRepeats groups t → weight groups t ≤ units t
    weighs empty h = omega arith
    weighs (any newline crlf) h = omega arith
    weighs (assertion a) h = omega arith
    weighs (general_newline unicode) h = omega arith
    weighs (literal val casei) h = omega arith
    weighs (literal_bytes bs) h = omega arith
    weighs (delegate inner casei) h = omega arith
    weighs (backref g casei) h = omega arith
    weighs (backref_with_level g level casei) h = omega arith
    weighs keep_out h = omega arith
    weighs continue h = omega arith
    weighs (backref_exists g level) h = omega arith
    weighs (subroutine_call g) h = omega arith
    weighs (verb v) h = omega arith
    weighs absent_clear h = omega arith
    weighs (ast_backref target casei level position) h = omega arith
    weighs (ast_call target position) h = omega arith
    weighs (ast_condition target level position) h = omega arith
    weighs (concat ts) h = omega (arith, row_weighs ts h)
    weighs (alt ts) h = omega (arith, branches_weigh ts h)
    weighs (repeat t lo hi greedy) h =
        let inner = weighs t h.2 in
        ⊎_elim
        (λ few. up_to_one lo hi (weight groups t) (units t) (may_be_empty groups t) h.0 few inner)
        (λ all. endless lo hi (weight groups t) (units t) (may_be_empty groups t) h.0 all.0 all.1 inner)
        h.1
    weighs (group t) h = omega (arith, weighs t h)
    weighs (look_around t how) h = omega (arith, weighs t h)
    weighs (atomic_group t) h = omega (arith, weighs t h)
    weighs (absent_repeater t) h = omega (arith, weighs t h)
    weighs (absent_stopper t) h = omega (arith, weighs t h)
    weighs (define_group t) h = omega (arith, weighs t h)
    weighs (ast_group name t position) h = omega (arith, weighs t h)
    weighs (conditional c a b) h = omega (arith, weighs c h.0, weighs a h.1, weighs b h.2)
    weighs (absent_expression a t) h = omega (arith, weighs a h.0, weighs t h.1)

    row_weighs : (ts : Trees) → HaveNoCountedRepeats groups ts → weights groups ts ≤ units_of ts
    row_weighs no_trees h = omega arith
    row_weighs (more_trees t ts) h = omega (arith, weighs t h.0, row_weighs ts h.1)

    branches_weigh : (ts : Trees) → HaveNoCountedRepeats groups ts → weights groups ts + 3 * branch_gaps groups ts ≤ branch_units ts - 3
    branches_weigh no_trees h = omega arith
    branches_weigh (more_trees t no_trees) h = omega (arith, weighs t h.0)
    branches_weigh (more_trees t (more_trees u us)) h = omega (arith, weighs t h.0, branches_weigh (more_trees u us) h.1)
