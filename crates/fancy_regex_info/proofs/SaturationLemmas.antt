-- Sums and products that stop at the greatest number.
use Rattle.std.proofs.Common.{◌≡◌, ℕ, zero, suc, ◌+◌, ◌-◌, ◌*◌, ◌<◌, ◌≤◌, min, max, Bool, true, false, not, ◌&&◌, ◌||◌}
use Rattle.std.proofs.Common.{◌==◌, if◌then◌else◌, Some, None, List, ⊎_elim, refl, ap, ap₂, ◌∙◌, arith, mul_comm}
use Rattle.std.proofs.Math.Nat.{mul-le-mul_left}
use Rattle.std.proofs.lemmas.Bool.{cases_lt}
use Rattle.fancy_regex_tree.specs.Tree.{Tree}
use Rattle.fancy_regex_meaning.specs.Sizes.{unbounded, bound_of, add, times, repeat_weight}
use Rattle.fancy_regex_info.specs.PropertyRules.{loop_weight, finite_weight}

-- sums and products that stop at the greatest number
pub stop_add : (a b : ℕ) → add (min unbounded a) (min unbounded b) ≡ min unbounded (a + b)
stop_add a b = omega arith

pub stop_more : (a k : ℕ) → k ≤ 9 → add (min unbounded a) k ≡ min unbounded (a + k)
stop_more a k h = omega arith

same_stop : (l a : ℕ) → l * unbounded ≤ l * a → times l unbounded ≡ min unbounded (l * a)
same_stop zero a h = omega arith
same_stop (suc l) a h = omega (arith, h)

stop_times : (l a : ℕ) → times l (min unbounded a) ≡ min unbounded (l * a)
stop_times l a =
    ⊎_elim
    (λ (h : a < unbounded). let same : min unbounded a ≡ a = omega arith in ap (times l) same)
    (λ (h : unbounded ≤ a).
    let same : min unbounded a ≡ unbounded = omega arith in
    let below : l * unbounded ≤ l * a = mul-le-mul_left l h in
    ap (times l) same ∙ same_stop l a below)
    (cases_lt a unbounded)

stop_both : (l a : ℕ) → times (min unbounded l) (min unbounded a) ≡ min unbounded (l * a)
stop_both l a =
    ap (min unbounded) (mul_comm (min unbounded l) (min unbounded a)) ∙ stop_times (min unbounded a) l
    ∙ ap (min unbounded) (mul_comm (min unbounded a) l) ∙ stop_times l a

pub not_and : (e r : Bool) → (not e || r) ≡ not (e && not r)
not_and true true = refl
not_and true false = refl
not_and false r = refl

pub stop_one : (a : ℕ) → add 1 (min unbounded a) ≡ min unbounded (1 + a)
stop_one a = omega arith

loop_stops : (groups : List Tree) (lo w : ℕ) (may : Bool) → loop_weight lo (min unbounded w) may ≡ min unbounded (repeat_weight groups lo None w may)
loop_stops groups lo w true =
    ap (λ x. add x 4) (stop_both (lo + 2) w) ∙ stop_more ((lo + 2) * w) 4 (omega arith)
loop_stops groups lo w false = ap (λ x. add x 3) (stop_times (max lo 1) w) ∙ stop_more (max lo 1 * w) 3 (omega arith)

finite_stops : (groups : List Tree) (lo hi w : ℕ) (may : Bool) → finite_weight lo hi (min unbounded w) ≡ min unbounded (repeat_weight groups lo (Some hi) w may)
finite_stops groups lo hi w may =
    ap (max 1)
    (ap₂ add (stop_times lo w) (ap (times (hi - lo)) (stop_more w 3 (omega arith)) ∙ stop_times (hi - lo) (w + 3))
    ∙ stop_add (lo * w) ((hi - lo) * (w + 3)))
    ∙ omega arith

pub repeat_stops : (groups : List Tree) (lo hi w : ℕ) (may : Bool) →
    (if hi == unbounded then loop_weight lo (min unbounded w) may else finite_weight lo hi (min unbounded w))
    ≡ min unbounded (repeat_weight groups lo (bound_of hi) w may)
repeat_stops groups lo hi w may = by_bound (hi == unbounded)
  where
    by_bound : (b : Bool) →
        (if b then loop_weight lo (min unbounded w) may else finite_weight lo hi (min unbounded w))
        ≡ min unbounded (repeat_weight groups lo (if b then None else Some hi) w may)
    by_bound true = loop_stops groups lo w may
    by_bound false = finite_stops groups lo hi w may
