-- How much is left to be looked at while places are marked that are reachable.
use Rattle.std.proofs.Common.{◌≡◌, ℕ, zero, suc, ◌+◌, ◌<◌, Bool, true, false, cond, List, [], ◌∷◌, length, get_or, set, Vec, vec_len, Global, arith}

-- for each place that is not marked the edges from it, and one
unfoldable pub left : List Bool → List (Vec ℕ Global) → ℕ
left [] vs = 0
left (b ∷ bs) [] = 0
left (b ∷ bs) (v ∷ vs) = cond b 0 (vec_len v + 1) + left bs vs

-- A place that is marked takes its edges off.
pub left_marked : (bs : List Bool) (vs : List (Vec ℕ Global)) (k : ℕ) (d : Bool) (v : Vec ℕ Global) → length bs ≡ length vs → k < length bs →
    get_or bs k d ≡ false → v ≡ get_or vs k v → left (set bs k true) vs + (vec_len v + 1) ≡ left bs vs
unfolding left
left_marked [] vs k d v same inside fails is = absurd (omega arith)
left_marked (b ∷ bs) [] k d v same inside fails is = absurd (omega arith)
left_marked (b ∷ bs) (w ∷ vs) zero d v same inside fails is = rw (fails, is) (omega arith)
left_marked (b ∷ bs) (w ∷ vs) (suc k) d v same inside fails is =
    let rest : left (set bs k true) vs + (vec_len v + 1) ≡ left bs vs = left_marked bs vs k d v (omega arith) (omega arith) fails is in
    omega (arith, rest)
