-- The group that a signed reference names.
use Rattle.std.proofs.Common.{◌≡◌, ℕ, zero, suc, ◌+◌, ◌-◌, ◌<◌, ◌≤◌, ◌⊎◌, inl, inr, ℤ, pos, negsuc, nat_abs, min, true, false, Some, None, nat_lt, refl, ap, arith, int_lt}
use Rattle.std.proofs.lemmas.Bool.{ltb-false, le-ltb, lt-ltb}
use Rattle.fancy_regex_tree.specs.Numbering.{relative_number}

pub ahead : (n k : ℕ) (z : ℤ) → int_lt (pos 0) z ≡ true → k ≡ nat_abs z → Some (min (n + k) 18446744073709551615) ≡ relative_number n z
unfolding relative_number
ahead n k (pos zero) h e = cc
ahead n k (pos (suc j)) h e = ap (λ m. Some (min (n + m) 18446744073709551615)) e
ahead n k (negsuc j) h e = cc

pub none_there : (n k : ℕ) (z : ℤ) → int_lt (pos 0) z ≡ false → k ≡ nat_abs z → (k ≡ 0) ⊎ (n < k) → None ≡ relative_number n z
unfolding relative_number
none_there n k (pos zero) h e far = refl
none_there n k (pos (suc j)) h e far = absurd (omega (arith, ltb-false 0 (suc j) h))
none_there n k (negsuc j) h e (inl none) = cc
none_there n k (negsuc j) h e (inr far) = let past : nat_lt j n ≡ false = le-ltb j n (omega (arith, e, far)) in rw past refl

pub after_here : (n k : ℕ) (z : ℤ) → int_lt (pos 0) z ≡ false → k ≡ nat_abs z → (k ≡ 0 → ⊥) → k ≤ n → Some (n - k + 1) ≡ relative_number n z
unfolding relative_number
after_here n k (pos zero) h e some near = absurd (some e)
after_here n k (pos (suc j)) h e some near = absurd (omega (arith, ltb-false 0 (suc j) h))
after_here n k (negsuc j) h e some near =
    let here : nat_lt j n ≡ true = lt-ltb j n (omega (arith, e, near)) in
    let same : n - k + 1 ≡ n - j = omega (arith, e, near) in
    rw here (ap Some same)
