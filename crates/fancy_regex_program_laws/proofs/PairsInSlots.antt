-- Pairs in slots.
use Rattle.std.proofs.Common.{◌≡◌, ℕ, zero, suc, ◌+◌, ◌*◌, ◌<◌, ◌≤◌, Bool, true, false, List, [], ◌∷◌, length, take, get_or, set, Option, Some, None, refl, sym, ap, ◌∙◌, arith, get_or-set_other}
use Rattle.std.proofs.Math.Seq.{take-set-lt}
use Rattle.fancy_regex_meaning.specs.Ways.{Pairs, MatchState, set_pair, pair_of}
use Rattle.fancy_regex_program.specs.Machine.{unset}
use Rattle.fancy_regex_program.specs.SlotLayout.{slots_of_way}
use Rattle.fancy_regex_class.specs.RunInputs.{group_slots}

pub set_commutes : (xs : List ℕ) (i j a b : ℕ) → (i ≡ j → ⊥) → set (set xs i a) j b ≡ set (set xs j b) i a
set_commutes [] i j a b ne = refl
set_commutes (x ∷ xs) zero zero a b ne = absurd (ne refl)
set_commutes (x ∷ xs) zero (suc j) a b ne = refl
set_commutes (x ∷ xs) (suc i) zero a b ne = refl
set_commutes (x ∷ xs) (suc i) (suc j) a b ne = ap (λ l. x ∷ l) (set_commutes xs i j a b (λ e. ne (ap suc e)))

pub set_twice : (xs : List ℕ) (i a b : ℕ) → set (set xs i a) i b ≡ set xs i b
set_twice [] i a b = refl
set_twice (x ∷ xs) zero a b = refl
set_twice (x ∷ xs) (suc i) a b = ap (λ l. x ∷ l) (set_twice xs i a b)

pub length_flat : (ps : Pairs) → length (group_slots ps) ≡ 2 * length ps
length_flat [] = refl
length_flat (None ∷ ps) = omega (arith, length_flat ps)
length_flat (Some p ∷ ps) = omega (arith, length_flat ps)

flat_set : (ps : Pairs) (k i j a b : ℕ) → k < length ps → i ≡ 2 * k → j ≡ 2 * k + 1 →
    group_slots (set ps k (Some (a, b))) ≡ set (set (group_slots ps) i a) j b
flat_set [] k i j a b lt e f = absurd (omega arith)
flat_set (None ∷ ps) zero zero (suc zero) a b lt e f = refl
flat_set (Some p ∷ ps) zero zero (suc zero) a b lt e f = refl
flat_set (None ∷ ps) (suc k) (suc (suc i)) (suc (suc j)) a b lt e f =
    ap (λ l. unset ∷ unset ∷ l) (flat_set ps k i j a b (omega arith) (omega arith) (omega arith))
flat_set (Some p ∷ ps) (suc k) (suc (suc i)) (suc (suc j)) a b lt e f =
    ap (λ l. p.0 ∷ p.1 ∷ l) (flat_set ps k i j a b (omega arith) (omega arith) (omega arith))
flat_set (p ∷ ps) zero (suc i) j a b lt e f = absurd (omega arith)
flat_set (p ∷ ps) zero zero zero a b lt e f = absurd (omega arith)
flat_set (p ∷ ps) zero zero (suc (suc j)) a b lt e f = absurd (omega arith)
flat_set (p ∷ ps) (suc k) zero j a b lt e f = absurd (omega arith)
flat_set (p ∷ ps) (suc k) (suc zero) j a b lt e f = absurd (omega arith)
flat_set (p ∷ ps) (suc k) (suc (suc i)) zero a b lt e f = absurd (omega arith)
flat_set (p ∷ ps) (suc k) (suc (suc i)) (suc zero) a b lt e f = absurd (omega arith)

abbrev pub start_of : Option (ℕ × ℕ) → ℕ
start_of None = unset
start_of (Some p) = p.0

abbrev pub end_of : Option (ℕ × ℕ) → ℕ
end_of None = unset
end_of (Some p) = p.1

flat_start : (ps : Pairs) (k i : ℕ) → k < length ps → i ≡ 2 * k → get_or (group_slots ps) i 0 ≡ start_of (get_or ps k None)
flat_start [] k i lt e = absurd (omega arith)
flat_start (None ∷ ps) zero zero lt e = refl
flat_start (Some p ∷ ps) zero zero lt e = refl
flat_start (None ∷ ps) (suc k) (suc (suc i)) lt e = flat_start ps k i (omega arith) (omega arith)
flat_start (Some p ∷ ps) (suc k) (suc (suc i)) lt e = flat_start ps k i (omega arith) (omega arith)
flat_start (p ∷ ps) zero (suc i) lt e = absurd (omega arith)
flat_start (p ∷ ps) (suc k) zero lt e = absurd (omega arith)
flat_start (p ∷ ps) (suc k) (suc zero) lt e = absurd (omega arith)

flat_end : (ps : Pairs) (k i : ℕ) → k < length ps → i ≡ 2 * k + 1 → get_or (group_slots ps) i 0 ≡ end_of (get_or ps k None)
flat_end [] k i lt e = absurd (omega arith)
flat_end (None ∷ ps) zero (suc zero) lt e = refl
flat_end (Some p ∷ ps) zero (suc zero) lt e = refl
flat_end (None ∷ ps) (suc k) (suc (suc i)) lt e = flat_end ps k i (omega arith) (omega arith)
flat_end (Some p ∷ ps) (suc k) (suc (suc i)) lt e = flat_end ps k i (omega arith) (omega arith)
flat_end (p ∷ ps) zero zero lt e = absurd (omega arith)
flat_end (p ∷ ps) zero (suc (suc i)) lt e = absurd (omega arith)
flat_end (p ∷ ps) (suc k) zero lt e = absurd (omega arith)
flat_end (p ∷ ps) (suc k) (suc zero) lt e = absurd (omega arith)

-- the slots of a pair, but for those of a whole
pub laid_start : (whole : Bool) (w : MatchState) (k : ℕ) → (whole ≡ true → 1 ≤ k) → k < length w.pairs →
    get_or (slots_of_way whole w) (2 * k) 0 ≡ start_of (pair_of w k)
laid_start false w k apart lt = flat_start w.pairs k (2 * k) lt refl
laid_start true w k apart lt =
    let far = apart refl in
    let ne : 2 * k ≡ 0 → ⊥ = λ (e : 2 * k ≡ 0). omega arith in
    get_or-set_other (group_slots w.pairs) 0 (2 * k) w.match_start 0 ne ∙ flat_start w.pairs k (2 * k) lt refl

pub laid_end : (whole : Bool) (w : MatchState) (k : ℕ) → (whole ≡ true → 1 ≤ k) → k < length w.pairs →
    get_or (slots_of_way whole w) (2 * k + 1) 0 ≡ end_of (pair_of w k)
laid_end false w k apart lt = flat_end w.pairs k (2 * k + 1) lt refl
laid_end true w k apart lt =
    let far = apart refl in
    let ne : 2 * k + 1 ≡ 0 → ⊥ = λ (e : 2 * k + 1 ≡ 0). omega arith in
    get_or-set_other (group_slots w.pairs) 0 (2 * k + 1) w.match_start 0 ne ∙ flat_end w.pairs k (2 * k + 1) lt refl

laid_set : (whole : Bool) (v : MatchState) (k a b : ℕ) → (whole ≡ true → 1 ≤ k) → k < length v.pairs →
    set (set (slots_of_way whole v) (2 * k) a) (2 * k + 1) b ≡ slots_of_way whole (set_pair k (a, b) v)
laid_set false v k a b apart lt = sym (flat_set v.pairs k (2 * k) (2 * k + 1) a b lt refl refl)
laid_set true v k a b apart lt =
    let far = apart refl in
    let ne : 0 ≡ 2 * k → ⊥ = λ (e : 0 ≡ 2 * k). omega arith in
    let ne1 : 0 ≡ 2 * k + 1 → ⊥ = λ (e : 0 ≡ 2 * k + 1). omega arith in
    ap (λ l. set l (2 * k + 1) b) (set_commutes (group_slots v.pairs) 0 (2 * k) v.match_start a ne)
    ∙ set_commutes (set (group_slots v.pairs) (2 * k) a) 0 (2 * k + 1) v.match_start b ne1
    ∙ ap (λ l. set l 0 v.match_start) (sym (flat_set v.pairs k (2 * k) (2 * k + 1) a b lt refl refl))

-- the slots after a pair is written
pub take_pair : (whole : Bool) (count : ℕ) (n : List ℕ) (v : MatchState) (k a b : ℕ) → (whole ≡ true → 1 ≤ k) → k < count → length v.pairs ≡ count →
    take (2 * count) n ≡ slots_of_way whole v → take (2 * count) (set (set n (2 * k) a) (2 * k + 1) b) ≡ slots_of_way whole (set_pair k (a, b) v)
take_pair whole count n v k a b apart lt many fits =
    take-set-lt (2 * count) (set n (2 * k) a) (2 * k + 1) b (omega arith)
    ∙ ap (λ x. set x (2 * k + 1) b) (take-set-lt (2 * count) n (2 * k) a (omega arith) ∙ ap (λ x. set x (2 * k) a) fits)
    ∙ laid_set whole v k a b apart (omega arith)

-- the slots after the start is kept
pub take_kept : (count : ℕ) (n : List ℕ) (v : MatchState) (p : ℕ) → 1 ≤ count → take (2 * count) n ≡ slots_of_way true v →
    take (2 * count) (set n 0 p) ≡ slots_of_way true (record v { match_start = p })
take_kept count n v p some fits =
    take-set-lt (2 * count) n 0 p (omega arith) ∙ ap (λ x. set x 0 p) fits ∙ set_twice (group_slots v.pairs) 0 v.match_start p
