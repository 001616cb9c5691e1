-- What is reached over as many edges as there are places is all that is reached.
use Rattle.std.proofs.Common.{◌≡◌, ℕ, zero, suc, ◌+◌, ◌<◌, ◌≤◌, ◌⊎◌, ⊎_elim, inl, inr, Bool, true, false, cond, List, []}
use Rattle.std.proofs.Common.{◌∷◌, ◌++◌, length, get_or, set, replicate, refl, sym, ap, ◌∙◌, arith, length-append}
use Rattle.std.proofs.lemmas.Bool.{cases_lt}
use Rattle.fancy_regex_info.specs.Reachability.{has, following, through}
use Rattle.fancy_regex_info.proofs.ReachabilityLemmas.{Progress, begins, passes_over, marks, finished, rises_to}

-- for each place that is not marked the edges from it, and one
unfoldable left_over : List Bool → List (List ℕ) → ℕ
left_over [] es = 0
left_over (b ∷ bs) [] = 0
left_over (b ∷ bs) (e ∷ es) = cond b 0 (length e + 1) + left_over bs es

left_less : (bs : List Bool) (es : List (List ℕ)) (k : ℕ) → length bs ≡ length es → k < length bs → get_or bs k false ≡ false →
    left_over (set bs k true) es + (length (following es k) + 1) ≡ left_over bs es
unfolding left_over
left_less [] es k same inside fails = absurd (omega arith)
left_less (b ∷ bs) [] k same inside fails = absurd (omega arith)
left_less (b ∷ bs) (e ∷ es) zero same inside fails = rw fails (omega arith)
left_less (b ∷ bs) (e ∷ es) (suc k) same inside fails = omega (arith, left_less bs es k (omega arith) (omega arith) fails)

split_last : (x : ℕ) (xs : List ℕ) → (rest : List ℕ) × (p : ℕ) × (x ∷ xs ≡ rest ++ p ∷ [])
split_last x [] = ([], x, refl)
split_last x (y ∷ ys) = let s = split_last y ys in (x ∷ s.0, s.1, ap (λ zs. x ∷ zs) s.2)

bool_cases : (b : Bool) → (b ≡ true) ⊎ (b ≡ false)
bool_cases true = inl refl
bool_cases false = inr refl

module _ (edges : List (List ℕ)) (starts : List ℕ) where
  goes_over : (fuel : ℕ) (seen : List Bool) (todo : List ℕ) → Progress edges starts seen todo →
      left_over seen edges + length todo ≤ fuel → (all : List Bool) × Progress edges starts all []
  goes_over fuel seen [] was within = (seen, was)
  goes_over zero seen (x ∷ xs) was within = absurd (omega arith)
  goes_over (suc fuel) seen (x ∷ xs) was within =
      let s = split_last x xs in
      let long : suc (length xs) ≡ length s.0 + 1 = ap length s.2 ∙ length-append s.0 (s.1 ∷ []) in
      ⊎_elim
      (λ (inside : s.1 < length seen).
      ⊎_elim
      (λ (yes : get_or seen s.1 false ≡ true).
      goes_over fuel seen s.0 (passes_over edges starts seen (x ∷ xs) s.0 s.1 was s.2 (inr yes)) (omega (arith, long)))
      (λ (no : get_or seen s.1 false ≡ false).
      let fewer = left_less seen edges s.1 was.same inside no in
      goes_over fuel (set seen s.1 true) (s.0 ++ following edges s.1)
      (marks edges starts seen (x ∷ xs) s.0 (s.0 ++ following edges s.1) s.1 was s.2 inside no refl)
      (omega (arith, long, fewer, length-append s.0 (following edges s.1))))
      (bool_cases (get_or seen s.1 false)))
      (λ (past : length seen ≤ s.1).
      goes_over fuel seen s.0 (passes_over edges starts seen (x ∷ xs) s.0 s.1 was s.2 (inl (omega (arith, was.same)))) (omega (arith, long)))
      (cases_lt s.1 (length seen))

  abbrev N : ℕ
  N = length edges

  all_seen : (all : List Bool) × Progress edges starts all []
  all_seen =
      goes_over (left_over (replicate N false) edges + length starts) (replicate N false) starts (begins edges starts N refl) (omega arith)

  -- the starts are reached
  pub starts_reached : (n k : ℕ) → has starts k ≡ true → has (through edges n starts) k ≡ true
  unfolding through
  starts_reached n k h = rises_to edges 0 n starts k (omega arith) h

  -- and what follows what is reached
  pub follows_reached : (k j : ℕ) → has (through edges N starts) k ≡ true → k < N → has (following edges k) j ≡ true → j < N →
      has (through edges N starts) j ≡ true
  follows_reached k j h inside next below =
      let seen : List Bool = all_seen.0 in
      let was : Progress edges starts seen [] = all_seen.1 in
      sym (finished edges starts seen was j below)
      ∙ ⊎_elim (λ e. e) (λ e. cc) (was.closed k (finished edges starts seen was k inside ∙ h) j next below)
