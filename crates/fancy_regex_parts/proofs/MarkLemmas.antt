-- Tables with a mark on each state are right.
use Rattle.std.proofs.Common.{◌≡◌, ◌∙◌, ℕ, zero, suc, ◌+◌, ◌-◌, ◌*◌, ◌^◌, ◌<◌, ◌≤◌, ◌⊎◌, inl, inr, max, min, List, [], ◌∷◌, ◌++◌, length, replicate, get_or, Option, Some, None, refl, sym, ap, ap₂, subst, arith, Bool, true, false, true≢false}
use Rattle.std.specs.Prelude.{sum_by}
use Rattle.std.proofs.lemmas.List.{length-replicate}
use Rattle.std.proofs.lemmas.List.Sums.{sum_by-cons}
use Rattle.std.proofs.lemmas.Option.{same_Some}
use Rattle.fancy_regex_states.specs.Attempts.{NamesBelow}
use Rattle.fancy_regex_states.specs.First.{state_at}
use Rattle.fancy_regex_states.specs.declared.state.State.{State}
use Rattle.fancy_regex_states.specs.declared.state.State.TheVariants.{Split, Enter, Leave, Ask, Atomic, Match}
use Rattle.fancy_regex_states.specs.declared.state.State.TheVariants as S
use Rattle.fancy_regex_parts.specs.Tables.{may_write, mark_of, cost_of, due, due_of, owed, table_weight, reach_of, needed_reach_of, steps_back, AreStill, IsTable, AreClosed}
use Rattle.fancy_regex_parts.specs.declared.table.PartTable.{PartTable}

-- a list by its elements, with one more
pub grown_at : {A : Type 0} (xs : List A) (x d : A) (f : ℕ → A) → ((k : ℕ) → k < length xs → get_or xs k d ≡ f k) → x ≡ f (length xs)
    → (k : ℕ) → k < length xs + 1 → get_or (xs ++ x ∷ []) k d ≡ f k
grown_at [] x d f each is zero h = is
grown_at [] x d f each is (suc k) h = absurd (omega (arith, h))
grown_at (y ∷ ys) x d f each is zero h = each 0 (omega arith)
grown_at (y ∷ ys) x d f each is (suc k) h = grown_at ys x d (λ j. f (suc j)) (λ j l. each (suc j) (omega (arith, l))) is k (omega (arith, h))

copies_at : (x n k : ℕ) → k < n → ◌≡◌ {A = ℕ} (get_or (replicate n x) k 0) x
copies_at x zero k h = absurd (omega (arith, h))
copies_at x (suc n) zero h = refl
copies_at x (suc n) (suc k) h = copies_at x n k (omega (arith, h))

pub copies_most : (x n k : ℕ) → get_or (replicate n x) k 0 ≤ x
copies_most x zero k = omega arith
copies_most x (suc n) zero = omega arith
copies_most x (suc n) (suc k) = copies_most x n k

-- where no reach is above this, and this is 0 for a state that does not step back, or the last `usize`, no state needs more
needed_most : (table : PartTable) (r : ℕ) → ((p : ℕ) → reach_of table p ≤ r) → (s : State) → (r ≡ 2 ^ 64 - 1) ⊎ (steps_back s ≡ false)
    → needed_reach_of table s ≤ r
needed_most table r most (S.Read leaf next) is = most next
needed_most table r most (S.Look check next) is = most next
needed_most table r most (S.Back next) is = elim is [ inl all ↦ omega (arith, all) | inr still ↦ absurd (true≢false still) ]
needed_most table r most (Enter g next) is = most next
needed_most table r most (Leave g next) is = most next
needed_most table r most (Split first second) is = omega (arith, most first, most second)
needed_most table r most (Ask part negated next) is = omega (arith, most part, most next)
needed_most table r most (Atomic part same moved) is = omega (arith, most part, most same, most moved)
needed_most table r most Match is = omega arith

sum_small : (f : ℕ → ℕ) → ((k : ℕ) → f k ≤ 1) → (xs : List ℕ) → sum_by f xs ≤ length xs
sum_small f small [] = omega arith
sum_small f small (x ∷ xs) = omega (arith, sum_by-cons f x xs, small x, sum_small f small xs)

-- each state has a mark of its own, and costs one look
pub record IsAllMarked (table : PartTable) : Type 0 where
  pub count : length table.heads.items ≡ length table.states.items
  pub marks : (k : ℕ) → k < length table.states.items → get_or table.marks.items k None ≡ Some k
  pub heads : (k : ℕ) → k < length table.states.items → get_or table.heads.items k 0 ≡ k
  pub costs : table.costs.items ≡ replicate (length table.states.items) 1
  pub most : table.most ≡ 1
  pub writes : table.writes.items ≡ []
  pub reach : ℕ
  pub reaches : table.reaches.items ≡ replicate (length table.states.items) reach
  pub reach_is : (reach ≡ 2 ^ 64 - 1) ⊎ (AreStill table.states.items × (reach ≡ 0))
  pub still : AreStill table.states.items → reach ≡ 0

module _ (table : PartTable) (all : IsAllMarked table) where
  cost_is : (q : ℕ) → q < length table.states.items → cost_of table q ≡ 1
  cost_is q h = ap (λ (xs : List ℕ). get_or xs q 0) all.costs ∙ copies_at 1 (length table.states.items) q h

  nothing_due : (q : ℕ) → q < length table.states.items → due table q ≡ 0
  nothing_due q h = ap (λ (o : Option ℕ). due_of o (cost_of table q)) (all.marks q h)

  nothing_owed : (s : State) → NamesBelow (length table.states.items) s → owed table s ≡ 0
  nothing_owed (S.Read leaf next) names = nothing_due next names
  nothing_owed (S.Look check next) names = nothing_due next names
  nothing_owed (S.Back next) names = nothing_due next names
  nothing_owed (Enter g next) names = nothing_due next names
  nothing_owed (Leave g next) names = nothing_due next names
  nothing_owed (Split first second) names = omega (arith, nothing_due first names.0, nothing_due second names.1)
  nothing_owed (Ask part negated next) names = omega (arith, nothing_due part names.0, nothing_due next names.1)
  nothing_owed (Atomic part same moved) names =
      omega (arith, nothing_due part names.0, nothing_due same names.1, nothing_due moved names.2)
  nothing_owed Match names = refl

  reach_most : (q : ℕ) → reach_of table q ≤ all.reach
  reach_most q =
      let is = ap (λ (xs : List ℕ). get_or xs q 0) all.reaches in
      omega (arith, is, copies_most all.reach (length table.states.items) q)

  reach_needed : (q : ℕ) → q < length table.states.items → needed_reach_of table (state_at table.states.items q) ≤ reach_of table q
  reach_needed q h =
      let is = ap (λ (xs : List ℕ). get_or xs q 0) all.reaches ∙ copies_at all.reach (length table.states.items) q h in
      let here : (all.reach ≡ 2 ^ 64 - 1) ⊎ (steps_back (state_at table.states.items q) ≡ false) =
      elim all.reach_is [ inl most ↦ inl most | inr still ↦ inr (still.0 q h) ] in
      omega (arith, is, needed_most table all.reach reach_most (state_at table.states.items q) here)

  pub all_marked_right : AreClosed table.states.items → IsTable table
  all_marked_right closed = record {
    right = λ q h.
        let cost = cost_is q h in
        record {
          closed = closed q h;
          marked = λ mark is.
              let same : q ≡ mark = same_Some q mark (sym (all.marks q h) ∙ is) in (
                omega (arith, h, same, all.count),
                subst (λ (m : ℕ). get_or table.heads.items m 0 ≡ q) same (all.heads q h),
                omega (arith, cost, all.most),
              );
          cheap = omega (arith, cost, h);
          paid = omega (arith, cost, nothing_owed (state_at table.states.items q) (closed q h));
          reaches = reach_needed q h;
          no_write = λ none. absurd (true≢false (sym (ap (λ (ws : List Bool). may_write ws q) all.writes) ∙ none));
        };
    light =
        let small : (k : ℕ) → cost_of table k ≤ 1 = λ k.
        let is = ap (λ (xs : List ℕ). get_or xs k 0) all.costs in
        omega (arith, is, copies_most 1 (length table.states.items) k) in
        omega (arith, sum_small (cost_of table) small table.heads.items, all.count);
    cheap = omega (arith, all.most);
    still = λ still q. omega (arith, all.still still, reach_most q);
  }

-- where a table is right, each state leads to states that are there
pub closed_of : (table : PartTable) (states : List State) → IsTable table → table.states.items ≡ states → AreClosed states
closed_of table states is same = subst AreClosed same (λ q h. (is.right q h).closed)
