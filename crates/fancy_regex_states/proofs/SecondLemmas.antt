-- Marks of the characters that can be second in no match.
use Rattle.std.proofs.Common.{◌≡◌, ℕ, ◌+◌, ◌<◌, ◌≤◌, Bool, true, false, ◌&&◌, List, length, get_or, set, sym, subst, ◌∙◌, arith, ⊎_elim}
use Rattle.std.proofs.lemmas.List.{get_or-set_same, get_or-set_other, get_or_default}
use Rattle.std.proofs.lemmas.Bool.{cases_lt, cases_eq, and_parts}
use Rattle.std.specs.Prelude.{Contains, Some}
use Rattle.fancy_regex_class.specs.declared.class.CharClassMatcher.{CharClassMatcher}
use Rattle.fancy_regex_states.specs.First.{state_at, CannotGoOn, HasNoNewMarks}
use Rattle.fancy_regex_states.specs.declared.state.State.{State}

-- the mark at i stays only if b holds, and then what is said of it
module _ (before xs : List Bool) (i : ℕ) (b : Bool) (Says : ℕ → Type 0) (inside : i < length xs) (no_new : HasNoNewMarks before xs)
    (says : (k : ℕ) → k < i → get_or xs k false ≡ true → Says k) (new : b ≡ true → Says i) where
  abbrev after : List Bool
  after = set xs i (get_or xs i false && b)

  at_place : get_or after i false ≡ true → (get_or xs i false ≡ true) × (b ≡ true)
  at_place is = and_parts (get_or xs i false) b (sym (get_or-set_same xs i (get_or xs i false && b) false inside) ∙ is)

  elsewhere : (k : ℕ) → (k ≡ i → ⊥) → get_or after k false ≡ true → get_or xs k false ≡ true
  elsewhere k other is = sym (get_or-set_other xs i k (get_or xs i false && b) false other) ∙ is

  pub no_new_next : HasNoNewMarks before after
  no_new_next k is =
      ⊎_elim
      (λ (same : k ≡ i). no_new k (subst (λ (m : ℕ). get_or xs m false ≡ true) (sym same) (at_place (subst (λ (m : ℕ). get_or after m false ≡ true) same is)).0))
      (λ (other : k ≡ i → ⊥). no_new k (elsewhere k other is))
      (cases_eq k i)

  pub says_next : (k : ℕ) → k < i + 1 → get_or after k false ≡ true → Says k
  says_next k low is =
      ⊎_elim
      (λ (less : k < i). says k less (elsewhere k (λ e. omega arith) is))
      (λ (high : i ≤ k).
      let same : k ≡ i = omega arith in
      subst (λ (m : ℕ). Says m) (sym same) (new (at_place (subst (λ (m : ℕ). get_or after m false ≡ true) same is)).1))
      (cases_lt k i)

-- after the first of these states no way goes on with a marked character
abbrev pub RefuseAfter : Bool → List CharClassMatcher → List State → List ℕ → List Bool → ℕ → Type 0
RefuseAfter unicode matchers states numbers marks done =
    (k c : ℕ) → k < done → c < 128 → get_or marks c false ≡ true → CannotGoOn unicode matchers states (Some c) (state_at states (get_or numbers k 0))

pub refuse_next : (unicode : Bool) (matchers : List CharClassMatcher) (states : List State) (numbers : List ℕ) (old new : List Bool) (done : ℕ) → HasNoNewMarks old new
    → RefuseAfter unicode matchers states numbers old done
    → ((c : ℕ) → c < 128 → get_or new c false ≡ true → CannotGoOn unicode matchers states (Some c) (state_at states (get_or numbers done 0)))
    → RefuseAfter unicode matchers states numbers new (done + 1)
refuse_next unicode matchers states numbers old new done no_new before here k c low small is =
    ⊎_elim
    (λ (less : k < done). before k c less small (no_new c is))
    (λ (high : done ≤ k).
    let same : k ≡ done = omega arith in
    subst (λ (m : ℕ). CannotGoOn unicode matchers states (Some c) (state_at states (get_or numbers m 0))) (sym same) (here c small is))
    (cases_lt k done)

pub refuse_all : (unicode : Bool) (matchers : List CharClassMatcher) (states : List State) (numbers : List ℕ) (marks : List Bool) (done : ℕ) → length numbers ≤ done
    → RefuseAfter unicode matchers states numbers marks done → (q c : ℕ) → Contains numbers q → c < 128 → get_or marks c false ≡ true
    → CannotGoOn unicode matchers states (Some c) (state_at states q)
refuse_all unicode matchers states numbers marks done all each q c (k, lt, is) small marked =
    subst (λ (m : ℕ). CannotGoOn unicode matchers states (Some c) (state_at states m)) (get_or_default numbers k 0 q lt ∙ is) (each k c (omega arith) small marked)
