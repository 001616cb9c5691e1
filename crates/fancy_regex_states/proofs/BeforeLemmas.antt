-- Lists of states that are closed under steps without reading after a character.
use Rattle.std.proofs.Common.{◌≡◌, ℕ, ◌+◌, ◌<◌, ◌≤◌, ◌==◌, ◌&&◌, ◌||◌, not, Bool, true, false, List, Some, None, length, refl, sym, subst, ◌∙◌, inl, inr, arith, get_or, ne_eqb}
use Rattle.std.proofs.lemmas.List.{get_or_default}
use Rattle.std.proofs.lemmas.Bool.{cases_lt}
use Rattle.std.specs.Prelude.{Option, Contains}
use Rattle.fancy_regex_class.specs.declared.class.CharClassMatcher.{CharClassMatcher}
use Rattle.fancy_regex_states.specs.First.{state_at, Extends}
use Rattle.fancy_regex_states.specs.Before.{CannotBeginAfter, IsMeant, OnlyLeadsOn, LeadsAfter, ReachesAfter, here, onward}
use Rattle.fancy_regex_states.specs.declared.state.State.{State}
use Rattle.fancy_regex_states.proofs.FirstLemmas.{contains_more}

module _ (unicode : Bool) (matchers : List CharClassMatcher) (states : List State) (entry : ℕ) (character : Option ℕ) where
  -- what the first of these states lead to is in the list, and none of them reads or is final
  pub record LeadAfterInto (found : List ℕ) (done : ℕ) : Type 0 where
    pub into : (k p c : ℕ) → k < done → IsMeant character c → LeadsAfter unicode matchers c (state_at states (get_or found k 0)) p → Contains found p
    pub leads_on : (k : ℕ) → k < done → OnlyLeadsOn (state_at states (get_or found k 0))

  -- the next state's numbers are there too
  pub after_more : (old new : List ℕ) (done : ℕ) → Extends old new → done < length old → LeadAfterInto old done
      → OnlyLeadsOn (state_at states (get_or old done 0))
      → ((c p : ℕ) → IsMeant character c → LeadsAfter unicode matchers c (state_at states (get_or old done 0)) p → Contains new p)
      → LeadAfterInto new (done + 1)
  after_more old new done more lt have leads_on successors =
      let same : (k : ℕ) → k < done → get_or new k 0 ≡ get_or old k 0 = λ k less. more.1 k (omega arith) in
      let last : (k : ℕ) → k < done + 1 → done ≤ k → get_or new k 0 ≡ get_or old done 0 = λ k below ge.
      let is : k ≡ done = omega arith in more.1 k (omega arith) ∙ subst (λ (m : ℕ). get_or old k 0 ≡ get_or old m 0) is refl in
      record {
        into = λ k p c below meant leads.
            elim (cases_lt k done) [
              | inl less ↦ contains_more old new p more (have.into k p c less meant (subst (λ (m : ℕ). LeadsAfter unicode matchers c (state_at states m) p) (same k less) leads))
              | inr ge ↦ successors c p meant (subst (λ (m : ℕ). LeadsAfter unicode matchers c (state_at states m) p) (last k below ge) leads)
            ];
        leads_on = λ k below.
            elim (cases_lt k done) [
              | inl less ↦ subst (λ (m : ℕ). OnlyLeadsOn (state_at states m)) (sym (same k less)) (have.leads_on k less)
              | inr ge ↦ subst (λ (m : ℕ). OnlyLeadsOn (state_at states m)) (sym (last k below ge)) leads_on
            ];
      }

  reached_after : (found : List ℕ) (done c : ℕ) → length found ≤ done → IsMeant character c → Contains found entry → LeadAfterInto found done
      → {q : ℕ} → ReachesAfter unicode matchers states entry c q → Contains found q
  reached_after found done c all meant first have here = first
  reached_after found done c all meant first have (onward q p from leads) =
      let there = reached_after found done c all meant first have from in
      have.into there.0 p c (omega (arith, all, there.1)) meant
      (subst (λ (m : ℕ). LeadsAfter unicode matchers c (state_at states m) p) (sym (get_or_default found there.0 0 q there.1 ∙ there.2)) leads)

  -- a list that is closed has no state that reads or is final
  pub none_after : (found : List ℕ) (done c : ℕ) → length found ≤ done → IsMeant character c → Contains found entry → LeadAfterInto found done
      → CannotBeginAfter unicode matchers states entry c
  none_after found done c all meant first have q from =
      let there = reached_after found done c all meant first have from in
      subst (λ (m : ℕ). OnlyLeadsOn (state_at states m)) (get_or_default found there.0 0 q there.1 ∙ there.2) (have.leads_on there.0 (omega (arith, all, there.1)))

-- no character that is not ASCII ends a line
pub line_not : (crlf : Bool) (k : ℕ) → 128 ≤ k → (k == 10 || (crlf && k == 13)) ≡ false
line_not false k wide = rw (ne_eqb k 10 (omega (arith, wide))) refl
line_not true k wide = rw (ne_eqb k 10 (omega (arith, wide)), ne_eqb k 13 (omega (arith, wide))) refl

pub no_is_yes : (b : Bool) → not b ≡ false → b ≡ true
no_is_yes true e = refl
no_is_yes false e = sym e

-- what is said of the character that is meant
pub meant_some : (P : ℕ → Type 0) (character : Option ℕ) (b : ℕ) → character ≡ Some b → P b → (k : ℕ) → IsMeant character k → P k
meant_some P character b is holds k meant = subst P (sym (subst (λ (o : Option ℕ). IsMeant o k) is meant)) holds

pub meant_none : (P : ℕ → Type 0) (character : Option ℕ) → character ≡ None → ((k : ℕ) → 128 ≤ k → P k) → (k : ℕ) → IsMeant character k → P k
meant_none P character is holds k meant = holds k (subst (λ (o : Option ℕ). IsMeant o k) is meant)
