-- Lists of states that are closed under steps without reading, and their leaves.
use Rattle.std.proofs.Common.{◌≡◌, ℕ, ◌+◌, ◌<◌, ◌≤◌, List, [], ◌∷◌, ◌++◌, length, refl, sym, ap, subst, ◌∙◌, inl, inr, arith, get_or, length-append}
use Rattle.std.proofs.lemmas.List.{get_or_append_left, get_or_default}
use Rattle.std.proofs.lemmas.Bool.{cases_lt}
use Rattle.std.specs.Prelude.{Bool, false, Option, Some, None, IfSome, Contains}
use Rattle.fancy_regex_class.specs.declared.class.CharClassMatcher.{CharClassMatcher}
use Rattle.fancy_regex_states.specs.CharTests.{IsAsciiLeaf, leaf_matches_char}
use Rattle.fancy_regex_states.specs.First.{state_at, Leads, Reaches, here, onward, IsClosed, IsAmong, CannotRead, Extends}
use Rattle.fancy_regex_states.specs.declared.atom.Leaf.{Leaf}
use Rattle.fancy_regex_states.specs.declared.state.State.{State}
use Rattle.fancy_regex_states.specs.declared.state.State.TheVariants.{Split, Enter, Leave, Ask, Atomic, Match}
use Rattle.fancy_regex_states.specs.declared.state.State.TheVariants as S

-- what is reached is in the list
pub reached_in : (states : List State) (entry : ℕ) (numbers : List ℕ) → Contains numbers entry → IsClosed states numbers
    → {q : ℕ} → Reaches states entry q → Contains numbers q
reached_in states entry numbers first closed here = first
reached_in states entry numbers first closed (onward q p from leads) = closed q p (reached_in states entry numbers first closed from) leads

pub extends_same : (xs : List ℕ) → Extends xs xs
extends_same xs = (omega arith, λ k lt. refl)

pub extends_push : (xs : List ℕ) (y : ℕ) → Extends xs (xs ++ y ∷ [])
extends_push xs y = (omega (arith, length-append xs (y ∷ [])), λ k lt. get_or_append_left xs (y ∷ []) 0 k lt)

pub extends_both : (xs ys zs : List ℕ) → Extends xs ys → Extends ys zs → Extends xs zs
extends_both xs ys zs a b = (omega (arith, a.0, b.0), λ k lt. b.1 k (omega (arith, a.0)) ∙ a.1 k lt)

-- what is in a list is in one that begins with it
pub contains_more : (xs ys : List ℕ) (q : ℕ) → Extends xs ys → Contains xs q → Contains ys q
contains_more xs ys q more (k, lt, is) =
    let far : k < length ys = omega (arith, more.0) in
    (k, far, get_or_default ys k q 0 far ∙ more.1 k lt ∙ get_or_default xs k 0 q lt ∙ is)

-- what the first of these states lead to is in the list
abbrev pub LeadInto : List State → List ℕ → ℕ → Type 0
LeadInto states found done = (k p : ℕ) → k < done → Leads (state_at states (get_or found k 0)) p → Contains found p

pub lead_into_closed : (states : List State) (found : List ℕ) (done : ℕ) → length found ≤ done → LeadInto states found done → IsClosed states found
lead_into_closed states found done all into q p (k, lt, is) leads =
    into k p (omega arith) (subst (λ (m : ℕ). Leads (state_at states m) p) (sym (get_or_default found k 0 q lt ∙ is)) leads)

-- the next state's numbers are there too
pub into_more : (states : List State) (old new : List ℕ) (done : ℕ) → Extends old new → done < length old → LeadInto states old done
    → ((p : ℕ) → Leads (state_at states (get_or old done 0)) p → Contains new p) → LeadInto states new (done + 1)
into_more states old new done more lt into successors k p below leads =
    elim (cases_lt k done) [
      | inl less ↦
          let same : get_or new k 0 ≡ get_or old k 0 = more.1 k (omega arith) in
          contains_more old new p more (into k p less (subst (λ (m : ℕ). Leads (state_at states m) p) same leads))
      | inr ge ↦
          let here : k ≡ done = omega arith in
          let same : get_or new k 0 ≡ get_or old done 0 = more.1 k (omega arith) ∙ ap (λ (m : ℕ). get_or old m 0) here in
          successors p (subst (λ (m : ℕ). Leads (state_at states m) p) same leads)
    ]

-- more leaves, and the state is still among them
pub among_more : (xs ys : List Leaf) (state : State) → ((leaf : Leaf) → Contains xs leaf → Contains ys leaf) → IsAmong xs state → IsAmong ys state
among_more xs ys (S.Read leaf next) more h = more leaf h
among_more xs ys (S.Look check next) more h = tt
among_more xs ys (Split first second) more h = tt
among_more xs ys (Enter g next) more h = tt
among_more xs ys (Leave g next) more h = tt
among_more xs ys (Ask part negated next) more h = tt
among_more xs ys (Atomic part same moved) more h = tt
among_more xs ys (S.Back next) more h = h
among_more xs ys Match more h = h

-- the first of these numbers are of states whose leaves are here
abbrev pub AreAmong : List State → List ℕ → List Leaf → ℕ → Type 0
AreAmong states numbers leaves done = (k : ℕ) → k < done → IsAmong leaves (state_at states (get_or numbers k 0))

pub among_next : (states : List State) (numbers : List ℕ) (xs ys : List Leaf) (done : ℕ) → ((leaf : Leaf) → Contains xs leaf → Contains ys leaf)
    → AreAmong states numbers xs done → IsAmong ys (state_at states (get_or numbers done 0)) → AreAmong states numbers ys (done + 1)
among_next states numbers xs ys done more old new k lt =
    elim (cases_lt k done) [
      | inl less ↦ among_more xs ys _ more (old k less)
      | inr ge ↦
          let here : k ≡ done = omega arith in
          subst (λ (m : ℕ). IsAmong ys (state_at states (get_or numbers m 0))) (sym here) new
    ]

pub among_all : (states : List State) (numbers : List ℕ) (leaves : List Leaf) (done : ℕ) → length numbers ≤ done → AreAmong states numbers leaves done
    → (q : ℕ) → Contains numbers q → IsAmong leaves (state_at states q)
among_all states numbers leaves done all among q (k, lt, is) =
    subst (λ (m : ℕ). IsAmong leaves (state_at states m)) (get_or_default numbers k 0 q lt ∙ is) (among k (omega arith))

-- a state that reads by leaves of ASCII characters reads no other character
pub wide_refused : (unicode : Bool) (matchers : List CharClassMatcher) (leaves : List Leaf)
    → ((k : ℕ) (d : Leaf) → k < length leaves → IsAsciiLeaf unicode matchers (get_or leaves k d))
    → (after : Option ℕ) → IfSome after (λ c. 128 ≤ c) → (state : State) → IsAmong leaves state → CannotRead unicode matchers after state
wide_refused unicode matchers leaves ascii None wide (S.Read leaf next) among = refl
wide_refused unicode matchers leaves ascii (Some c) wide (S.Read leaf next) (k, lt, is) =
    subst (λ (l : Leaf). leaf_matches_char unicode matchers l c ≡ false) is (ascii k leaf lt c wide)
wide_refused unicode matchers leaves ascii after wide (S.Look check next) among = tt
wide_refused unicode matchers leaves ascii after wide (Split first second) among = tt
wide_refused unicode matchers leaves ascii after wide (Enter g next) among = tt
wide_refused unicode matchers leaves ascii after wide (Leave g next) among = tt
wide_refused unicode matchers leaves ascii after wide (Ask part negated next) among = tt
wide_refused unicode matchers leaves ascii after wide (Atomic part same moved) among = tt
wide_refused unicode matchers leaves ascii after wide (S.Back next) among = among
wide_refused unicode matchers leaves ascii after wide Match among = among
