-- What the states of a regular pattern do, where the pattern's own final state accepts as far as the end of a range.
use Rattle.std.proofs.Common.{◌≡◌, ◌∙◌, ℕ, zero, suc, ◌+◌, ◌<◌, ◌≤◌, ◌==◌, ◌⊎◌, Bool, true, false, if◌then◌else◌, List, [], ◌∷◌, length, Option, Some, None, refl, sym, ap, subst, inl, inr, ⊎_elim, arith}
use Rattle.fancy_regex_tree.specs.Tree.{Tree}
use Rattle.fancy_regex_class.specs.declared.class.CharClassMatcher.{CharClassMatcher}
use Rattle.fancy_regex_info.specs.Views.{pattern_in}
use Rattle.fancy_regex_states.specs.Attempts.{View, Continuation, accept, accept_by, reads, visit}
use Rattle.fancy_regex_states.specs.First.{state_at}
use Rattle.fancy_regex_states.specs.declared.state.State.{State}
use Rattle.fancy_regex_states.specs.declared.state.State.TheVariants.{Split, Enter, Leave, Ask, Atomic, Match as End}
use Rattle.fancy_regex_states.specs.declared.state.State.TheVariants as S
use Rattle.fancy_regex_linear.specs.Re.{Re}
use Rattle.fancy_regex_linear.specs.Attempt.{attempt}
use Rattle.fancy_regex_linear.specs.Easy.{HaveMatchers}
use Rattle.fancy_regex_linear.specs.Plain.{IsRegular, classes, re_of}
use Rattle.fancy_regex_linear.specs.Program.{emitted, IsSound, MayAskIn, AgreeBut}
use Rattle.fancy_regex_linear.specs.RegularStates.{AreRegularStates}
use Rattle.fancy_regex_linear.proofs.TreeLemmas.{emit_done, emit_both_done, emit_means, may_all}

blind : View
blind = record { has = λ leaf i. false; next = λ i. i; back = λ i. None; holds = λ test i. false; longest = false; has_parts = true }

-- a state that accepts at once, where nothing is read and no test holds, is final
only_final : (go : ℕ → Continuation) (s : State) → accept 0 ≡ visit blind 0 go s 0 → s ≡ End
unfolding blind reads
only_final go (S.Read leaf next) e = let none = ap (λ r. r.answer) e in cc
only_final go (S.Look check next) e = let none = ap (λ r. r.answer) e in cc
only_final go (S.Back next) e = let none = ap (λ r. r.answer) e in cc
only_final go (Split first second) e = let deep = ap (λ r. r.depth) e in absurd (omega (arith, deep))
only_final go (Enter g next) e = let deep = ap (λ r. r.depth) e in absurd (omega (arith, deep))
only_final go (Leave g next) e = let deep = ap (λ r. r.depth) e in absurd (omega (arith, deep))
only_final go (Ask part negated next) e = let deep = ap (λ r. r.depth) e in absurd (omega (arith, deep))
only_final go (Atomic part same moved) e = let deep = ap (λ r. r.depth) e in absurd (omega (arith, deep))
only_final go End e = refl

-- What the states of a pattern do whose final state accepts up to `stop`; parts may read the whole text.
pub record DoesBy (view : View) (len stop : ℕ) (states : List State) (entry : ℕ) (re : Re) : Type 0 where
  pub go : ℕ → Continuation
  pub zero_is : go 0 ≡ accept_by stop
  pub agree : AgreeBut view len (λ q. q ≡ 0) states go
  pub entry_in : entry < length states
  pub means : (i : ℕ) → i ≤ len → go entry i ≡ attempt view len re (accept_by stop) i

module _ (states : List State) (entry : ℕ) (re : Re) (sound : IsSound re) (program : emitted re (End ∷ []) 0 ≡ (states, entry)) where
  -- the first state is the final one
  pub first_is_final : state_at states 0 ≡ End
  unfolding blind
  first_is_final =
      let start : AgreeBut blind 0 (λ _. ⊥) (End ∷ []) (λ _. accept) =
      λ q h. inr (let zero_is : q ≡ 0 = omega arith in rw zero_is (record { names = tt; asks = tt; does = λ i p. refl })) in
      let d = emit_means blind 0 re sound (may_all re) (End ∷ []) (λ _. accept) 0 start (omega arith) in
      let zero_in : 0 < length (emitted re (End ∷ []) 0).0 = omega (arith, d.longer) in
      let zero_does = ⊎_elim (λ o. absurd o) (λ a. a) (d.agree 0 zero_in) in
      let here : accept 0 ≡ d.next_go 0 0 = sym (ap (λ (k : Continuation). k 0) (d.unchanged 0 (omega arith))) in
      subst (λ (m : List State × ℕ). state_at m.0 0 ≡ End) program
      (only_final d.next_go (state_at (emitted re (End ∷ []) 0).0 0) (here ∙ zero_does.does 0 (omega arith)))

  pub does_by : (view : View) (len stop : ℕ) → view.has_parts ≡ true → DoesBy view len stop states entry re
  does_by view len stop asks =
      let start : AgreeBut view len (λ q. q ≡ 0) (End ∷ []) (λ _. accept_by stop) = λ q h. inl (omega arith) in
      let may : MayAskIn view.has_parts re = subst (λ b. MayAskIn b re) (sym asks) (may_all re) in
      let d = emit_done view len (emit_both_done view len) re sound may (λ q. q ≡ 0) (End ∷ []) (λ _. accept_by stop) 0 start (omega arith) in
      let made : DoesBy view len stop (emitted re (End ∷ []) 0).0 (emitted re (End ∷ []) 0).1 re = record {
        go = d.next_go;
        zero_is = d.unchanged 0 (omega arith);
        agree = d.agree;
        entry_in = d.entry;
        means = d.means;
      } in
      subst (λ (m : List State × ℕ). DoesBy view len stop m.0 m.1 re) program made
