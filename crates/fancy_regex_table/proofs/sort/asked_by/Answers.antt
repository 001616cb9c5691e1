use Rattle.std.proofs.Common.{◌≡◌, ◌<◌, ℕ, List, length, get_or, subst, inl, inr, arith}
use Rattle.std.proofs.lemmas.Bool.{cases_lt}
use Rattle.std.proofs.lemmas.List.{get_or_default}
use Rattle.fancy_regex_states.specs.First.{state_at}
use Rattle.fancy_regex_states.specs.declared.state.State.{State}
use Rattle.fancy_regex_states.specs.declared.state.State.TheVariants as S
use Rattle.fancy_regex_table.specs.Sorts.{IsAsked}
use Rattle.fancy_regex_table.specs.declared.sort.Asked.{Asked}
use Rattle.fancy_regex_table.proofs.SortLemmas.{still_asked}
use Rattle.fancy_regex_table.proofs.sort.asked_by.Goals as goal

-- the state that was read
read_asked : (asked : Asked) (states : List State) (i : ℕ) (d : State) → i < length states → IsAsked asked (get_or states i d) → IsAsked asked (state_at states i)
read_asked asked states i d lt h = subst (IsAsked asked) (get_or_default states i d S.Match lt) h

pub loop-i-preserved : goal.loop-i-preserved
loop-i-preserved c = λ q lt.
    elim (cases_lt q c.loop-i.i) [
      | inl less ↦ still_asked c.loop-i.asked c.in_ok-asked.asked c.in_ok-asked.ensures.more (state_at c.args.states.now q) (c.loop-i.invariant q less)
      | inr ge ↦
          let same : c.loop-i.i ≡ q = omega arith in
          subst (λ (n : ℕ). IsAsked c.in_ok-asked.asked (state_at c.args.states.now n)) same
          (read_asked c.in_ok-asked.asked c.args.states.now c.loop-i.i _ (omega arith) c.in_ok-asked.ensures.state)
    ]
