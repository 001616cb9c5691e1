use Rattle.std.proofs.Common.{◌≡◌, ◌∙◌, ℕ, false, inl, inr, sym, subst, arith}
use Rattle.std.proofs.lemmas.Bool.{cases_eq}
use Rattle.fancy_regex_states.specs.First.{state_at}
use Rattle.fancy_regex_regular.specs.Continues.{asks_place}
use Rattle.fancy_regex_regular.proofs.continues.ask_for_place.Goals as goal

pub loop-q-preserved : goal.loop-q-preserved
loop-q-preserved c k below =
    elim (cases_eq k c.loop-q.q) [
      | inl same ↦
          subst (λ (n : ℕ). asks_place (state_at c.args.states.now n) ≡ false) (sym same) (sym c.asks_for_place.ensures ∙ c.if-asks_for_place.false)
      | inr other ↦ c.loop-q.invariant k (omega arith)
    ]
