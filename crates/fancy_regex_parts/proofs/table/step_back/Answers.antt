use Rattle.std.proofs.Common.{◌≡◌, ◌∙◌, ℕ, false, inl, inr, sym, subst, arith, true≢false}
use Rattle.std.proofs.lemmas.Bool.{cases_eq}
use Rattle.fancy_regex_states.specs.First.{state_at}
use Rattle.fancy_regex_parts.specs.Tables.{steps_back}
use Rattle.fancy_regex_parts.proofs.table.step_back.Goals as goal

pub loop-q-preserved : goal.loop-q-preserved
loop-q-preserved c k below =
    elim (cases_eq k c.loop-q.q) [
      | inl same ↦
          subst (λ (n : ℕ). steps_back (state_at c.args.states.now n) ≡ false) (sym same) (sym c.steps_back.ensures ∙ c.if-steps_back.false)
      | inr other ↦ c.loop-q.invariant k (omega arith)
    ]

pub returns-then-steps_back-clause-other : goal.returns-then-steps_back-clause-other
returns-then-steps_back-clause-other c holds still =
    absurd (true≢false (sym c.if-steps_back.true ∙ c.steps_back.ensures ∙ still c.loop-q.q (omega arith)))
