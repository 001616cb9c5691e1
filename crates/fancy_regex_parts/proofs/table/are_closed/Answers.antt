use Rattle.std.proofs.Common.{ℕ, length, inl, inr, sym, subst, arith}
use Rattle.std.proofs.lemmas.Bool.{cases_eq}
use Rattle.fancy_regex_states.specs.Attempts.{NamesBelow}
use Rattle.fancy_regex_states.specs.First.{state_at}
use Rattle.fancy_regex_parts.proofs.table.are_closed.Goals as goal

pub loop-q-preserved : goal.loop-q-preserved
loop-q-preserved c k below =
    elim (cases_eq k c.loop-q.q) [
      | inl same ↦
          subst (λ (n : ℕ). NamesBelow (length c.args.states.now) (state_at c.args.states.now n)) (sym same)
          (c.leads_inside.ensures.inside c.if-not-leads_inside.false)
      | inr other ↦ c.loop-q.invariant k (omega arith)
    ]

pub returns-then-not-leads_inside-clause-other : goal.returns-then-not-leads_inside-clause-other
returns-then-not-leads_inside-clause-other c fails all = c.leads_inside.ensures.other c.if-not-leads_inside.true (all c.loop-q.q (omega arith))
