use Rattle.std.proofs.Common.{inl, inr, sym, subst, arith}
use Rattle.std.proofs.lemmas.Bool.{cases_eq, leb-true}
use Rattle.fancy_regex_parts.specs.Tables.{IsRightAt}
use Rattle.fancy_regex_parts.proofs.table.PartTable.is_right.Goals as goal

pub loop-q-preserved : goal.loop-q-preserved
loop-q-preserved c k below =
    elim (cases_eq k c.loop-q.q) [
      | inl same ↦ subst (IsRightAt c.args.self.now) (sym same) (c.is_right_at.ensures c.if-not-is_right_at.false)
      | inr other ↦ c.loop-q.invariant k (omega arith)
    ]

pub returns : goal.returns
returns c holds =
    let states = c.args.self.now.states in
    record {
      right = λ k below. c.loop-q.invariant k (omega (arith, below, c.len-q-end.ensures, c.loop-q-test.false, states.ok.0));
      light = omega (arith, leb-true _ _ holds, c.weight.ensures, c.len.ensures, states.ok.0, states.ok.1);
      cheap = omega (arith, c.len-2.ensures, states.ok.0);
      still = c.requires;
    }
