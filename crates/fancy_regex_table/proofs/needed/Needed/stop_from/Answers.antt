use Rattle.std.proofs.Common.{◌≡◌, ◌+◌, ◌≤◌, ◌<◌, ℕ, arith, ⊎_elim, sym, subst}
use Rattle.std.proofs.lemmas.Bool.{cases_lt}
use Rattle.fancy_regex_table.specs.Needed.{IsPassedIn}
use Rattle.fancy_regex_table.proofs.needed.Needed.stop_from.Goals as goal

pub stops-init : goal.stops-init
stops-init c = record { range = c.skip-stop.ensures.range; passed = λ marks. c.skip-stop.ensures.passed c.args.classes.now marks }

pub stops-preserved : goal.stops-preserved
stops-preserved c =
    let classes = c.args.classes.now in
    let needed = c.args.self.now in
    let bytes = c.args.bytes.now in
    let here : ℕ = c.stops.stop in
    let on = c.skip-stop-in-stops.ensures in
    record {
      range = (omega (arith, c.stops.invariant.range, on.range), on.range.1);
      passed = λ marks i low less.
          ⊎_elim (λ (before : i < here). c.stops.invariant.passed marks i low before)
          (λ (over : here ≤ i).
          ⊎_elim (λ (past : here < i). on.passed classes marks i (omega (arith, past)) less)
          (λ (at : i ≤ here).
          let same : i ≡ here = omega (arith, over, at) in
          subst (IsPassedIn classes needed bytes) (sym same) (c.is_passed.ensures c.if-not-is_passed.false))
          (cases_lt here i))
          (cases_lt i here);
    }
