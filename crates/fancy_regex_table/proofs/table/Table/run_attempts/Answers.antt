use Rattle.std.proofs.Common.{arith}
use Rattle.fancy_regex_table.proofs.table.Table.run_attempts.Goals as goal

pub attempts-init : goal.attempts-init
attempts-init c = record {
  run = record { low = omega arith; onward = omega arith; place = c.requires.place };
  stands = λ parts rules s table search text stop here. here;
}

pub attempts-preserved : goal.attempts-preserved
attempts-preserved c =
    let inv = c.attempts.invariant in
    let later = c.in-Some.ensures.later in
    let on = c.run_from-place.ensures.run in
    record {
      run = record { low = omega (arith, inv.run.low, later.low, on.low); onward = omega (arith, inv.run.onward, later.onward, on.onward); place = on.place };
      stands = λ parts rules s table search text stop here.
          c.run_from-place.ensures.stands parts rules s table search text stop
          (c.in-Some.ensures.stands parts rules s table search text stop (inv.stands parts rules s table search text stop here));
    }

pub next_attempt-requires-clause-place : goal.next_attempt-requires-clause-place
next_attempt-requires-clause-place c = c.attempts.invariant.run.place

pub returns-in-None-clause-run : goal.returns-in-None-clause-run
returns-in-None-clause-run c = c.attempts.invariant.run

pub returns-in-None-clause-stands : goal.returns-in-None-clause-stands
returns-in-None-clause-stands c = c.attempts.invariant.stands

pub returns-clause-run : goal.returns-clause-run
returns-clause-run c = c.attempts.invariant.run

pub returns-clause-stands : goal.returns-clause-stands
returns-clause-stands c = c.attempts.invariant.stands
