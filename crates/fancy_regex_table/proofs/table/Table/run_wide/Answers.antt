use Rattle.std.proofs.Common.{arith}
use Rattle.fancy_regex_table.proofs.table.Table.run_wide.Goals as goal

pub places-init : goal.places-init
places-init c = record {
  run = record { low = omega arith; onward = omega arith; place = c.requires.place };
  stands = λ parts rules s table search same text stop here. here;
}

pub places-preserved : goal.places-preserved
places-preserved c =
    let inv = c.places.invariant in
    let later = c.in-Some.ensures.later in
    record {
      run = record { low = omega (arith, inv.run.low, later.low); onward = omega (arith, inv.run.onward, later.onward); place = later.is_in };
      stands = λ parts rules s table search same text stop here.
          c.in-Some.ensures.stands parts rules s table search same text stop (inv.stands parts rules s table search same text stop here);
    }

pub next_place-requires-clause-place : goal.next_place-requires-clause-place
next_place-requires-clause-place c = c.places.invariant.run.place

pub returns-in-None-clause-run : goal.returns-in-None-clause-run
returns-in-None-clause-run c = c.places.invariant.run

pub returns-in-None-clause-stands : goal.returns-in-None-clause-stands
returns-in-None-clause-stands c = c.places.invariant.stands

pub returns-clause-run : goal.returns-clause-run
returns-clause-run c = c.places.invariant.run

pub returns-clause-stands : goal.returns-clause-stands
returns-clause-stands c = c.places.invariant.stands
