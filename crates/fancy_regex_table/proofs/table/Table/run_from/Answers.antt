use Rattle.std.proofs.Common.{◌<◌, ℕ, List, sym, ap, subst, arith, get_or, length, IsCharBoundary}
use Rattle.fancy_regex_table.specs.Tables.{IsAsciiAt}
use Rattle.fancy_regex_table.proofs.TableLemmas.{ascii_here, later_at}
use Rattle.fancy_regex_table.proofs.table.Table.run_from.Goals as goal

pub chars-init : goal.chars-init
chars-init c = record {
  run = record { low = omega arith; onward = omega arith; place = c.requires.place };
  stands = λ parts rules s table search text stop here. here;
}

pub chars-preserved : goal.chars-preserved
chars-preserved c =
    let inv = c.chars.invariant in
    let at = c.chars.place.at in
    let text = c.args.text.now in
    let byte = get_or c.as_bytes-bytes.result.now at 0 in
    let onward = c.in-Some.ensures.onward in
    let inside : at < length text = omega (arith, c.chars-test.true, c.requires.stop) in
    let ascii : byte < 128 → IsAsciiAt text at byte =
    λ small. ascii_here text at byte 0 c.utf8.text inv.run.place.boundary inside (ap (λ (t : List ℕ). get_or t at 0) c.as_bytes-bytes.ensures.value) small in
    let next_at = onward.at in
    let later = later_at text c.args.stop c.chars.place c.in-Some.next inv.run.place (omega (arith, next_at)) (omega (arith, next_at, c.chars-test.true))
    (subst (IsCharBoundary text) (sym next_at) (ascii onward.ascii).boundary_next) onward.start in
    record {
      run = record { low = omega (arith, inv.run.low, later.low); onward = omega (arith, inv.run.onward, later.onward); place = later.is_in };
      stands = λ parts rules s table search text_is stop here.
          c.in-Some.ensures.stands parts rules s table search (λ small. subst (λ (t : List ℕ). IsAsciiAt t at byte) (sym text_is) (ascii small))
          (omega (arith, c.chars-test.true, stop)) (inv.stands parts rules s table search text_is stop here);
    }

pub step-requires-clause-order : goal.step-requires-clause-order
step-requires-clause-order c = c.chars.invariant.run.place.order

pub returns-in-None-clause-run : goal.returns-in-None-clause-run
returns-in-None-clause-run c = c.chars.invariant.run

pub returns-in-None-clause-stands : goal.returns-in-None-clause-stands
returns-in-None-clause-stands c = c.chars.invariant.stands

pub returns-clause-run : goal.returns-clause-run
returns-clause-run c = c.chars.invariant.run

pub returns-clause-stands : goal.returns-clause-stands
returns-clause-stands c = c.chars.invariant.stands
