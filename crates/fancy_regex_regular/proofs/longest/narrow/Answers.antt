use Rattle.std.proofs.Common.{◌+◌, ◌-◌, ◌/◌, ◌≤◌, arith}
use Rattle.fancy_regex_regular.proofs.FarLemmas.{found_there, none_farther}
use Rattle.fancy_regex_regular.proofs.longest.narrow.Goals as goal

pub steps-preserved-in-Some : goal.steps-preserved-in-Some
steps-preserved-in-Some c =
    let regular = c.args.regular.now in
    let text = c.args.text.now in
    let input = c.args.input.now in
    let start = c.args.start in
    let half = c.steps.left / 2 in
    let inside = rw c.in-Some.is at c.in_ok-found.ensures.inside in
    let end = rw c.in-Some.is at c.in_ok-found.ensures.end in
    record {
      inside = inside.1;
      way = found_there regular text input start (c.steps.reached + half) c.in-Some.farther end;
      past = none_farther regular text input start (c.steps.reached + c.steps.left) (c.in-Some.farther + (c.steps.left - half))
          (omega (arith, inside.0)) c.steps.invariant.past;
      step = omega (arith, c.steps-test.true);
      counts = omega (arith, c.steps.invariant.counts, c.end_from.ensures.counts);
    }
