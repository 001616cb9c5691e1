use Rattle.std.proofs.Common.{◌+◌, ◌≤◌, arith}
use Rattle.fancy_regex_regular.proofs.FarLemmas.{found_there, none_past_range}
use Rattle.fancy_regex_regular.proofs.longest.reach.Goals as goal

pub steps-preserved : goal.steps-preserved
steps-preserved c =
    let regular = c.args.regular.now in
    let text = c.args.text.now in
    let input = c.args.input.now in
    let inside = rw c.in-Some.is at c.in_ok-found.ensures.inside in
    let end = rw c.in-Some.is at c.in_ok-found.ensures.end in
    record {
      inside = inside.1;
      way = found_there regular text input c.args.start (c.steps.reached + c.steps.gap) c.in-Some.farther end;
      step = omega (arith, c.steps.invariant.step, c.saturating_mul-gap.ensures);
      counts = omega (arith, c.steps.invariant.counts, c.end_from.ensures.counts);
    }

pub returns-clause-past : goal.returns-clause-past
returns-clause-past c =
    none_past_range c.args.regular.now c.args.text.now c.args.input.now c.args.start (c.steps.reached + c.steps.gap)
    (omega (arith, c.steps-test.false, c.steps.invariant.inside))
