use Rattle.std.proofs.Common.{◌-◌, ◌≤◌, Some}
use Rattle.fancy_regex_regular.specs.Ends.{IsEndFrom}
use Rattle.fancy_regex_regular.proofs.longest.reach.Given as goal

abbrev pub invariant-steps : goal.invariant-steps
invariant-steps l = record {
  inside : l.reached ≤ l.input.range.end;
  way : IsEndFrom l.regular l.text l.input l.start l.reached (Some l.reached);
  step : 1 ≤ l.gap;
  counts : l.fn.steps ≤ l.steps;
}

abbrev pub decreases-steps : goal.decreases-steps
decreases-steps l = l.input.range.end - l.reached
