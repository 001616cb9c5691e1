use Rattle.std.proofs.Common.{◌+◌, ◌≤◌, Some, None}
use Rattle.fancy_regex_regular.specs.Ends.{IsEndFrom}
use Rattle.fancy_regex_regular.proofs.longest.narrow.Given as goal

abbrev pub invariant-steps : goal.invariant-steps
invariant-steps l = record {
  inside : l.reached ≤ l.input.range.end;
  way : IsEndFrom l.regular l.text l.input l.start l.reached (Some l.reached);
  past : IsEndFrom l.regular l.text l.input l.start (l.reached + l.left) None;
  step : 1 ≤ l.left;
  counts : l.fn.steps ≤ l.steps;
}

abbrev pub decreases-steps : goal.decreases-steps
decreases-steps l = l.left
