use Rattle.std.proofs.Common.{◌+◌, ◌-◌, ◌≤◌, max}
use Rattle.fancy_regex_parts.specs.Recall.{IsSame}
use Rattle.fancy_regex_parts.proofs.recall.Recall.reach.Given as goal

abbrev pub invariant-rows : goal.invariant-rows
invariant-rows l = record {
  same : IsSame l.initial.self l.self;
  rows : l.self.rows ≤ max l.initial.self.rows (l.at - l.initial.self.base + 1);
}

abbrev pub decreases-rows : goal.decreases-rows
decreases-rows l = l.at + 1 - l.self.rows
