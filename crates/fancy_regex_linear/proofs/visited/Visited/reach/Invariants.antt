use Rattle.std.proofs.Common.{◌≡◌, ◌+◌, ◌-◌, ◌≤◌, max}
use Rattle.fancy_regex_linear.specs.Visited.{IsSame}
use Rattle.fancy_regex_linear.proofs.visited.Visited.reach.Given as goal

abbrev pub invariant-rows : goal.invariant-rows
invariant-rows l = record {
  count : l.self.count ≡ l.initial.self.count;
  base : l.self.base ≡ l.initial.self.base;
  pairs : IsSame l.initial.self l.self;
  rows : l.self.rows ≤ max l.initial.self.rows (l.at - l.initial.self.base + 1);
}

abbrev pub decreases-rows : goal.decreases-rows
decreases-rows l = l.at + 1 - l.self.rows
