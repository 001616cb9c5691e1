use Rattle.std.proofs.Common.{◌≡◌, ◌-◌, ◌≤◌, ℕ, IsCharBoundary}
use Rattle.fancy_regex_class.specs.Looks.{looked_text}
use Rattle.fancy_regex_states.specs.Attempts.{View, Continuation}
use Rattle.fancy_regex_linear.specs.Visited.{Has}
use Rattle.fancy_regex_linear.specs.Search.{AllFail, Explains}
use Rattle.fancy_regex_linear.specs.Layers.{IsAttempt, IsBetweenAttempts}
use Rattle.fancy_regex_linear.specs.Settled.{FailBetween}
use Rattle.fancy_regex_linear.proofs.by_table.first_tried.Given as goal

abbrev pub invariant-starts : goal.invariant-starts
invariant-starts l = record {
  range : (l.from ≤ l.start) × (l.start ≤ l.last);
  boundary : IsCharBoundary (looked_text l.fn.text) l.start;
  found : (view : View) (go : ℕ → Continuation) → Explains l.context (looked_text l.fn.text) view go → AllFail view.longest go (Has l.fn.memory.visited)
      → AllFail view.longest go (Has l.memory.visited) × (l.memory.backtrack.slots.items ≡ l.fn.memory.backtrack.slots.items)
      × FailBetween l.context (looked_text l.fn.text) go l.from l.start;
  attempt : IsAttempt l.context l.fn.text l.text l.fn.memory l.memory l.last;
  base : l.memory.visited.base ≤ l.start;
  between : IsBetweenAttempts l.context l.memory;
}

abbrev pub decreases-starts : goal.decreases-starts
decreases-starts l = l.last - l.start
