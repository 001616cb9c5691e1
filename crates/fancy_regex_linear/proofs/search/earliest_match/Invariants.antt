use Rattle.std.proofs.Common.{◌≡◌, ℕ, ◌+◌, ◌-◌, ◌^◌, ◌≤◌, length, min, unwrap_or, IfSome, IsCharBoundary}
use Rattle.fancy_regex_class.specs.Looks.{looked_text, look_count}
use Rattle.fancy_regex_states.specs.Attempts.{View, Continuation}
use Rattle.fancy_regex_linear.specs.Find.{earliest, attempted, places, places_from}
use Rattle.fancy_regex_linear.specs.Starts.{spot_from}
use Rattle.fancy_regex_linear.specs.Visited.{Has, visited_bound}
use Rattle.fancy_regex_linear.specs.Search.{AllFail, Explains}
use Rattle.fancy_regex_linear.specs.Layers.{IsBetweenAttempts, IsOnlyLookedAt}
use Rattle.fancy_regex_linear.proofs.search.earliest_match.Given as goal

abbrev pub invariant-starts : goal.invariant-starts
invariant-starts l = record {
  found : (view : View) (go : ℕ → Continuation) → Explains l.context (looked_text l.fn.text) view go
      → AllFail view.longest go (Has l.fn.memory.visited)
      → AllFail view.longest go (Has l.memory.visited) × (l.memory.backtrack.slots.items ≡ l.fn.memory.backtrack.slots.items)
      × (earliest (spot_from go l.context.entry l.fn.memory.backtrack.slots.items) (places (looked_text l.fn.text) l.mode.anchored l.start l.context.stop)
      ≡ earliest (spot_from go l.context.entry l.fn.memory.backtrack.slots.items) (places_from (looked_text l.fn.text) l.mode.anchored l.from l.context.stop))
      × (min (look_count l.fn.text + attempted (spot_from go l.context.entry l.fn.memory.backtrack.slots.items) (places (looked_text l.fn.text) l.mode.anchored l.start l.context.stop)) (2 ^ 64 - 1)
      ≤ min (look_count l.text + attempted (spot_from go l.context.entry l.fn.memory.backtrack.slots.items) (places_from (looked_text l.fn.text) l.mode.anchored l.from l.context.stop)) (2 ^ 64 - 1));
  from : IfSome l.from (λ i. (l.start ≤ i) × (i ≤ l.context.stop) × IsCharBoundary (looked_text l.fn.text) i);
  between : IsBetweenAttempts l.context l.memory;
  base : (l.memory.visited.base ≤ l.context.stop) × IfSome l.from (λ i. l.memory.visited.base ≤ i);
  at_most : look_count l.text + visited_bound l.fn.memory.visited ≤ look_count l.fn.text + visited_bound l.memory.visited + (unwrap_or l.from (l.context.stop + 1) - l.start);
  looks : IsOnlyLookedAt l.fn.text l.text;
}

abbrev pub decreases-starts : goal.decreases-starts
decreases-starts l = l.context.stop + 1 - unwrap_or l.from (l.context.stop + 1)
