use Rattle.std.proofs.Common.{◌≡◌, ℕ, ◌+◌, ◌-◌, ◌^◌, ◌≤◌, List, min, IsCharBoundary}
use Rattle.fancy_regex_class.specs.Looks.{looked_text, look_count, SameCounter}
use Rattle.fancy_regex_states.specs.Attempts.{View, Continuation}
use Rattle.fancy_regex_linear.specs.Find.{earliest, attempted, places}
use Rattle.fancy_regex_linear.specs.Starts.{spot_from, IsDropped}
use Rattle.fancy_regex_linear.specs.Search.{Explains}
use Rattle.fancy_regex_linear.specs.Visited.{visited_bound}
use Rattle.fancy_regex_linear.proofs.starts.next_start.Given as goal

abbrev pub invariant-starts : goal.invariant-starts
invariant-starts l = record {
  passed : (view : View) (go : ℕ → Continuation) → Explains l.context (looked_text l.fn.text) view go
      → (slots : List ℕ)
      → (earliest (spot_from go l.context.entry slots) (places (looked_text l.fn.text) l.anchored l.from l.context.stop)
      ≡ earliest (spot_from go l.context.entry slots) (places (looked_text l.fn.text) l.anchored l.at l.context.stop))
      × (min (look_count l.fn.text + attempted (spot_from go l.context.entry slots) (places (looked_text l.fn.text) l.anchored l.from l.context.stop)) (2 ^ 64 - 1)
      ≤ min (look_count l.text + attempted (spot_from go l.context.entry slots) (places (looked_text l.fn.text) l.anchored l.at l.context.stop)) (2 ^ 64 - 1));
  at : (l.from ≤ l.at) × (l.at ≤ l.context.stop) × IsCharBoundary (looked_text l.fn.text) l.at;
  at_most : look_count l.text + l.from + visited_bound l.fn.visited ≤ look_count l.fn.text + visited_bound l.visited + l.at;
  dropped : IsDropped l.fn.visited l.visited l.at;
  more : min (look_count l.fn.text) (2 ^ 64 - 1) ≤ look_count l.text;
  text : looked_text l.text ≡ looked_text l.fn.text;
  same_counter : SameCounter l.fn.text l.text;
}

abbrev pub decreases-starts : goal.decreases-starts
decreases-starts l = l.context.stop - l.at
