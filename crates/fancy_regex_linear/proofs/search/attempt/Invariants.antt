use Rattle.std.proofs.Common.{◌≡◌, ℕ, ◌+◌, ◌-◌, ◌*◌, ◌≤◌, ◌∷◌, false, None, length, vec_len}
use Rattle.fancy_regex_class.specs.Looks.{looked_text, look_count}
use Rattle.fancy_regex_states.specs.Attempts.{View, Continuation}
use Rattle.fancy_regex_linear.specs.Attempt.{trace_end}
use Rattle.fancy_regex_linear.specs.Visited.{Has, pair_count}
use Rattle.fancy_regex_linear.specs.Search.{AllFail, Explains, Dfs, top_first, end_spot}
use Rattle.fancy_regex_linear.specs.Layers.{IsAtPair, IsOnlyLookedAt}
use Rattle.fancy_regex_linear.specs.declared.frame.Frame.TheVariants.{Explore}
use Rattle.fancy_regex_linear.proofs.search.attempt.Given as goal

abbrev pub invariant-pairs : goal.invariant-pairs
invariant-pairs l = record {
  tracking : (view : View) (go : ℕ → Continuation) → Explains l.context (looked_text l.fn.text) view go
      → AllFail view.longest go (Has l.fn.memory.visited)
      → Dfs view.longest go (trace_end l.fn.memory.backtrack.slots.items (go l.entry l.from).answer) (end_spot l.best l.memory.farthest.items) l.fn.memory.backtrack.slots.items
      (Has l.memory.visited) (Explore l.id l.at ∷ top_first l.memory.backtrack.stack.items) l.memory.backtrack.slots.items;
  first : l.context.rules.longest ≡ false → l.best ≡ None;
  place : IsAtPair l.context (looked_text l.text) l.memory.visited l.memory.backtrack l.id l.at;
  base : l.memory.visited.base ≡ l.fn.memory.visited.base;
  rows : l.memory.visited.rows ≤ l.context.stop - l.fn.memory.visited.base + 1;
  slots : vec_len l.memory.backtrack.slots ≡ vec_len l.fn.memory.backtrack.slots;
  farthest : vec_len l.memory.farthest ≡ vec_len l.fn.memory.farthest;
  counted : look_count l.text + pair_count l.fn.memory.visited ≤ look_count l.fn.text + pair_count l.memory.visited;
  looks : IsOnlyLookedAt l.fn.text l.text;
}

abbrev pub decreases-pairs : goal.decreases-pairs
decreases-pairs l =
    2 * ((l.context.stop - l.fn.memory.visited.base + 1) * length l.context.states.now - pair_count l.memory.visited) + vec_len l.memory.backtrack.stack
