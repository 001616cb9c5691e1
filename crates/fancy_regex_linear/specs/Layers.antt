-- What each layer of a search needs, and what it leaves.
use Rattle.std.specs.Prelude.{◌≡◌, ◌+◌, ◌-◌, ◌^◌, ◌<◌, ◌≤◌, ℕ, List, ◌∷◌, Option, None, length, vec_len, min, max}
use Rattle.fancy_regex_class.specs.Looks.{looked_text, look_count, SameCounter}
use Rattle.fancy_regex_class.specs.declared.counted.Counted.{Counted}
use Rattle.fancy_regex_states.specs.Attempts.{View, Continuation}
use Rattle.fancy_regex_linear.specs.Meaning.{Spot}
use Rattle.fancy_regex_linear.specs.Attempt.{trace_end}
use Rattle.fancy_regex_linear.specs.Visited.{Has, pair_count, visited_bound}
use Rattle.fancy_regex_linear.specs.Search.{IsPair, Closed, AllWithin, AllFail, Explains, HasTable, HasMarks, Dfs, After, IsStepWithin, Progresses, top_first, end_spot}
use Rattle.fancy_regex_linear.specs.declared.backtrack.BacktrackState.{BacktrackState}
use Rattle.fancy_regex_linear.specs.declared.frame.Frame.TheVariants.{Explore}
use Rattle.fancy_regex_linear.specs.declared.frame.SearchStep.{SearchStep}
use Rattle.fancy_regex_linear.specs.declared.memory.SearchMemory.{SearchMemory}
use Rattle.fancy_regex_linear.specs.declared.search.SearchContext.{SearchContext}
use Rattle.fancy_regex_linear.specs.declared.visited.Visited.{Visited}

-- the entry is a state, each state names states, and the tables are those of the states
pub record IsSearchContext (context : SearchContext) : Type 0 where
  pub entry : context.entry < length context.states.now
  pub closed : Closed context.states.now
  pub table : HasTable context
  pub marks : HasMarks context

-- the text was looked at, and nothing else was done with it
pub record IsOnlyLookedAt (old new : Counted) : Type 0 where
  pub more : min (look_count old) (2 ^ 64 - 1) ≤ look_count new
  pub text : looked_text new ≡ looked_text old
  pub same_counter : SameCounter old new

-- a search is about to visit the state q at the place i
pub record IsAtPair (context : SearchContext) (text : List ℕ) (visited : Visited) (backtrack : BacktrackState) (q i : ℕ) : Type 0 where
  pub pair : IsPair text (length context.states.now) context.stop visited.base q i
  pub count : visited.count ≡ length context.states.now
  pub within : AllWithin text (length context.states.now) context.stop visited.base (top_first backtrack.stack.items)

-- what a visit changes, also one that ran out of memory: it looks at the text no more often than it marks pairs
pub record IsMarking (context : SearchContext) (text new_text : Counted) (visited new_visited : Visited) : Type 0 where
  pub rows : new_visited.rows ≤ max visited.rows (context.stop - visited.base + 1)
  pub count : new_visited.count ≡ visited.count
  pub base : new_visited.base ≡ visited.base
  pub counted : look_count new_text + pair_count visited ≤ look_count text + pair_count new_visited
  pub looks : IsOnlyLookedAt text new_text

-- where the visit of the state q at the place i leads
pub record IsVisit (context : SearchContext) (text : List ℕ) (visited new_visited : Visited) (backtrack new_backtrack : BacktrackState)
    (q i : ℕ) (step : SearchStep) : Type 0 where
  pub tracking : (view : View) (go : ℕ → Continuation) → Explains context text view go → (goal best : Option Spot) (bottom : List ℕ)
      → Dfs view.longest go goal best bottom (Has visited) (Explore q i ∷ top_first backtrack.stack.items) backtrack.slots.items
      → After view.longest go step i goal best bottom (Has new_visited) (top_first new_backtrack.stack.items) new_backtrack.slots.items
  pub next : IsStepWithin text (length context.states.now) context.stop visited.base step
  pub within : AllWithin text (length context.states.now) context.stop visited.base (top_first new_backtrack.stack.items)
  pub progress : Progresses step (pair_count visited) (pair_count new_visited) (vec_len backtrack.stack) (vec_len new_backtrack.stack)

-- the memory between two attempts: no frames are left
pub record IsBetweenAttempts (context : SearchContext) (memory : SearchMemory) : Type 0 where
  pub count : memory.visited.count ≡ length context.states.now
  pub rows : memory.visited.rows ≤ context.stop - memory.visited.base + 1
  pub empty : vec_len memory.backtrack.stack ≡ 0
  pub farthest : vec_len memory.farthest ≡ vec_len memory.backtrack.slots

-- what an attempt changes, also one that ran out of memory; the first row is of a place up to `low`
pub record IsAttempt (context : SearchContext) (text new_text : Counted) (memory new_memory : SearchMemory) (low : ℕ) : Type 0 where
  pub rows : new_memory.visited.rows ≤ context.stop - new_memory.visited.base + 1
  pub count : new_memory.visited.count ≡ memory.visited.count
  pub base : (memory.visited.base ≤ new_memory.visited.base) × (new_memory.visited.base ≤ low)
  pub slots : vec_len new_memory.backtrack.slots ≡ vec_len memory.backtrack.slots
  pub farthest : vec_len new_memory.farthest ≡ vec_len memory.farthest
  pub counted : look_count new_text + visited_bound memory.visited ≤ look_count text + visited_bound new_memory.visited
  pub looks : IsOnlyLookedAt text new_text

-- The attempt from the state q at the place i ended here, with the slots in the memory; where it failed, all is as it was, but for
-- the pairs that were visited, which fail.
pub record IsAttemptEnd (context : SearchContext) (text : List ℕ) (memory new_memory : SearchMemory) (q i : ℕ) (end : Option ℕ) : Type 0 where
  pub value : (view : View) (go : ℕ → Continuation) → Explains context text view go → AllFail view.longest go (Has memory.visited)
      → end_spot end new_memory.backtrack.slots.items ≡ trace_end memory.backtrack.slots.items (go q i).answer
  pub failed : end ≡ None → (view : View) (go : ℕ → Continuation) → Explains context text view go → AllFail view.longest go (Has memory.visited)
      → AllFail view.longest go (Has new_memory.visited) × (new_memory.backtrack.slots.items ≡ memory.backtrack.slots.items)
  pub empty : end ≡ None → vec_len new_memory.backtrack.stack ≡ 0
