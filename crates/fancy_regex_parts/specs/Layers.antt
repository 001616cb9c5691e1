-- What each layer of a search in parts needs, and what it leaves.
use Rattle.std.specs.Prelude.{◌≡◌, ◌+◌, ◌-◌, ◌*◌, ◌^◌, ◌<◌, ◌≤◌, ℕ, List, [], Option, Some, length, min, vec_len}
use Rattle.fancy_regex_class.specs.Looks.{looked_text, look_count, SameCounter}
use Rattle.fancy_regex_class.specs.declared.counted.Counted.{Counted}
use Rattle.fancy_regex_states.specs.Attempts.{View}
use Rattle.fancy_regex_parts.specs.Ways.{Ways, Explains}
use Rattle.fancy_regex_parts.specs.Tables.{IsTable, due, known_cost}
use Rattle.fancy_regex_parts.specs.Recall.{IsStored}
use Rattle.fancy_regex_parts.specs.Frames.{EndsWithin, AllWithin, IsTaskWithin, Tracks, Remembers, pending, task_due, task_mode, top_first}
use Rattle.fancy_regex_parts.specs.declared.frame.Frame.{Frame}
use Rattle.fancy_regex_parts.specs.declared.frame.Frame.TheVariants.{Open}
use Rattle.fancy_regex_parts.specs.declared.frame.Task.{Task}
use Rattle.fancy_regex_parts.specs.declared.frame.Task.TheVariants.{Visit}
use Rattle.fancy_regex_parts.specs.declared.memory.PartMemory.{PartMemory}
use Rattle.fancy_regex_parts.specs.declared.recall.Recall.{Recall}
use Rattle.fancy_regex_parts.specs.declared.step.PartContext.{PartContext}

-- the states of a context have these ways in the text
abbrev pub HasWays : PartContext → List ℕ → View → Ways → Type 0
HasWays context text view ways = Explains context.matchers.now context.rules context.range context.table.now.states.items text view ways

-- the text was looked at, and nothing else was done with it
pub record IsOnlyLookedAt (old new : Counted) : Type 0 where
  pub more : min (look_count old) (2 ^ 64 - 1) ≤ look_count new
  pub text : looked_text new ≡ looked_text old
  pub same_counter : SameCounter old new

-- the text was looked at once, and that look was counted
pub record IsLookedAtOnce (old new : Counted) : Type 0 where
  pub at_most : look_count new ≤ look_count old + 1
  pub at_least : min (look_count old + 1) (2 ^ 64 - 1) ≤ look_count new
  pub looks : IsOnlyLookedAt old new

-- the memory is that of these parts and this text: a row has a cell for each mark, and each end is a place
pub record IsOfText (context : PartContext) (text : List ℕ) (recall : Recall) : Type 0 where
  pub width : recall.width ≡ length context.table.now.heads.items
  pub rows : recall.rows ≤ length text - recall.base + 1
  pub ends : EndsWithin text recall.base recall

-- the task and the stack are of these states and this text
pub record IsAtTask (context : PartContext) (text : List ℕ) (base : ℕ) (next : Task) (stack : List Frame) : Type 0 where
  pub task : IsTaskWithin context.table.now text base next
  pub frames : AllWithin context.table.now text base stack

-- A search can visit the state q at the place i: the table is right, the text is small, the memory is of both, and its frames are of
-- these states and this text.
pub record CanVisit (context : PartContext) (text : Counted) (memory : PartMemory) (q i : ℕ) : Type 0 where
  pub table : IsTable context.table.now
  pub of_text : IsOfText context (looked_text text) memory.recall
  pub small : length (looked_text text) < 2 ^ 63
  pub place : IsAtTask context (looked_text text) memory.recall.base (Visit q i) (top_first memory.stack.items)

-- what a search changes, also one that ran out of memory, where it had so many looks left
pub record IsPaid (context : PartContext) (text new_text : Counted) (recall new_recall : Recall) (left new_left : ℕ) : Type 0 where
  pub base : new_recall.base ≡ recall.base
  pub memory : IsOfText context (looked_text text) new_recall
  pub counted : look_count new_text + new_left + known_cost context.table.now recall
      ≤ look_count text + left + known_cost context.table.now new_recall
  pub looks : IsOnlyLookedAt text new_text

-- where the visit of the state q at the place i leads
pub record IsVisit (context : PartContext) (text : List ℕ) (recall new_recall : Recall) (frames new_frames : List Frame)
    (q i : ℕ) (task : Task) : Type 0 where
  pub tracking : (view : View) (ways : Ways) → HasWays context text view ways → (goal : Option ℕ)
      → Tracks ways context.table.now.heads.items recall.base recall (Visit q i) frames goal
      → Tracks ways context.table.now.heads.items recall.base new_recall task new_frames goal
  pub within : IsAtTask context text recall.base task new_frames
  -- a measure of what is left to be done falls
  pub progress : 6 * (task_due context.table.now task + pending context.table.now new_frames + known_cost context.table.now recall)
      + 2 * length new_frames + task_mode task
      < 6 * (due context.table.now q + pending context.table.now frames + known_cost context.table.now new_recall)
      + 2 * length frames + 1

-- what is known of the parts of these states is true
abbrev pub IsTrueOf : PartContext → Ways → Recall → Type 0
IsTrueOf context ways recall = Remembers ways context.table.now.heads.items recall.base recall []

-- this holds of all ways that the states have in the text, where what the memory remembers of them is true
abbrev pub ForTrueWays : PartContext → Counted → PartMemory → (Ways → Type 0) → Type 0
ForTrueWays context text memory Holds = (view : View) (ways : Ways) → HasWays context (looked_text text) view ways
    → IsTrueOf context ways memory.recall → Holds ways

-- parts can be asked: the table is right, the text is small, and the memory is of both and has no frame
pub record CanAsk (context : PartContext) (text : Counted) (memory : PartMemory) : Type 0 where
  pub table : IsTable context.table.now
  pub of_text : IsOfText context (looked_text text) memory.recall
  pub small : length (looked_text text) < 2 ^ 63
  pub stack : vec_len memory.stack ≡ 0

-- What questions leave, also where memory ran out: what is remembered is still true, the memory is that of the same parts and text and
-- has no frame, and the text was only looked at. So parts can be asked on.
pub record LeavesMemory (context : PartContext) (text new_text : Counted) (memory new_memory : PartMemory) : Type 0 where
  pub remembers : ForTrueWays context text memory (λ ways. IsTrueOf context ways new_memory.recall)
  pub of_text : IsOfText context (looked_text text) new_memory.recall
  pub base : new_memory.recall.base ≡ memory.recall.base
  pub stack : vec_len new_memory.stack ≡ 0
  pub looks : IsOnlyLookedAt text new_text

-- the looks are at most so many, and those of each pair of which something is known now and was not before
abbrev pub IsWithinLooks : PartContext → Counted → Counted → PartMemory → PartMemory → ℕ → Type 0
IsWithinLooks context text new_text memory new_memory looks = look_count new_text + known_cost context.table.now memory.recall
    ≤ look_count text + looks + known_cost context.table.now new_memory.recall

-- the answer came to a frame: an open pair has it from now on
abbrev pub IsResumed : Frame → Option ℕ → Recall → Recall → Type 0
IsResumed (Open k) (Some e) old new = IsStored old new k e × (new.rows ≡ old.rows)
IsResumed _ _ old new = new ≡ old
