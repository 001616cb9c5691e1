-- A walk along a first way and into its parts.
use Rattle.std.specs.Prelude.{◌≡◌, ℕ, ◌+◌, ◌-◌, ◌*◌, ◌/◌, ◌%◌, ◌<◌, ◌≤◌, ◌⊎◌, true, false, List, [], ◌∷◌, ◌++◌, length, max, Option, Some, None, slice_index_or}
use Rattle.std.specs.Char.{len_utf8}
use Rattle.fancy_regex_states.specs.Attempts.{View, Trace, Continuation, ShowsAll}
use Rattle.fancy_regex_states.specs.First.{state_at}
use Rattle.fancy_regex_states.specs.declared.state.State.{State}
use Rattle.fancy_regex_states.specs.declared.state.State.TheVariants.{Split, Enter, Leave, Ask, Atomic, Match}
use Rattle.fancy_regex_states.specs.declared.state.State.TheVariants as S
use Rattle.fancy_regex_parts.specs.Ways.{Ways, ways_of, text_view, state_after, place_after}
use Rattle.fancy_regex_parts.specs.Tables.{mark_of, due, owed, known_cost, may_write, table_weight}
use Rattle.fancy_regex_parts.specs.Recall.{cell, cell_number, IsSame, IsOpened}
use Rattle.fancy_regex_parts.specs.Frames.{IsInReach, cell_depth}
use Rattle.fancy_regex_parts.specs.Does.{DoWhat}
use Rattle.fancy_regex_parts.specs.Layers.{IsTrueOf}
use Rattle.fancy_regex_parts.specs.Writes.{SameWrites, list_of}
use Rattle.fancy_regex_parts.specs.declared.recall.Recall.{Recall}
use Rattle.fancy_regex_parts.specs.declared.step.PartContext.{PartContext}
use Rattle.fancy_regex_parts.specs.declared.table.PartTable.{PartTable}
use Rattle.fancy_regex_parts.specs.declared.groups.WalkTask.{WalkTask}
use Rattle.fancy_regex_parts.specs.declared.groups.WalkMemory.{WalkMemory}
use Rattle.fancy_regex_parts.specs.declared.groups.WalkTask.TheVariants.{Follow, Part, Join, Keep, Start, End}
use Rattle.fancy_regex_parts.specs.declared.writes.Write.{Write}

-- the states of a context do in the text what `go` says, and the view shows the text
pub record IsTried (context : PartContext) (text : List ℕ) (view : View) (go : ℕ → Continuation) : Type 0 where
  pub first : view.longest ≡ false
  pub does : DoWhat view (length text) context.range context.table.now.states.items go
  pub shows : ShowsAll context.matchers.now context.rules text (text_view view)

-- no state that a walk from this entry comes to takes more looks for a step
unfoldable pub dearest : PartTable → ℕ → ℕ
dearest table entry = max table.most (due table entry)

-- the tasks with the next one first
unfoldable pub last_first : List WalkTask → List WalkTask
last_first [] = []
last_first (f ∷ fs) = last_first fs ++ f ∷ []

-- What is left to be done at a state and after it, the next task first: after a character, after two branches, and at an atomic
-- group. `end` is where the first branch ends, or the part of the group.
abbrev pub read_tasks : ℕ → ℕ → Option ℕ → List WalkTask
read_tasks next at None = []
read_tasks next at (Some c) = Follow next (at + len_utf8 c) ∷ []

abbrev pub back_tasks : ℕ → ℕ → Option ℕ → List WalkTask
back_tasks next at None = []
back_tasks next at (Some c) = Follow next (at - len_utf8 c) ∷ []

abbrev pub branch_of : ℕ → ℕ → Option ℕ → ℕ
branch_of first second None = second
branch_of first second (Some e) = first

abbrev pub group_tasks : ℕ → ℕ → ℕ → ℕ → Option ℕ → List WalkTask
group_tasks part same moved at None = []
group_tasks part same moved at (Some e) = Follow (state_after at same moved e) (place_after at e) ∷ Part part at ∷ []

abbrev pub tasks_at : State → ℕ → Option ℕ → Option ℕ → Option ℕ → List WalkTask
tasks_at (S.Read leaf next) at before after end = read_tasks next at after
tasks_at (S.Look check next) at before after end = Follow next at ∷ []
tasks_at (S.Back next) at before after end = back_tasks next at before
tasks_at (Split first second) at before after end = Follow (branch_of first second end) at ∷ []
tasks_at (Enter g next) at before after end = Follow next at ∷ Start g at ∷ []
tasks_at (Leave g next) at before after end = Follow next at ∷ End g at ∷ []
tasks_at (Ask part false next) at before after end = Follow next at ∷ Part part at ∷ []
tasks_at (Ask part true next) at before after end = Follow next at ∷ []
tasks_at (Atomic part same moved) at before after end = group_tasks part same moved at end
tasks_at Match at before after end = []

abbrev pub part_end_of : Ways → State → ℕ → Option ℕ
part_end_of ways (Split first second) at = ways.end first at
part_end_of ways (Atomic part same moved) at = ways.end part at
part_end_of ways _ at = None

abbrev pub walk_tasks : Ways → Option ℕ → Option ℕ → State → ℕ → List WalkTask
walk_tasks ways before after state at = tasks_at state at before after (part_end_of ways state at)

-- Where a state with this mark is met, and what is found: the list of what the way from there writes, if that is known. If not, it is kept
-- when it is; no way comes to a pair of which nothing is known yet.
abbrev pub IsMet : WalkMemory → WalkMemory → ℕ → Option ℕ → Option ℕ → Type 0
IsMet old new at None None = (new.visited ≡ old.visited) × (last_first new.tasks.items ≡ last_first old.tasks.items)
IsMet old new at None (Some n) = ⊥
IsMet old new at (Some mark) None =
    IsOpened old.visited new.visited (cell_number old.visited mark at)
    × (last_first new.tasks.items ≡ Keep (cell_number old.visited mark at) ∷ last_first old.tasks.items)
IsMet old new at (Some mark) (Some n) =
    IsSame old.visited new.visited
    × ((last_first new.tasks.items ≡ last_first old.tasks.items)
    × (((cell old.visited (cell_number old.visited mark at) ≡ 1) × (n ≡ 0)) ⊎ (cell old.visited (cell_number old.visited mark at) ≡ n + 2)))

abbrev pub IsArrival : PartTable → WalkMemory → WalkMemory → ℕ → ℕ → Option ℕ → Type 0
IsArrival table old new q at found = IsMet old new at (mark_of table q) found

-- what is left, and written, where a part is come to
abbrev pub EntersPart : PartTable → ℕ → ℕ → ℕ → List WalkTask → List WalkTask → ℕ → Type 0
EntersPart table q at written old new list =
    ((may_write table.writes.items q ≡ false) × ((new ≡ old) × (list ≡ written)))
    ⊎ ((new ≡ Follow q at ∷ Join written ∷ old) × (list ≡ 0))

-- The memory of walks is of these parts, a text of this length and places from `base` on: a row has a cell for each mark, and the lists are
-- there.
pub record IsWalkedIn (table : PartTable) (len base : ℕ) (walked : WalkMemory) : Type 0 where
  pub width : walked.visited.width ≡ length table.heads.items
  pub base_is : walked.visited.base ≡ base
  pub rows : walked.visited.rows ≤ len - base + 1
  pub lists : (k n : ℕ) → cell walked.visited k ≡ n + 2 → n ≤ walked.lists.held
  pub held : walked.lists.held ≤ length walked.lists.writes.items

-- what the task leads to is a state at a place that the walk may come to
abbrev pub IsAt : PartTable → List ℕ → ℕ → WalkTask → Type 0
IsAt table text base (Follow q i) = IsInReach table text base q i
IsAt table text base (Part q i) = IsInReach table text base q i
IsAt table text base (Join n) = Unit {0}
IsAt table text base (Keep k) = Unit {0}
IsAt table text base (Start g i) = Unit {0}
IsAt table text base (End g i) = Unit {0}

module _ (table : PartTable) (text : List ℕ) (base dear : ℕ) where
  -- the task is of a state and a place that the walk can come to, and what is due for the state is not more than `dear`
  pub record IsFollowed (q i : ℕ) : Type 0 where
    pub reached : IsInReach table text base q i
    pub cheap : due table q ≤ dear

  abbrev pub IsTaskOf : WalkTask → Type 0
  IsTaskOf (Follow q i) = IsFollowed q i
  IsTaskOf (Part q i) = IsFollowed q i
  IsTaskOf (Join n) = Unit {0}
  IsTaskOf (Keep k) = Unit {0}
  IsTaskOf (Start g i) = i ≤ length text
  IsTaskOf (End g i) = i ≤ length text

  abbrev pub AllTasksWithin : List WalkTask → Type 0
  AllTasksWithin [] = Unit {0}
  AllTasksWithin (x ∷ rest) = IsTaskOf x × AllTasksWithin rest

-- how many tasks are done for one, but for the states that are followed
abbrev pub task_size : WalkTask → ℕ
task_size (Follow q i) = 1
task_size (Part q i) = 3
task_size (Join n) = 1
task_size (Keep k) = 1
task_size (Start g i) = 1
task_size (End g i) = 1

unfoldable pub tasks_size : List WalkTask → ℕ
tasks_size [] = 0
tasks_size (x ∷ rest) = task_size x + tasks_size rest

module _ (table : PartTable) where
  -- what is due for the states that are left to be followed
  abbrev pub task_due : WalkTask → ℕ
  task_due (Follow q i) = due table q
  task_due (Part q i) = due table q
  task_due (Join n) = 0
  task_due (Keep k) = 0
  task_due (Start g i) = 0
  task_due (End g i) = 0

  unfoldable pub tasks_due : List WalkTask → ℕ
  tasks_due [] = 0
  tasks_due (x ∷ rest) = task_due x + tasks_due rest

  -- a bound on the states that are yet to be followed, and a measure of what is left to be done
  abbrev pub looks_left : ℕ → ℕ → Recall → List WalkTask → ℕ
  looks_left len start visited tasks = tasks_due tasks + ((len - start + 1) * table_weight table - known_cost table visited)

  abbrev pub work_left : ℕ → ℕ → Recall → List WalkTask → ℕ
  work_left len start visited tasks = 8 * looks_left len start visited tasks + tasks_size tasks

  -- what following the state q at a place leaves to be done
  pub record AreLeft (text : List ℕ) (base q at : ℕ) (old new : List WalkTask) : Type 0 where
    pub within : (dear : ℕ) → owed table (state_at table.states.items q) ≤ dear
        → AllTasksWithin table text base dear old → AllTasksWithin table text base dear new
    pub due_is : tasks_due new ≤ owed table (state_at table.states.items q) + tasks_due old
    pub few : tasks_size new ≤ tasks_size old + 4

-- what the way of an attempt writes
abbrev pub trace_writes : Option Trace → List (ℕ × ℕ)
trace_writes None = []
trace_writes (Some t) = t.writes

abbrev pub HasTrace : Option Trace → Type 0
HasTrace None = ⊥
HasTrace (Some t) = Unit {0}

module _ (go : ℕ → Continuation) where
  abbrev pub task_writes : WalkTask → List (ℕ × ℕ)
  task_writes (Follow q i) = trace_writes (go q i).answer
  task_writes (Part q i) = trace_writes (go q i).answer
  task_writes (Join n) = []
  task_writes (Keep k) = []
  task_writes (Start g i) = (2 * g, i) ∷ []
  task_writes (End g i) = (2 * g + 1, i) ∷ []

  -- what all tasks write, in the order of the text
  abbrev pub all_writes : List WalkTask → List (ℕ × ℕ)
  all_writes [] = []
  all_writes (x ∷ rest) = all_writes rest ++ task_writes x

  -- each state that is left to be followed has a way
  abbrev pub HasWay : WalkTask → Type 0
  HasWay (Follow q i) = HasTrace (go q i).answer
  HasWay (Part q i) = HasTrace (go q i).answer
  HasWay (Join n) = Unit {0}
  HasWay (Keep k) = Unit {0}
  HasWay (Start g i) = Unit {0}
  HasWay (End g i) = Unit {0}

  abbrev pub HaveWays : List WalkTask → Type 0
  HaveWays [] = Unit {0}
  HaveWays (x ∷ rest) = HasWay x × HaveWays rest

  abbrev pub IsBelow : ℕ → WalkTask → Type 0
  IsBelow d (Follow q i) = (go q i).depth < d
  IsBelow d (Part q i) = (go q i).depth < d
  IsBelow d (Join n) = Unit {0}
  IsBelow d (Keep k) = Unit {0}
  IsBelow d (Start g i) = Unit {0}
  IsBelow d (End g i) = Unit {0}

-- what the way from the pair of this cell writes is to be kept
abbrev pub IsKept : ℕ → List WalkTask → Type 0
IsKept k [] = ⊥
IsKept k (Follow q i ∷ rest) = IsKept k rest
IsKept k (Part q i ∷ rest) = IsKept k rest
IsKept k (Join n ∷ rest) = IsKept k rest
IsKept k (Keep j ∷ rest) = (k ≡ j) ⊎ IsKept k rest
IsKept k (Start g i ∷ rest) = IsKept k rest
IsKept k (End g i ∷ rest) = IsKept k rest

module _ (go : ℕ → Continuation) (heads : List ℕ) (base : ℕ) where
  -- what the way from the pair of a cell writes
  abbrev pub cell_writes : ℕ → List (ℕ × ℕ)
  cell_writes k = trace_writes (go (slice_index_or heads (k % length heads) 0) (base + k / length heads)).answer

  -- each pair that is to be kept is deeper than d
  abbrev pub IsBelowKept : ℕ → List WalkTask → Type 0
  IsBelowKept d [] = Unit {0}
  IsBelowKept d (Follow q i ∷ rest) = IsBelowKept d rest
  IsBelowKept d (Part q i ∷ rest) = IsBelowKept d rest
  IsBelowKept d (Join n ∷ rest) = IsBelowKept d rest
  IsBelowKept d (Keep k ∷ rest) = (d < cell_depth (ways_of go) heads base k) × IsBelowKept d rest
  IsBelowKept d (Start g i ∷ rest) = IsBelowKept d rest
  IsBelowKept d (End g i ∷ rest) = IsBelowKept d rest

  module _ (writes : List Write) where
    -- The tasks make the goal of what is written; on the way what each pair writes is kept, and what is followed is below the pairs that
    -- are to be kept.
    abbrev pub Leads : List WalkTask → List (ℕ × ℕ) → List (ℕ × ℕ) → Type 0
    Leads [] ws goal = SameWrites ws goal
    Leads (Follow q i ∷ rest) ws goal =
        HasTrace (go q i).answer × (IsBelowKept (go q i).depth rest × Leads rest (trace_writes (go q i).answer) goal)
    Leads (Part q i ∷ rest) ws goal =
        HasTrace (go q i).answer × (IsBelowKept (go q i).depth rest × Leads rest (trace_writes (go q i).answer ++ ws) goal)
    Leads (Join n ∷ rest) ws goal = (n ≤ length writes) × Leads rest (ws ++ list_of writes n) goal
    Leads (Keep k ∷ rest) ws goal = SameWrites ws (cell_writes k) × Leads rest ws goal
    Leads (Start g i ∷ rest) ws goal = Leads rest ((2 * g, i) ∷ ws) goal
    Leads (End g i ∷ rest) ws goal = Leads rest ((2 * g + 1, i) ∷ ws) goal

    -- what the cells say is true, but for those of the pairs that are to be kept
    pub record AreWritten (visited : Recall) (tasks : List WalkTask) : Type 0 where
      pub opened : (k : ℕ) → cell visited k ≡ 1 → IsKept k tasks
      pub known : (k n : ℕ) → cell visited k ≡ n + 2 → SameWrites (list_of writes n) (cell_writes k)

    -- the state of a walk that is to write this, where the list of the number `written` is written
    pub record IsWalking (visited : Recall) (tasks : List WalkTask) (written : ℕ) (goal : List (ℕ × ℕ)) : Type 0 where
      pub leads : Leads tasks (list_of writes written) goal
      pub cells : AreWritten visited tasks

-- what walks have found out is true of what the states do
abbrev pub AreWalked : (ℕ → Continuation) → List ℕ → WalkMemory → Type 0
AreWalked go heads walked = AreWritten go heads walked.visited.base walked.lists.writes.items walked.visited []

-- this holds of all that the states may do in the text, where what the memory remembers of it is true
abbrev pub ForTried : PartContext → List ℕ → Recall → ((ℕ → Continuation) → Type 0) → Type 0
ForTried context text recall Holds = (view : View) (go : ℕ → Continuation) → IsTried context text view go
    → IsTrueOf context (ways_of go) recall → Holds go
