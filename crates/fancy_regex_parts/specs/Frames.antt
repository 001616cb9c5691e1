-- The stack of a search in parts: what becomes of the answer that is found above it.
use Rattle.std.specs.Prelude.{◌≡◌, ℕ, ◌+◌, ◌-◌, ◌/◌, ◌%◌, ◌<◌, ◌≤◌, ◌⊎◌, true, false, List, [], ◌∷◌, ◌++◌, length, max, Option, Some, None, option_and_then, if◌then◌else◌, slice_index_or, IsCharBoundary}
use Rattle.std.specs.Char.{len_utf8}
use Rattle.fancy_regex_class.specs.declared.class.CharClassMatcher.{CharClassMatcher}
use Rattle.fancy_regex_states.specs.CharTests.{leaf_matches_char, passes}
use Rattle.fancy_regex_states.specs.declared.atom.Leaf.{Leaf}
use Rattle.fancy_regex_states.specs.declared.rules.Rules.{Rules}
use Rattle.fancy_regex_parts.specs.Ways.{Ways, or_else, if_asked, state_after, place_after, match_end}
use Rattle.fancy_regex_states.specs.Attempts.{NamesBelow}
use Rattle.fancy_regex_parts.specs.Tables.{due, lowest_of, lowest_for}
use Rattle.fancy_regex_parts.specs.Recall.{cell}
use Rattle.fancy_regex_parts.specs.declared.frame.Frame.{Frame}
use Rattle.fancy_regex_parts.specs.declared.frame.Frame.TheVariants.{Branch, Open, Ask, Atomic}
use Rattle.fancy_regex_parts.specs.declared.frame.Task.{Task}
use Rattle.fancy_regex_parts.specs.declared.frame.Task.TheVariants.{Visit, Answer}
use Rattle.fancy_regex_parts.specs.declared.recall.Recall.{Recall}
use Rattle.fancy_regex_parts.specs.declared.step.EndRange.{EndRange}
use Rattle.fancy_regex_states.specs.declared.state.State.{State}
use Rattle.fancy_regex_states.specs.declared.state.State.TheVariants as S
use Rattle.fancy_regex_parts.specs.declared.table.PartTable.{PartTable}

-- the frames with the last one first
unfoldable pub top_first : List Frame → List Frame
top_first [] = []
top_first (f ∷ fs) = top_first fs ++ f ∷ []

-- What a state leaves to be done, and what is done next.
abbrev pub step_frames : State → ℕ → List Frame → List Frame
step_frames (S.Read leaf next) at frames = frames
step_frames (S.Look check next) at frames = frames
step_frames (S.Back next) at frames = frames
step_frames (S.Split first second) at frames = Branch second at ∷ frames
step_frames (S.Ask part negated next) at frames = Ask negated next at ∷ frames
step_frames (S.Enter g next) at frames = frames
step_frames (S.Leave g next) at frames = frames
step_frames (S.Atomic part same moved) at frames = Atomic at same moved ∷ frames
step_frames S.Match at frames = frames

-- what is done next behind the character before
abbrev pub back_task : ℕ → ℕ → Option ℕ → Task
back_task next at None = Answer None
back_task next at (Some c) = Visit next (at - len_utf8 c)

module _ (matchers : List CharClassMatcher) (rules : Rules) where
  abbrev pub read_task : Leaf → ℕ → ℕ → Option ℕ → Task
  read_task leaf next at None = Answer None
  read_task leaf next at (Some c) =
      if leaf_matches_char rules.unicode matchers leaf c then Visit next (at + len_utf8 c) else Answer None

  -- what is done next after a state, which has the number q
  abbrev pub step_task : EndRange → ℕ → State → ℕ → Option ℕ → Option ℕ → Task
  step_task range q (S.Read leaf next) at before after = read_task leaf next at after
  step_task range q (S.Look check next) at before after = if passes matchers rules check at before after then Visit next at else Answer None
  step_task range q (S.Back next) at before after = back_task next at before
  step_task range q (S.Split first second) at before after = Visit first at
  step_task range q (S.Ask part negated next) at before after = Visit part at
  step_task range q (S.Enter g next) at before after = Visit next at
  step_task range q (S.Leave g next) at before after = Visit next at
  step_task range q (S.Atomic part same moved) at before after = Visit part at
  step_task range q S.Match at before after = Answer (match_end range q at)

-- what is done next where the answer comes to a frame
abbrev pub resume_task : Frame → Option ℕ → Task
resume_task (Branch q i) None = Visit q i
resume_task (Branch q i) (Some e) = Answer (Some e)
resume_task (Open k) end = Answer end
resume_task (Ask false next i) None = Answer None
resume_task (Ask false next i) (Some e) = Visit next i
resume_task (Ask true next i) None = Visit next i
resume_task (Ask true next i) (Some e) = Answer None
resume_task (Atomic i same moved) None = Answer None
resume_task (Atomic i same moved) (Some e) = Visit (state_after i same moved e) (place_after i e)

-- i is a place of the text from `base` on
pub record IsPlace (text : List ℕ) (base i : ℕ) : Type 0 where
  pub low : base ≤ i
  pub boundary : IsCharBoundary text i

-- q is a state, i a place, and a search from there is asked about no byte offset before `base`
pub record IsInReach (table : PartTable) (text : List ℕ) (base q i : ℕ) : Type 0 where
  pub state : q < length table.states.items
  pub boundary : IsCharBoundary text i
  pub low : base ≤ lowest_of table q i

-- the same of all states that this one leads to at the place
pub record IsLedInReach (table : PartTable) (text : List ℕ) (base : ℕ) (state : State) (i : ℕ) : Type 0 where
  pub names : NamesBelow (length table.states.items) state
  pub boundary : IsCharBoundary text i
  pub low : base ≤ lowest_for table state i

module _ (table : PartTable) (text : List ℕ) (base : ℕ) where
  abbrev pub IsFrameWithin : Frame → Type 0
  IsFrameWithin (Branch q i) = IsInReach table text base q i
  IsFrameWithin (Open k) = Unit {0}
  IsFrameWithin (Ask negated next i) = IsInReach table text base next i
  IsFrameWithin (Atomic i same moved) = IsInReach table text base same i × IsInReach table text base moved i

  abbrev pub AllWithin : List Frame → Type 0
  AllWithin [] = Unit {0}
  AllWithin (f ∷ rest) = IsFrameWithin f × AllWithin rest

  abbrev pub IsTaskWithin : Task → Type 0
  IsTaskWithin (Visit q i) = IsInReach table text base q i
  IsTaskWithin (Answer None) = Unit {0}
  IsTaskWithin (Answer (Some e)) = IsPlace text base e

-- each way that is known ends at a place
abbrev pub EndsWithin : List ℕ → ℕ → Recall → Type 0
EndsWithin text base recall = (k e : ℕ) → cell recall k ≡ e + 2 → IsPlace text base e

module _ (table : PartTable) where
  -- what is due for the states that the stack leads to
  abbrev pub frame_due : Frame → ℕ
  frame_due (Branch q i) = due table q
  frame_due (Open k) = 0
  frame_due (Ask negated next i) = due table next
  frame_due (Atomic i same moved) = max (due table same) (due table moved)

  unfoldable pub pending : List Frame → ℕ
  pending [] = 0
  pending (f ∷ rest) = frame_due f + pending rest

  abbrev pub task_due : Task → ℕ
  task_due (Visit q i) = due table q
  task_due (Answer end) = 0

abbrev pub task_mode : Task → ℕ
task_mode (Visit q i) = 1
task_mode (Answer end) = 0

-- the pair of the cell k is open: its answer is looked for
abbrev pub IsOpen : ℕ → List Frame → Type 0
IsOpen k [] = ⊥
IsOpen k (Branch q i ∷ rest) = IsOpen k rest
IsOpen k (Open j ∷ rest) = (k ≡ j) ⊎ IsOpen k rest
IsOpen k (Ask negated next i ∷ rest) = IsOpen k rest
IsOpen k (Atomic i same moved ∷ rest) = IsOpen k rest

module _ (ways : Ways) (heads : List ℕ) (base : ℕ) where
  -- the answer and the depth of the pair of a cell
  abbrev pub cell_end : ℕ → Option ℕ
  cell_end k = ways.end (slice_index_or heads (k % length heads) 0) (base + k / length heads)

  abbrev pub cell_depth : ℕ → ℕ
  cell_depth k = ways.depth (slice_index_or heads (k % length heads) 0) (base + k / length heads)

  -- each open pair is deeper than d
  abbrev pub IsBelowOpen : ℕ → List Frame → Type 0
  IsBelowOpen d [] = Unit {0}
  IsBelowOpen d (Branch q i ∷ rest) = IsBelowOpen d rest
  IsBelowOpen d (Open k ∷ rest) = (d < cell_depth k) × IsBelowOpen d rest
  IsBelowOpen d (Ask negated next i ∷ rest) = IsBelowOpen d rest
  IsBelowOpen d (Atomic i same moved ∷ rest) = IsBelowOpen d rest

  -- The frames make the goal of this answer; on the way each open pair gets its answer, and what is tried is below the open pairs.
  abbrev pub Resumes : List Frame → Option ℕ → Option ℕ → Type 0
  Resumes [] answer goal = answer ≡ goal
  Resumes (Branch q i ∷ rest) answer goal =
      IsBelowOpen (ways.depth q i) rest × Resumes rest (or_else answer (ways.end q i)) goal
  Resumes (Open k ∷ rest) answer goal = (answer ≡ cell_end k) × Resumes rest answer goal
  Resumes (Ask negated next i ∷ rest) answer goal =
      IsBelowOpen (ways.depth next i) rest × Resumes rest (if_asked negated answer (ways.end next i)) goal
  Resumes (Atomic i same moved ∷ rest) answer goal =
      ((e : ℕ) → answer ≡ Some e → IsBelowOpen (ways.depth (state_after i same moved e) (place_after i e)) rest)
      × Resumes rest (option_and_then (λ e. ways.end (state_after i same moved e) (place_after i e)) answer) goal

  abbrev pub task_end : Task → Option ℕ
  task_end (Visit q i) = ways.end q i
  task_end (Answer end) = end

  abbrev pub IsTaskBelow : Task → List Frame → Type 0
  IsTaskBelow (Visit q i) frames = IsBelowOpen (ways.depth q i) frames
  IsTaskBelow (Answer end) frames = Unit {0}

  -- what the cells say is true, but for those of the pairs that are open
  pub record Remembers (recall : Recall) (frames : List Frame) : Type 0 where
    pub fails : (k : ℕ) → cell recall k ≡ 1 → (cell_end k ≡ None) ⊎ IsOpen k frames
    pub ends : (k e : ℕ) → cell recall k ≡ e + 2 → cell_end k ≡ Some e

  -- the state of a search for `goal`
  pub record Tracks (recall : Recall) (task : Task) (frames : List Frame) (goal : Option ℕ) : Type 0 where
    pub resumes : Resumes frames (task_end task) goal
    pub below : IsTaskBelow task frames
    pub remembers : Remembers recall frames
