-- What is due for the frames and the task of a search.
use Rattle.std.proofs.Common.{◌≡◌, ℕ, ◌+◌, ◌≤◌, true, false, List, [], ◌∷◌, length, max, Option, Some, None, refl, arith}
use Rattle.fancy_regex_class.specs.declared.class.CharClassMatcher.{CharClassMatcher}
use Rattle.fancy_regex_states.specs.CharTests.{leaf_matches_char, passes}
use Rattle.fancy_regex_states.specs.declared.rules.Rules.{Rules}
use Rattle.std.specs.Prelude.{nat_lt}
use Rattle.std.specs.Char.{len_utf8}
use Rattle.fancy_regex_parts.specs.Tables.{owed, due}
use Rattle.fancy_regex_parts.specs.Frames.{step_frames, step_task, resume_task, frame_due, pending, task_due, task_mode}
use Rattle.fancy_regex_parts.specs.declared.frame.Frame.{Frame}
use Rattle.fancy_regex_parts.specs.declared.frame.Frame.TheVariants.{Branch, Open, Ask, Atomic}
use Rattle.fancy_regex_parts.specs.declared.frame.Task.{Task}
use Rattle.fancy_regex_parts.specs.declared.frame.Task.TheVariants.{Visit, Answer}
use Rattle.fancy_regex_states.specs.declared.state.State.{State}
use Rattle.fancy_regex_states.specs.declared.state.State.TheVariants as S
use Rattle.fancy_regex_parts.specs.declared.table.PartTable.{PartTable}
use Rattle.fancy_regex_parts.proofs.StackLemmas.{task_if, one_of}
use Rattle.fancy_regex_parts.specs.declared.step.EndRange.{EndRange}

pub mode_most : (task : Task) → task_mode task ≤ 1
mode_most (Visit q i) = omega arith
mode_most (Answer end) = omega arith

pub step_length : (state : State) (at : ℕ) (frames : List Frame) → length (step_frames state at frames) ≤ length frames + 1
step_length (S.Read leaf next) at frames = omega arith
step_length (S.Look check next) at frames = omega arith
step_length (S.Back next) at frames = omega arith
step_length (S.Split first second) at frames = omega arith
step_length (S.Ask part negated next) at frames = omega arith
step_length (S.Enter g next) at frames = omega arith
step_length (S.Leave g next) at frames = omega arith
step_length (S.Atomic part same moved) at frames = omega arith
step_length S.Match at frames = omega arith

module _ (table : PartTable) where
  pub pending_cons : (f : Frame) (rest : List Frame) → pending table (f ∷ rest) ≡ frame_due table f + pending table rest
  unfolding pending
  pending_cons f rest = refl

  pub pending_none : pending table [] ≡ 0
  unfolding pending
  pending_none = refl

  -- a step leaves no more than what is owed
  pub step_due : (matchers : List CharClassMatcher) (rules : Rules) (range : EndRange) (q : ℕ) (state : State) (at : ℕ) (before after : Option ℕ) (frames : List Frame)
      → task_due table (step_task matchers rules range q state at before after) + pending table (step_frames state at frames)
      ≤ owed table state + pending table frames
  step_due matchers rules range q (S.Read leaf next) at before None frames = omega arith
  step_due matchers rules range q (S.Read leaf next) at before (Some c) frames =
      task_if (λ task. task_due table task + pending table frames ≤ due table next + pending table frames)
      (leaf_matches_char rules.unicode matchers leaf c) (Visit next (at + len_utf8 c)) (Answer None) (λ yes. omega arith) (λ no. omega arith)
  step_due matchers rules range q (S.Look check next) at before after frames =
      task_if (λ task. task_due table task + pending table frames ≤ due table next + pending table frames)
      (passes matchers rules check at before after) (Visit next at) (Answer None) (λ yes. omega arith) (λ no. omega arith)
  step_due matchers rules range q (S.Back next) at None after frames = omega arith
  step_due matchers rules range q (S.Back next) at (Some c) after frames = omega arith
  step_due matchers rules range q (S.Split first second) at before after frames = omega (arith, pending_cons (Branch second at) frames)
  step_due matchers rules range q (S.Ask part negated next) at before after frames = omega (arith, pending_cons (Ask negated next at) frames)
  step_due matchers rules range q (S.Enter g next) at before after frames = omega arith
  step_due matchers rules range q (S.Leave g next) at before after frames = omega arith
  step_due matchers rules range q (S.Atomic part same moved) at before after frames = omega (arith, pending_cons (Atomic at same moved) frames)
  step_due matchers rules range q S.Match at before after frames = omega arith

  -- nor does a frame
  pub resume_due : (f : Frame) (end : Option ℕ) → task_due table (resume_task f end) ≤ frame_due table f
  resume_due (Branch q i) None = omega arith
  resume_due (Branch q i) (Some e) = omega arith
  resume_due (Open k) end = omega arith
  resume_due (Ask false next i) None = omega arith
  resume_due (Ask false next i) (Some e) = omega arith
  resume_due (Ask true next i) None = omega arith
  resume_due (Ask true next i) (Some e) = omega arith
  resume_due (Atomic i same moved) None = omega arith
  resume_due (Atomic i same moved) (Some e) =
      one_of (λ q. due table q ≤ max (due table same) (due table moved)) (nat_lt i e) moved same (omega arith) (omega arith)
