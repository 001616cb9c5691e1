-- What the visit of a pair leaves.
use Rattle.std.proofs.Common.{◌≡◌, ℕ, ◌+◌, ◌-◌, ◌*◌, ◌^◌, ◌<◌, ◌≤◌, ◌∙◌, List, ◌∷◌, length, Option, Some, None, refl, sym, ap, subst, arith, max}
use Rattle.std.specs.Prelude.{IfSome, IsCharBoundary}
use Rattle.std.specs.Char.{len_utf8}
use Rattle.regex_hir.specs.Text.{char_at, char_before}
use Rattle.fancy_regex_class.specs.Looks.{looked_text, look_count}
use Rattle.fancy_regex_class.specs.declared.counted.Counted.{Counted}
use Rattle.fancy_regex_states.specs.Attempts.{NamesBelow}
use Rattle.fancy_regex_states.specs.First.{state_at}
use Rattle.fancy_regex_parts.specs.Tables.{IsTable, IsRightAt, lowest_of, needed_reach_of, reach_of, mark_of, cost_of, cell_cost, known_cost, due, due_of, owed}
use Rattle.fancy_regex_parts.specs.Recall.{cell, cell_number, IsSame, IsOpened}
use Rattle.fancy_regex_parts.specs.Frames.{AllWithin, step_frames, step_task, IsPlace, IsInReach, IsLedInReach, pending, task_due}
use Rattle.fancy_regex_parts.specs.Layers.{IsOnlyLookedAt, IsOfText, IsAtTask, IsPaid, IsVisit}
use Rattle.fancy_regex_parts.specs.declared.frame.Frame.{Frame}
use Rattle.fancy_regex_parts.specs.declared.frame.Frame.TheVariants.{Open}
use Rattle.fancy_regex_parts.specs.declared.frame.Task.{Task}
use Rattle.fancy_regex_parts.specs.declared.frame.Task.TheVariants.{Visit, Answer}
use Rattle.fancy_regex_parts.specs.declared.recall.Recall.{Recall}
use Rattle.fancy_regex_states.specs.declared.state.State.{State}
use Rattle.fancy_regex_parts.specs.declared.step.PartContext.{PartContext}
use Rattle.fancy_regex_parts.specs.declared.table.PartTable.{PartTable}
use Rattle.fancy_regex_parts.proofs.CostLemmas.{step_due, step_length, mode_most, pending_cons}
use Rattle.fancy_regex_parts.proofs.WeightLemmas.{cost_opened}
use Rattle.fancy_regex_parts.proofs.PlaceLemmas.{place_back}
use Rattle.fancy_regex_parts.proofs.StackLemmas.{frames_within, task_within, ends_same, ends_opened}
use Rattle.fancy_regex_parts.proofs.TrackLemmas.{Tracks-step, Tracks-open, Tracks-fails, Tracks-ends, cell_is}

-- what is right of a state of a table
pub right_at : (table : PartTable) (q : ℕ) → IsTable table → q < length table.states.items → IsRightAt table q
right_at table q all within = all.right q within

-- a place in reach of a state is one from the first row on
pub place_of : (table : PartTable) (text : List ℕ) (base q i : ℕ) → IsInReach table text base q i → IsPlace text base i
place_of table text base q i h = record { low = omega (arith, h.low); boundary = h.boundary }

-- in reach of a state, so are the states that it leads to
pub leads_in_reach : (table : PartTable) (text : List ℕ) (base q i : ℕ) (state : State) → IsTable table → IsInReach table text base q i
    → state ≡ state_at table.states.items q → IsLedInReach table text base state i
leads_in_reach table text base q i state all h is =
    let right = right_at table q all h.state in
    let needed : needed_reach_of table state ≤ reach_of table q = subst (λ s. needed_reach_of table s ≤ reach_of table q) (sym is) right.reaches in
    record {
      names = subst (NamesBelow (length table.states.items)) (sym is) right.closed;
      boundary = h.boundary;
      low = omega (arith, h.low, needed);
    }

-- no look, and looks one after the other
pub no_look : (text : Counted) → IsOnlyLookedAt text text
no_look text = record { more = omega arith; text = refl; same_counter = refl }

pub looks_on : {a b c : Counted} → IsOnlyLookedAt a b → IsOnlyLookedAt b c → IsOnlyLookedAt a c
looks_on one two = record {
  more = omega (arith, one.more, two.more);
  text = two.text ∙ one.text;
  same_counter = two.same_counter ∙ one.same_counter;
}

due_none : (table : PartTable) (q : ℕ) → mark_of table q ≡ None → due table q ≡ cost_of table q
due_none table q none = ap (λ m. due_of m (cost_of table q)) none

due_some : (table : PartTable) (q mark : ℕ) → mark_of table q ≡ Some mark → due table q ≡ 0
due_some table q mark some = ap (λ m. due_of m (cost_of table q)) some

module _ (context : PartContext) (text : List ℕ) {recall new_recall : Recall} (memory : IsOfText context text recall) where
  pub of_text_same : (at : ℕ) → IsSame recall new_recall → new_recall.rows ≤ max recall.rows (at - recall.base + 1) → IsPlace text recall.base at
      → IsOfText context text new_recall
  of_text_same at same rows place = record {
    width = same.width ∙ memory.width;
    rows = let b = same.base in omega (arith, rows, b, memory.rows, place.boundary.0, place.low);
    ends = subst (λ (b : ℕ). (k e : ℕ) → cell new_recall k ≡ e + 2 → IsPlace text b e) (sym same.base) (ends_same text recall.base same memory.ends);
  }

  pub of_text_opened : (at k : ℕ) → IsOpened recall new_recall k → new_recall.rows ≤ max recall.rows (at - recall.base + 1) → IsPlace text recall.base at
      → IsOfText context text new_recall
  of_text_opened at k opened rows place = record {
    width = opened.width ∙ memory.width;
    rows = let b = opened.base in omega (arith, rows, b, memory.rows, place.boundary.0, place.low);
    ends = subst (λ (b : ℕ). (k e : ℕ) → cell new_recall k ≡ e + 2 → IsPlace text b e) (sym opened.base) (ends_opened text recall.base k opened memory.ends);
  }

module _ (context : PartContext) (text new_text : Counted) (recall : Recall) (frames : List Frame) (q at : ℕ)
    (table : IsTable context.table.now) (memory : IsOfText context (looked_text text) recall) (small : length (looked_text text) < 2 ^ 63)
    (place : IsAtTask context (looked_text text) recall.base (Visit q at) frames) where
  right : IsRightAt context.table.now q
  right = right_at context.table.now q table place.task.state

  here_is : IsPlace (looked_text text) recall.base at
  here_is = place_of context.table.now (looked_text text) recall.base q at place.task

  -- what a step leaves is in reach
  stepped_within : (state : State) → state ≡ state_at context.table.now.states.items q → (rest : List Frame)
      → AllWithin context.table.now (looked_text text) recall.base rest
      → IfSome (char_at (looked_text text) at) (λ c. IsCharBoundary (looked_text text) (at + len_utf8 c))
      → IsAtTask context (looked_text text) recall.base
      (step_task context.matchers.now context.rules context.range q state at (char_before (looked_text text) at) (char_at (looked_text text) at))
      (step_frames state at rest)
  stepped_within state state_is rest within next =
      let led = leads_in_reach context.table.now (looked_text text) recall.base q at state table place.task state_is in
      record {
        task = task_within context.table.now (looked_text text) recall.base small context.matchers.now context.rules context.range q state at _ _ led here_is.low
            (place_back (looked_text text) at (char_before (looked_text text) at) refl) next;
        frames = frames_within context.table.now (looked_text text) recall.base small state at rest led within;
      }

  -- a state without a mark
  module _ (none : mark_of context.table.now q ≡ None) (looks : IsOnlyLookedAt text new_text) (count : look_count new_text ≤ look_count text + 1) where
    pub unmarked_looked : IsPaid context text new_text recall recall (due context.table.now q) 0
    unmarked_looked = record {
      base = refl;
      memory = memory;
      counted = omega (arith, count, right.paid, due_none context.table.now q none);
      looks = looks;
    }

    module _ (next : IfSome (char_at (looked_text text) at) (λ c. IsCharBoundary (looked_text text) (at + len_utf8 c))) (task : Task) (new_frames : List Frame)
        (state : State) (state_is : state ≡ state_at context.table.now.states.items q)
        (task_is : task ≡ step_task context.matchers.now context.rules context.range q state at (char_before (looked_text text) at) (char_at (looked_text text) at))
        (frames_are : new_frames ≡ step_frames state at frames) where
      pub unmarked_paid : IsPaid context text new_text recall recall (due context.table.now q + pending context.table.now frames)
          (task_due context.table.now task + pending context.table.now new_frames)
      unmarked_paid =
          let here : owed context.table.now state + 1 ≤ cost_of context.table.now q = subst (λ s. owed context.table.now s + 1 ≤ cost_of context.table.now q) (sym state_is) right.paid in
          let step = step_due context.table.now context.matchers.now context.rules context.range q state at (char_before (looked_text text) at) (char_at (looked_text text) at) frames in
          record {
            base = refl;
            memory = memory;
            counted = rw (task_is, frames_are) (omega (arith, count, here, step, due_none context.table.now q none));
            looks = looks;
          }

      pub unmarked_visit : IsVisit context (looked_text text) recall recall frames new_frames q at task
      unmarked_visit =
          let here : owed context.table.now state + 1 ≤ cost_of context.table.now q = subst (λ s. owed context.table.now s + 1 ≤ cost_of context.table.now q) (sym state_is) right.paid in
          let step = step_due context.table.now context.matchers.now context.rules context.range q state at (char_before (looked_text text) at) (char_at (looked_text text) at) frames in
          record {
            tracking = λ view ways has goal t.
                let is = has.ends q at place.task.state place.task.boundary in
                let falls = has.falls q at place.task.state place.task.boundary in
                rw (task_is, frames_are, state_is)
                (Tracks-step ways context.table.now.heads.items recall.base view context.matchers.now context.rules context.range (state_at context.table.now.states.items q) q at _ _ frames goal
                (has.shows at place.task.boundary) falls is t);
            within = rw (task_is, frames_are) (stepped_within state state_is frames place.frames next);
            progress = rw (task_is, frames_are) (omega (
              arith,
              here,
              step,
              due_none context.table.now q none,
              step_length state at frames,
              mode_most (step_task context.matchers.now context.rules context.range q state at (char_before (looked_text text) at) (char_at (looked_text text) at)),
            ));
          }

  -- a state with a mark
  module _ (new_recall : Recall) (mark : ℕ) (some : mark_of context.table.now q ≡ Some mark)
      (rows : new_recall.rows ≤ max recall.rows (at - recall.base + 1)) where
    pub cell_pair : cell_number recall mark at ≡ (at - recall.base) * length context.table.now.heads.items + mark
    cell_pair = ap (λ w. (at - recall.base) * w + mark) memory.width

    -- the pair is known
    module _ (same : IsSame recall new_recall) where
      pub known_paid : (end : Option ℕ) → IsPaid context text text recall new_recall (due context.table.now q + pending context.table.now frames)
          (task_due context.table.now (Answer end) + pending context.table.now frames)
      known_paid end = record {
        base = same.base;
        memory = of_text_same context (looked_text text) memory at same rows here_is;
        counted = let n = same.weight (cell_cost context.table.now) in rw n (omega arith);
        looks = no_look text;
      }

      pub known_looked : IsPaid context text text recall new_recall (due context.table.now q) 0
      known_looked = record {
        base = same.base;
        memory = of_text_same context (looked_text text) memory at same rows here_is;
        counted = let n = same.weight (cell_cost context.table.now) in rw n (omega arith);
        looks = no_look text;
      }

      pub fails_visit : cell recall (cell_number recall mark at) ≡ 1 → IsVisit context (looked_text text) recall new_recall frames frames q at (Answer None)
      fails_visit was =
          let m = right.marked mark some in
          record {
            tracking = λ view ways has goal t.
                let is = cell_is ways context.table.now.heads.items recall.base q at mark m.0 m.1 here_is.low in
                Tracks-fails ways context.table.now.heads.items recall.base ((at - recall.base) * length context.table.now.heads.items + mark) q at frames goal
                (rw cell_pair at was) same is.0 is.1 t;
            within = record { task = tt; frames = place.frames };
            progress = let n = same.weight (cell_cost context.table.now) in rw n (omega arith);
          }

      pub ends_visit : (e : ℕ) → cell recall (cell_number recall mark at) ≡ e + 2 → IsVisit context (looked_text text) recall new_recall frames frames q at (Answer (Some e))
      ends_visit e was =
          let m = right.marked mark some in
          record {
            tracking = λ view ways has goal t.
                let is = cell_is ways context.table.now.heads.items recall.base q at mark m.0 m.1 here_is.low in
                Tracks-ends ways context.table.now.heads.items recall.base ((at - recall.base) * length context.table.now.heads.items + mark) e q at frames goal
                (rw cell_pair at was) same is.0 t;
            within = record { task = memory.ends _ e was; frames = place.frames };
            progress = let n = same.weight (cell_cost context.table.now) in rw n (omega arith);
          }

    -- the pair is new
    module _ (k : ℕ) (opened : IsOpened recall new_recall k) (k_is : k ≡ cell_number recall mark at) where
      cost_more : known_cost context.table.now new_recall ≡ known_cost context.table.now recall + cost_of context.table.now q
      cost_more =
          let m = right.marked mark some in
          cost_opened context.table.now q mark at m.0 m.1 recall new_recall k opened k_is memory.width

      pub opened_looked : IsOnlyLookedAt text new_text → look_count new_text ≤ look_count text + 1
          → IsPaid context text new_text recall new_recall (due context.table.now q) 0
      opened_looked looks count = record {
        base = opened.base;
        memory = of_text_opened context (looked_text text) memory at k opened rows here_is;
        counted = omega (arith, count, right.paid, cost_more);
        looks = looks;
      }

      module _ (looks : IsOnlyLookedAt text new_text) (count : look_count new_text ≤ look_count text + 1)
          (next : IfSome (char_at (looked_text text) at) (λ c. IsCharBoundary (looked_text text) (at + len_utf8 c))) (task : Task) (new_frames : List Frame)
          (state : State) (state_is : state ≡ state_at context.table.now.states.items q)
          (task_is : task ≡ step_task context.matchers.now context.rules context.range q state at (char_before (looked_text text) at) (char_at (looked_text text) at))
          (frames_are : new_frames ≡ step_frames state at (Open k ∷ frames)) where
        pub opened_paid : IsPaid context text new_text recall new_recall (due context.table.now q + pending context.table.now frames)
            (task_due context.table.now task + pending context.table.now new_frames)
        opened_paid =
            let here : owed context.table.now state + 1 ≤ cost_of context.table.now q = subst (λ s. owed context.table.now s + 1 ≤ cost_of context.table.now q) (sym state_is) right.paid in
            let step = step_due context.table.now context.matchers.now context.rules context.range q state at (char_before (looked_text text) at) (char_at (looked_text text) at) (Open k ∷ frames) in
            record {
              base = opened.base;
              memory = of_text_opened context (looked_text text) memory at k opened rows here_is;
              counted = rw (task_is, frames_are) (omega (arith, count, here, step, cost_more, pending_cons context.table.now (Open k) frames));
              looks = looks;
            }

        pub opened_visit : IsVisit context (looked_text text) recall new_recall frames new_frames q at task
        opened_visit =
            let here : owed context.table.now state + 1 ≤ cost_of context.table.now q = subst (λ s. owed context.table.now s + 1 ≤ cost_of context.table.now q) (sym state_is) right.paid in
            let m = right.marked mark some in
            let step = step_due context.table.now context.matchers.now context.rules context.range q state at (char_before (looked_text text) at) (char_at (looked_text text) at) (Open k ∷ frames) in
            record {
              tracking = λ view ways has goal t.
                  let is = cell_is ways context.table.now.heads.items recall.base q at mark m.0 m.1 here_is.low in
                  let pair = k_is ∙ cell_pair in
                  rw (task_is, frames_are, state_is)
                  (Tracks-open ways context.table.now.heads.items recall.base k view context.matchers.now context.rules context.range (state_at context.table.now.states.items q) q at _ _ frames goal
                  opened (rw pair is.0) (rw pair is.1) (has.shows at place.task.boundary) (has.falls q at place.task.state place.task.boundary) (has.ends q at place.task.state place.task.boundary) t);
              within = rw (task_is, frames_are) (stepped_within state state_is (Open k ∷ frames) (tt, place.frames) next);
              progress = rw (task_is, frames_are) (omega (
                arith,
                here,
                step,
                cost_more,
                pending_cons context.table.now (Open k) frames,
                step_length state at (Open k ∷ frames),
                mode_most (step_task context.matchers.now context.rules context.range q state at (char_before (looked_text text) at) (char_at (looked_text text) at)),
              ));
            }
