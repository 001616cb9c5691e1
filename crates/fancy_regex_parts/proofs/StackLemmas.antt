-- A push and a pop, with the top first, and where pairs lie.
use Rattle.std.proofs.Common.{◌≡◌, ◌∙◌, ℕ, ◌+◌, ◌-◌, ◌^◌, ◌<◌, ◌≤◌, Bool, true, false, List, [], ◌∷◌, ◌++◌, length, Option, Some, None, refl, sym, ap, subst, arith, length-append, if◌then◌else◌, inl, inr, ⊎_elim, lt-ltb, le-ltb}
use Rattle.std.specs.Prelude.{not, ◌&&◌, IfSome, IsCharBoundary, nat_eq}
use Rattle.std.specs.Char.{len_utf8}
use Rattle.std.proofs.lemmas.Bool.{cases_eq, cases_lt}
use Rattle.fancy_regex_class.specs.declared.class.CharClassMatcher.{CharClassMatcher}
use Rattle.fancy_regex_states.specs.CharTests.{leaf_matches_char, passes}
use Rattle.fancy_regex_states.specs.declared.rules.Rules.{Rules}
use Rattle.fancy_regex_states.specs.Attempts.{NamesBelow}
use Rattle.fancy_regex_parts.specs.Recall.{cell, IsSame, IsOpened, IsStored}
use Rattle.fancy_regex_parts.specs.Frames.{top_first, step_frames, step_task, resume_task, IsPlace, IsInReach, IsLedInReach, AllWithin, IsTaskWithin, EndsWithin}
use Rattle.fancy_regex_parts.specs.Tables.{reach_of, needed_reach_of}
use Rattle.fancy_regex_parts.specs.declared.table.PartTable.{PartTable}
use Rattle.fancy_regex_parts.specs.declared.frame.Frame.{Frame}
use Rattle.fancy_regex_parts.specs.declared.frame.Frame.TheVariants.{Branch, Open, Ask, Atomic}
use Rattle.fancy_regex_parts.specs.declared.frame.Task.{Task}
use Rattle.fancy_regex_parts.specs.declared.frame.Task.TheVariants.{Visit, Answer}
use Rattle.fancy_regex_parts.specs.declared.recall.Recall.{Recall}
use Rattle.fancy_regex_states.specs.declared.state.State.{State}
use Rattle.fancy_regex_states.specs.declared.state.State.TheVariants as S
use Rattle.fancy_regex_parts.proofs.PlaceLemmas.{IsPrior}
use Rattle.fancy_regex_parts.specs.Ways.{admits}
use Rattle.fancy_regex_parts.specs.declared.step.EndRange.{EndRange}

pub top_pushed : (fs : List Frame) (f : Frame) → top_first (fs ++ f ∷ []) ≡ f ∷ top_first fs
unfolding top_first
top_pushed [] f = refl
top_pushed (x ∷ xs) f = ap (λ t. t ++ x ∷ []) (top_pushed xs f)

pub top_none : top_first [] ≡ []
unfolding top_first
top_none = refl

pub top_length : (fs : List Frame) → length (top_first fs) ≡ length fs
unfolding top_first
top_length [] = refl
top_length (x ∷ xs) = omega (arith, length-append (top_first xs) (x ∷ []), top_length xs)

-- a choice between two states
pub one_of : (X : ℕ → Type 0) (b : Bool) (p q : ℕ) → X p → X q → X (if b then p else q)
one_of X true p q h k = h
one_of X false p q h k = k

-- a choice between two ends
pub end_of : (X : Option ℕ → Type 0) (b : Bool) (x y : Option ℕ) → X x → X y → X (if b then x else y)
end_of X true x y h k = h
end_of X false x y h k = k

-- a choice between two tasks
pub task_if : (X : Task → Type 0) (b : Bool) (x y : Task) → (b ≡ true → X x) → (b ≡ false → X y) → X (if b then x else y)
task_if X true x y h k = h refl
task_if X false x y h k = k refl

module _ (table : PartTable) (text : List ℕ) (base : ℕ) (small : length text < 2 ^ 63) where
  -- a state that another one leads to, at its place or a later one
  led : (state : State) (at next j : ℕ) → IsLedInReach table text base state at → next < length table.states.items → reach_of table next ≤ needed_reach_of table state
      → at ≤ j → IsCharBoundary text j → IsInReach table text base next j
  led state at next j h names less later boundary = record { state = names; boundary = boundary; low = omega (arith, h.low, less, later) }

  -- what a step leaves to be done is within the text
  pub frames_within : (state : State) (at : ℕ) (frames : List Frame) → IsLedInReach table text base state at
      → AllWithin table text base frames → AllWithin table text base (step_frames state at frames)
  frames_within (S.Read leaf next) at frames h within = within
  frames_within (S.Look check next) at frames h within = within
  frames_within (S.Back next) at frames h within = within
  frames_within (S.Split first second) at frames h within = (led _ at second at h h.names.1 (omega arith) (omega arith) h.boundary, within)
  frames_within (S.Ask part negated next) at frames h within = (led _ at next at h h.names.1 (omega arith) (omega arith) h.boundary, within)
  frames_within (S.Enter g next) at frames h within = within
  frames_within (S.Leave g next) at frames h within = within
  frames_within (S.Atomic part same moved) at frames h within =
      ((led _ at same at h h.names.1 (omega arith) (omega arith) h.boundary, led _ at moved at h h.names.2 (omega arith) (omega arith) h.boundary), within)
  frames_within S.Match at frames h within = within

  pub task_within : (matchers : List CharClassMatcher) (rules : Rules) (range : EndRange) (q : ℕ) (state : State) (at : ℕ) (before after : Option ℕ)
      → IsLedInReach table text base state at → base ≤ at → IfSome before (IsPrior text at)
      → IfSome after (λ c. IsCharBoundary text (at + len_utf8 c))
      → IsTaskWithin table text base (step_task matchers rules range q state at before after)
  task_within matchers rules range q (S.Read leaf next) at before None h low prior ends = tt
  task_within matchers rules range q (S.Read leaf next) at before (Some c) h low prior ends =
      task_if (IsTaskWithin table text base) (leaf_matches_char rules.unicode matchers leaf c) (Visit next (at + len_utf8 c)) (Answer None)
      (λ yes. led _ at next (at + len_utf8 c) h h.names (omega arith) (omega arith) ends) (λ no. tt)
  task_within matchers rules range q (S.Look check next) at before after h low prior ends =
      task_if (IsTaskWithin table text base) (passes matchers rules check at before after) (Visit next at) (Answer None)
      (λ yes. led _ at next at h h.names (omega arith) (omega arith) h.boundary) (λ no. tt)
  task_within matchers rules range q (S.Back next) at None after h low prior ends = tt
  task_within matchers rules range q (S.Back next) at (Some c) after h low prior ends =
      record { state = h.names; boundary = prior.0; low = omega (arith, h.low, prior.1, prior.2, small, h.boundary.0) }
  task_within matchers rules range q (S.Split first second) at before after h low prior ends = led _ at first at h h.names.0 (omega arith) (omega arith) h.boundary
  task_within matchers rules range q (S.Ask part negated next) at before after h low prior ends = led _ at part at h h.names.0 (omega arith) (omega arith) h.boundary
  task_within matchers rules range q (S.Enter g next) at before after h low prior ends = led _ at next at h h.names (omega arith) (omega arith) h.boundary
  task_within matchers rules range q (S.Leave g next) at before after h low prior ends = led _ at next at h h.names (omega arith) (omega arith) h.boundary
  task_within matchers rules range q (S.Atomic part same moved) at before after h low prior ends = led _ at part at h h.names.0 (omega arith) (omega arith) h.boundary
  task_within matchers rules range q S.Match at before after h low prior ends =
      end_of (λ e. IsTaskWithin table text base (Answer e)) (nat_eq q 0 && not (admits range at)) None (Some at) tt (record { low = low; boundary = h.boundary })

  -- a later place is in reach of the same state
  reach_later : (q i j : ℕ) → IsInReach table text base q i → i ≤ j → IsCharBoundary text j → IsInReach table text base q j
  reach_later q i j h later boundary = record { state = h.state; boundary = boundary; low = omega (arith, h.low, later) }

  -- so is what is done where an answer comes to a frame
  pub resume_within : (f : Frame) (rest : List Frame) (end : Option ℕ) → AllWithin table text base (f ∷ rest) → IsTaskWithin table text base (Answer end)
      → IsTaskWithin table text base (resume_task f end)
  resume_within (Branch q i) rest None within place = within.0
  resume_within (Branch q i) rest (Some e) within place = place
  resume_within (Open k) rest end within place = place
  resume_within (Ask false next i) rest None within place = tt
  resume_within (Ask false next i) rest (Some e) within place = within.0
  resume_within (Ask true next i) rest None within place = within.0
  resume_within (Ask true next i) rest (Some e) within place = tt
  resume_within (Atomic i same moved) rest None within place = tt
  resume_within (Atomic i same moved) rest (Some e) within place =
      ⊎_elim
      (λ (on : i < e). rw (lt-ltb i e on) (reach_later moved i e within.0.1 (omega arith) place.boundary))
      (λ (not_on : e ≤ i). rw (le-ltb i e not_on) within.0.0)
      (cases_lt i e)

module _ (text : List ℕ) (base : ℕ) {old new : Recall} where
  pub ends_same : IsSame old new → EndsWithin text base old → EndsWithin text base new
  ends_same same ends k e is = ends k e (sym (same.cells k) ∙ is)

  pub ends_opened : (k : ℕ) → IsOpened old new k → EndsWithin text base old → EndsWithin text base new
  ends_opened k opened ends j e is =
      elim (cases_eq j k) [
        | inl same ↦ absurd (let one : cell new j ≡ 1 = ap (cell new) same ∙ opened.now in omega (arith, one, is))
        | inr other ↦ ends j e (sym (opened.others j other) ∙ is)
      ]

  pub ends_stored : (k end : ℕ) → IsStored old new k end → IsPlace text base end → EndsWithin text base old → EndsWithin text base new
  ends_stored k end stored place ends j e is =
      elim (cases_eq j k) [
        | inl same ↦
            let here : cell new k ≡ e + 2 = sym (ap (cell new) same) ∙ is in
            let known : 1 ≤ cell old k = elim (cases_eq (cell old k) 0) [ inl none ↦ absurd (omega (arith, stored.unknown none, here)) | inr some ↦ omega arith ] in
            let e_is : end ≡ e = omega (arith, stored.stored known, here) in
            subst (IsPlace text base) e_is place
        | inr other ↦ ends j e (sym (stored.others j other) ∙ is)
      ]

-- the text is small, and so is the place after a character of it
pub small_after : (text : List ℕ) (at : ℕ) (after : Option ℕ) → length text < 2 ^ 63 → IfSome after (λ c. IsCharBoundary text (at + len_utf8 c))
    → IfSome after (λ c. at + len_utf8 c < 2 ^ 64)
small_after text at None small h = tt
small_after text at (Some c) small h = omega (arith, small, h.0)

pub small_place : (table : PartTable) (text : List ℕ) (base : ℕ) (end : Option ℕ) → length text < 2 ^ 63 → IsTaskWithin table text base (Answer end)
    → IfSome end (λ e. e < 2 ^ 64 - 2)
small_place table text base None small h = tt
small_place table text base (Some e) small h = omega (arith, small, h.boundary.0)

-- an answer ends at a place
pub answer_place : (table : PartTable) (text : List ℕ) (base : ℕ) (end : Option ℕ) → IsTaskWithin table text base (Answer end) → IfSome end (IsPlace text base)
answer_place table text base None h = tt
answer_place table text base (Some e) h = h
