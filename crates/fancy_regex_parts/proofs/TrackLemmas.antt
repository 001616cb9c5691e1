-- Each step of a search in parts keeps `Tracks`.
use Rattle.std.proofs.Common.{◌≡◌, ℕ, ◌+◌, ◌-◌, ◌*◌, ◌/◌, ◌%◌, ◌<◌, ◌≤◌, ◌∙◌, Bool, true, false, List, [], ◌∷◌, length, Option, Some, None, get_or, refl, sym, ap, ap₂, subst, inl, inr, arith, if◌then◌else◌, true≢false}
use Rattle.std.proofs.lemmas.Bool.{cases_eq}
use Rattle.std.specs.Char.{len_utf8}
use Rattle.std.specs.Prelude.{option_and_then}
use Rattle.fancy_regex_class.specs.declared.class.CharClassMatcher.{CharClassMatcher}
use Rattle.fancy_regex_states.specs.Attempts.{View, Shows}
use Rattle.fancy_regex_states.specs.CharTests.{leaf_matches_char, passes}
use Rattle.fancy_regex_states.specs.declared.rules.Rules.{Rules}
use Rattle.fancy_regex_parts.specs.Ways.{Ways, first_way, Falls, state_after, place_after}
use Rattle.fancy_regex_parts.specs.Recall.{cell, IsSame, IsOpened, IsStored}
use Rattle.fancy_regex_parts.specs.Frames.{step_frames, step_task, resume_task, IsOpen, cell_end, cell_depth, IsBelowOpen, Resumes, task_end, IsTaskBelow, Remembers, Tracks}
use Rattle.fancy_regex_parts.specs.Layers.{IsResumed}
use Rattle.fancy_regex_parts.specs.declared.frame.Frame.{Frame}
use Rattle.fancy_regex_parts.specs.declared.frame.Frame.TheVariants.{Branch, Open, Ask, Atomic}
use Rattle.fancy_regex_parts.specs.declared.frame.Task.TheVariants.{Visit, Answer}
use Rattle.fancy_regex_parts.specs.declared.recall.Recall.{Recall}
use Rattle.fancy_regex_states.specs.declared.state.State.{State}
use Rattle.fancy_regex_states.specs.declared.state.State.TheVariants as S
use Rattle.fancy_regex_parts.proofs.RecallLemmas.{place_parts}
use Rattle.fancy_regex_parts.proofs.StackLemmas.{task_if}
use Rattle.fancy_regex_parts.specs.declared.step.EndRange.{EndRange}

-- a choice between an answer and none
pub end_if : (X : Option ℕ → Type 0) (b c : Bool) (x : Option ℕ) → b ≡ c → X (if b then x else None) → (c ≡ true → X x) × (c ≡ false → X None)
end_if X true true x e h = (λ _. h, λ no. absurd (true≢false no))
end_if X true false x e h = absurd (true≢false e)
end_if X false true x e h = absurd (true≢false (sym e))
end_if X false false x e h = (λ yes. absurd (true≢false (sym yes)), λ _. h)

-- an at_open pair stays at_open
open_stepped : (state : State) (at k : ℕ) (frames : List Frame) → IsOpen k frames → IsOpen k (step_frames state at frames)
open_stepped (S.Read leaf next) at k frames h = h
open_stepped (S.Look check next) at k frames h = h
open_stepped (S.Back next) at k frames h = h
open_stepped (S.Split first second) at k frames h = h
open_stepped (S.Ask part negated next) at k frames h = h
open_stepped (S.Enter g next) at k frames h = h
open_stepped (S.Leave g next) at k frames h = h
open_stepped (S.Atomic part same moved) at k frames h = h
open_stepped S.Match at k frames h = h

module _ (ways : Ways) (heads : List ℕ) (base : ℕ) where
  -- less deep pairs are below the at_open ones too
  below_less : (d less : ℕ) (frames : List Frame) → less ≤ d → IsBelowOpen ways heads base d frames → IsBelowOpen ways heads base less frames
  below_less d less [] le h = tt
  below_less d less (Branch q i ∷ rest) le h = below_less d less rest le h
  below_less d less (Open k ∷ rest) le h = (omega (arith, le, h.0), below_less d less rest le h.1)
  below_less d less (Ask negated next i ∷ rest) le h = below_less d less rest le h
  below_less d less (Atomic i same moved ∷ rest) le h = below_less d less rest le h

  -- an at_open pair is deeper than what is below the at_open ones
  open_deeper : (d k : ℕ) (frames : List Frame) → IsOpen k frames → IsBelowOpen ways heads base d frames → d < cell_depth ways heads base k
  open_deeper d k [] at_open h = absurd at_open
  open_deeper d k (Branch q i ∷ rest) at_open h = open_deeper d k rest at_open h
  open_deeper d k (Open j ∷ rest) at_open h =
      elim at_open [ inl same ↦ subst (λ n. d < cell_depth ways heads base n) (sym same) h.0 | inr under ↦ open_deeper d k rest under h.1 ]
  open_deeper d k (Ask negated next i ∷ rest) at_open h = open_deeper d k rest at_open h
  open_deeper d k (Atomic i same moved ∷ rest) at_open h = open_deeper d k rest at_open h

  -- what a step over a state makes of the answer, where all less deep pairs are below the at_open ones
  pub step_resumes : (view : View) (matchers : List CharClassMatcher) (rules : Rules) (range : EndRange) (q : ℕ) (state : State) (at d : ℕ) (before after : Option ℕ)
      (frames : List Frame) (goal : Option ℕ) → Shows matchers rules view at before after → Falls view ways state at d
      → ((less : ℕ) → less < d → IsBelowOpen ways heads base less frames)
      → Resumes ways heads base frames (first_way view ways range q state at) goal
      → Resumes ways heads base (step_frames state at frames) (task_end ways heads base (step_task matchers rules range q state at before after)) goal
      × IsTaskBelow ways heads base (step_task matchers rules range q state at before after) (step_frames state at frames)
  step_resumes view matchers rules range q (S.Read leaf next) at d before None frames goal shows falls below h =
      ((end_if (λ a. Resumes ways heads base frames a goal) (view.has leaf at) false (ways.end next (view.next at)) (shows.has leaf) h).1 refl, tt)
  step_resumes view matchers rules range q (S.Read leaf next) at d before (Some c) frames goal shows falls below h =
      let on = end_if (λ a. Resumes ways heads base frames a goal) (view.has leaf at) (leaf_matches_char rules.unicode matchers leaf c)
      (ways.end next (view.next at)) (shows.has leaf) h in
      let next_is : view.next at ≡ at + len_utf8 c = shows.next in
      task_if (λ task. Resumes ways heads base frames (task_end ways heads base task) goal × IsTaskBelow ways heads base task frames)
      (leaf_matches_char rules.unicode matchers leaf c) (Visit next (at + len_utf8 c)) (Answer None)
      (λ yes. (
        subst (λ (j : ℕ). Resumes ways heads base frames (ways.end next j) goal) next_is (on.0 yes),
        subst (λ (j : ℕ). IsBelowOpen ways heads base (ways.depth next j) frames) next_is (below _ (falls (shows.has leaf ∙ yes))),
      ))
      (λ no. (on.1 no, tt))
  step_resumes view matchers rules range q (S.Look check next) at d before after frames goal shows falls below h =
      let on = end_if (λ a. Resumes ways heads base frames a goal) (view.holds check at) (passes matchers rules check at before after)
      (ways.end next at) (shows.holds check) h in
      task_if (λ task. Resumes ways heads base frames (task_end ways heads base task) goal × IsTaskBelow ways heads base task frames)
      (passes matchers rules check at before after) (Visit next at) (Answer None)
      (λ yes. (on.0 yes, below _ (falls (shows.holds check ∙ yes))))
      (λ no. (on.1 no, tt))
  step_resumes view matchers rules range q (S.Back next) at d None after frames goal shows falls below h =
      (subst (λ (o : Option ℕ). Resumes ways heads base frames (option_and_then (λ bytes. ways.end next (at - bytes)) o) goal) shows.back h, tt)
  step_resumes view matchers rules range q (S.Back next) at d (Some c) after frames goal shows falls below h = (
    subst (λ (o : Option ℕ). Resumes ways heads base frames (option_and_then (λ bytes. ways.end next (at - bytes)) o) goal) shows.back h,
    below _ (falls (len_utf8 c) shows.back),
  )
  step_resumes view matchers rules range q (S.Split first second) at d before after frames goal shows falls below h =
      ((below _ falls.1, h), below _ falls.0)
  step_resumes view matchers rules range q (S.Ask part negated next) at d before after frames goal shows falls below h =
      ((below _ falls.1, h), below _ falls.0)
  step_resumes view matchers rules range q (S.Enter g next) at d before after frames goal shows falls below h = (h, below _ falls)
  step_resumes view matchers rules range q (S.Leave g next) at d before after frames goal shows falls below h = (h, below _ falls)
  step_resumes view matchers rules range q (S.Atomic part same moved) at d before after frames goal shows falls below h =
      ((λ e is. below _ (falls.1 e is), h), below _ falls.0)
  step_resumes view matchers rules range q S.Match at d before after frames goal shows falls below h = (h, tt)

  module _ {old new : Recall} where
    -- the cells say the same
    pub same_remembers : {frames : List Frame} → IsSame old new → Remembers ways heads base old frames → Remembers ways heads base new frames
    same_remembers same r = record {
      fails = λ k is. r.fails k (sym (same.cells k) ∙ is);
      ends = λ k e is. r.ends k e (sym (same.cells k) ∙ is);
    }

    -- a pair was opened
    opened_remembers : (k : ℕ) (frames : List Frame) → IsOpened old new k → Remembers ways heads base old frames
        → Remembers ways heads base new (Open k ∷ frames)
    opened_remembers k frames opened r = record {
      fails = λ j is. elim (cases_eq j k) [
        | inl same ↦ inr (inl same)
        | inr other ↦ elim (r.fails j (sym (opened.others j other) ∙ is)) [ inl none ↦ inl none | inr under ↦ inr (inr under) ]
      ];
      ends = λ j e is. elim (cases_eq j k) [
        | inl same ↦ absurd (let one : cell new j ≡ 1 = ap (cell new) same ∙ opened.now in omega (arith, one, is))
        | inr other ↦ r.ends j e (sym (opened.others j other) ∙ is)
      ];
    }

    -- an at_open pair has its answer
    stored_remembers : (k end : ℕ) (rest : List Frame) → Some end ≡ cell_end ways heads base k → IsStored old new k end
        → Remembers ways heads base old (Open k ∷ rest) → Remembers ways heads base new rest
    stored_remembers k end rest answer stored r = record {
      fails = λ j is. elim (cases_eq j k) [
        | inl same ↦
            let here : cell new k ≡ 1 = sym (ap (cell new) same) ∙ is in
            absurd (elim (cases_eq (cell old k) 0) [
              | inl none ↦ omega (arith, stored.unknown none, here)
              | inr some ↦ (let known : 1 ≤ cell old k = omega arith in omega (arith, stored.stored known, here))
            ])
        | inr other ↦ elim (r.fails j (sym (stored.others j other) ∙ is)) [
          | inl none ↦ inl none
          | inr at_open ↦ elim at_open [ inl same ↦ absurd (other same) | inr under ↦ inr under ]
        ]
      ];
      ends = λ j e is. elim (cases_eq j k) [
        | inl same ↦
            let here : cell new k ≡ e + 2 = sym (ap (cell new) same) ∙ is in
            let known : 1 ≤ cell old k = elim (cases_eq (cell old k) 0) [ inl none ↦ absurd (omega (arith, stored.unknown none, here)) | inr some ↦ omega arith ] in
            let e_is : end ≡ e = omega (arith, stored.stored known, here) in
            ap (cell_end ways heads base) same ∙ sym answer ∙ ap Some e_is
        | inr other ↦ r.ends j e (sym (stored.others j other) ∙ is)
      ];
    }

  failed_remembers : (recall : Recall) (k : ℕ) (rest : List Frame) → None ≡ cell_end ways heads base k
      → Remembers ways heads base recall (Open k ∷ rest) → Remembers ways heads base recall rest
  failed_remembers recall k rest answer r = record {
    fails = λ j is. elim (r.fails j is) [
      | inl none ↦ inl none
      | inr at_open ↦ elim at_open [ inl same ↦ inl (ap (cell_end ways heads base) same ∙ sym answer) | inr under ↦ inr under ]
    ];
    ends = r.ends;
  }

  -- an answer comes to a frame
  pub Tracks-resume : {old new : Recall} (f : Frame) (rest : List Frame) (end goal : Option ℕ) → IsResumed f end old new
      → Tracks ways heads base old (Answer end) (f ∷ rest) goal → Tracks ways heads base new (resume_task f end) rest goal
  Tracks-resume {old} {new} (Branch q i) rest None goal is t =
      subst (λ (r : Recall). Tracks ways heads base r (Visit q i) rest goal) (sym is)
      (record { resumes = t.resumes.1; below = t.resumes.0; remembers = record { fails = t.remembers.fails; ends = t.remembers.ends } })
  Tracks-resume {old} {new} (Branch q i) rest (Some e) goal is t =
      subst (λ (r : Recall). Tracks ways heads base r (Answer (Some e)) rest goal) (sym is)
      (record { resumes = t.resumes.1; below = tt; remembers = record { fails = t.remembers.fails; ends = t.remembers.ends } })
  Tracks-resume {old} {new} (Open k) rest None goal is t =
      subst (λ (r : Recall). Tracks ways heads base r (Answer None) rest goal) (sym is)
      (record { resumes = t.resumes.1; below = tt; remembers = failed_remembers old k rest t.resumes.0 t.remembers })
  Tracks-resume {old} {new} (Open k) rest (Some e) goal is t =
      record { resumes = t.resumes.1; below = tt; remembers = stored_remembers k e rest t.resumes.0 is.0 t.remembers }
  Tracks-resume {old} {new} (Ask false next i) rest None goal is t =
      subst (λ (r : Recall). Tracks ways heads base r (Answer None) rest goal) (sym is)
      (record { resumes = t.resumes.1; below = tt; remembers = record { fails = t.remembers.fails; ends = t.remembers.ends } })
  Tracks-resume {old} {new} (Ask false next i) rest (Some e) goal is t =
      subst (λ (r : Recall). Tracks ways heads base r (Visit next i) rest goal) (sym is)
      (record { resumes = t.resumes.1; below = t.resumes.0; remembers = record { fails = t.remembers.fails; ends = t.remembers.ends } })
  Tracks-resume {old} {new} (Ask true next i) rest None goal is t =
      subst (λ (r : Recall). Tracks ways heads base r (Visit next i) rest goal) (sym is)
      (record { resumes = t.resumes.1; below = t.resumes.0; remembers = record { fails = t.remembers.fails; ends = t.remembers.ends } })
  Tracks-resume {old} {new} (Ask true next i) rest (Some e) goal is t =
      subst (λ (r : Recall). Tracks ways heads base r (Answer None) rest goal) (sym is)
      (record { resumes = t.resumes.1; below = tt; remembers = record { fails = t.remembers.fails; ends = t.remembers.ends } })
  Tracks-resume {old} {new} (Atomic i same moved) rest None goal is t =
      subst (λ (r : Recall). Tracks ways heads base r (Answer None) rest goal) (sym is)
      (record { resumes = t.resumes.1; below = tt; remembers = record { fails = t.remembers.fails; ends = t.remembers.ends } })
  Tracks-resume {old} {new} (Atomic i same moved) rest (Some e) goal is t =
      subst (λ (r : Recall). Tracks ways heads base r (Visit (state_after i same moved e) (place_after i e)) rest goal) (sym is)
      (record { resumes = t.resumes.1; below = t.resumes.0 e refl; remembers = record { fails = t.remembers.fails; ends = t.remembers.ends } })

  -- a pair of which it is known that there is no way
  pub Tracks-fails : {old new : Recall} (k q i : ℕ) (frames : List Frame) (goal : Option ℕ) → cell old k ≡ 1 → IsSame old new
      → cell_end ways heads base k ≡ ways.end q i → cell_depth ways heads base k ≡ ways.depth q i
      → Tracks ways heads base old (Visit q i) frames goal → Tracks ways heads base new (Answer None) frames goal
  Tracks-fails k q i frames goal was same end_is depth_is t =
      let none : ways.end q i ≡ None =
      elim (t.remembers.fails k was) [
        | inl none ↦ sym end_is ∙ none
        | inr at_open ↦ absurd (omega (arith, open_deeper (ways.depth q i) k frames at_open t.below, depth_is))
      ] in
      record {
        resumes = subst (λ (a : Option ℕ). Resumes ways heads base frames a goal) none t.resumes;
        below = tt;
        remembers = same_remembers same t.remembers;
      }

  -- a pair of which it is known where its first way ends
  pub Tracks-ends : {old new : Recall} (k e q i : ℕ) (frames : List Frame) (goal : Option ℕ) → cell old k ≡ e + 2 → IsSame old new
      → cell_end ways heads base k ≡ ways.end q i
      → Tracks ways heads base old (Visit q i) frames goal → Tracks ways heads base new (Answer (Some e)) frames goal
  Tracks-ends k e q i frames goal was same end_is t = record {
    resumes = subst (λ (a : Option ℕ). Resumes ways heads base frames a goal) (sym end_is ∙ t.remembers.ends k e was) t.resumes;
    below = tt;
    remembers = same_remembers same t.remembers;
  }

  -- a step over a state that is not marked
  pub Tracks-step : {old : Recall} (view : View) (matchers : List CharClassMatcher) (rules : Rules) (range : EndRange) (state : State) (q at : ℕ) (before after : Option ℕ)
      (frames : List Frame) (goal : Option ℕ) → Shows matchers rules view at before after → Falls view ways state at (ways.depth q at)
      → ways.end q at ≡ first_way view ways range q state at
      → Tracks ways heads base old (Visit q at) frames goal
      → Tracks ways heads base old (step_task matchers rules range q state at before after) (step_frames state at frames) goal
  Tracks-step {old} view matchers rules range state q at before after frames goal shows falls is t =
      let on = step_resumes view matchers rules range q state at (ways.depth q at) before after frames goal shows falls
      (λ less lt. below_less (ways.depth q at) less frames (omega arith) t.below)
      (subst (λ (a : Option ℕ). Resumes ways heads base frames a goal) is t.resumes) in
      record {
        resumes = on.0;
        below = on.1;
        remembers = record {
          fails = λ k one. elim (t.remembers.fails k one) [ inl none ↦ inl none | inr at_open ↦ inr (open_stepped state at k frames at_open) ];
          ends = t.remembers.ends;
        };
      }

  -- a step over a marked state whose pair was opened
  pub Tracks-open : {old new : Recall} (k : ℕ) (view : View) (matchers : List CharClassMatcher) (rules : Rules) (range : EndRange) (state : State) (q at : ℕ)
      (before after : Option ℕ) (frames : List Frame) (goal : Option ℕ) → IsOpened old new k
      → cell_end ways heads base k ≡ ways.end q at → cell_depth ways heads base k ≡ ways.depth q at
      → Shows matchers rules view at before after → Falls view ways state at (ways.depth q at)
      → ways.end q at ≡ first_way view ways range q state at
      → Tracks ways heads base old (Visit q at) frames goal
      → Tracks ways heads base new (step_task matchers rules range q state at before after) (step_frames state at (Open k ∷ frames)) goal
  Tracks-open {old} {new} k view matchers rules range state q at before after frames goal opened end_is depth_is shows falls is t =
      let on = step_resumes view matchers rules range q state at (ways.depth q at) before after (Open k ∷ frames) goal shows falls
      (λ less lt. (omega (arith, lt, depth_is), below_less (ways.depth q at) less frames (omega arith) t.below))
      (subst (λ (a : Option ℕ). Resumes ways heads base (Open k ∷ frames) a goal) is (sym end_is, t.resumes)) in
      let r = opened_remembers k frames opened t.remembers in
      record {
        resumes = on.0;
        below = on.1;
        remembers = record {
          fails = λ j one. elim (r.fails j one) [ inl none ↦ inl none | inr at_open ↦ inr (open_stepped state at j (Open k ∷ frames) at_open) ];
          ends = r.ends;
        };
      }

-- the pair of a cell
pub cell_is : (ways : Ways) (heads : List ℕ) (base q at mark : ℕ) → mark < length heads → get_or heads mark 0 ≡ q → base ≤ at
    → (cell_end ways heads base ((at - base) * length heads + mark) ≡ ways.end q at)
    × (cell_depth ways heads base ((at - base) * length heads + mark) ≡ ways.depth q at)
cell_is ways heads base q at mark within head low =
    let parts = place_parts (length heads) (at - base) mark within in
    let state_is : get_or heads (((at - base) * length heads + mark) % length heads) 0 ≡ q = ap (λ n. get_or heads n 0) parts.1 ∙ head in
    let place_is : base + ((at - base) * length heads + mark) / length heads ≡ at = omega (arith, parts.0) in
    (ap₂ ways.end state_is place_is, ap₂ ways.depth state_is place_is)
