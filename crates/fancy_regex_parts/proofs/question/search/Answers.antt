use Rattle.std.proofs.Common.{◌≡◌, ℕ, ◌+◌, ◌∙◌, List, [], ◌∷◌, refl, sym, ap, subst, arith, length}
use Rattle.std.proofs.lemmas.List.{nil_from_length}
use Rattle.fancy_regex_class.specs.Looks.{looked_text}
use Rattle.fancy_regex_parts.specs.Tables.{due, cell_cost}
use Rattle.fancy_regex_parts.specs.Frames.{top_first, pending, task_due, task_mode, Remembers, IsTaskWithin}
use Rattle.fancy_regex_parts.specs.Layers.{IsAtTask, IsOfText, IsPaid}
use Rattle.fancy_regex_parts.specs.declared.frame.Task.{Task}
use Rattle.fancy_regex_parts.proofs.StackLemmas.{top_pushed, small_place, answer_place, resume_within}
use Rattle.fancy_regex_parts.proofs.CostLemmas.{pending_cons, resume_due, mode_most}
use Rattle.fancy_regex_parts.proofs.TrackLemmas.{Tracks-resume}
use Rattle.fancy_regex_parts.proofs.VisitLemmas.{no_look}
use Rattle.fancy_regex_parts.proofs.LoopLemmas.{paid_on, paid_down, paid_resumed, known_cap, tracked_on, within_on, kept}
use Rattle.fancy_regex_parts.proofs.question.search.Goals as goal

pub tasks-init : goal.tasks-init
unfolding top_first pending
tasks-init c =
    let none : c.args.memory.now.stack.items ≡ [] = nil_from_length _ (omega (arith, c.requires.ready.stack, c.args.memory.now.stack.ok.0)) in
    record {
      tracking = λ view ways has true_of. rw none (record { resumes = refl; below = tt; remembers = true_of });
      place = rw none (record { task = c.requires.place; frames = tt });
      paid = rw none (record { base = refl; memory = c.requires.ready.of_text; counted = omega arith; looks = no_look c.args.text.now });
    }

pub visit-requires : goal.visit-requires
visit-requires c =
    let paid = c.tasks.invariant.paid in
    record {
      table = c.requires.ready.table;
      of_text = subst (λ (t : List ℕ). IsOfText c.args.context.now t c.tasks.memory.recall) (sym paid.looks.text) paid.memory;
      small = rw paid.looks.text c.requires.ready.small;
      place = rw (paid.looks.text, paid.base)
          (subst (λ (t : Task). IsAtTask c.args.context.now (looked_text c.args.text.now) c.args.memory.now.recall.base t (top_first c.tasks.memory.stack.items)) c.in-Visit.is c.tasks.invariant.place);
    }

pub resume-task-requires : goal.resume-task-requires
resume-task-requires c =
    small_place c.args.context.now.table.now (looked_text c.args.text.now) c.args.memory.now.recall.base _ c.requires.ready.small
    (subst (IsTaskWithin c.args.context.now.table.now (looked_text c.args.text.now) c.args.memory.now.recall.base) c.in-Answer.is c.tasks.invariant.place.task)

pub returns-in_default-clause-answer : goal.returns-in_default-clause-answer
unfolding top_first
returns-in_default-clause-answer c view ways has true_of =
    let none : c.tasks.memory.stack.items ≡ [] = nil_from_length _ (omega (arith, c.in_default.ensures.cases.0, c.tasks.memory.stack.ok.0)) in
    let t = rw (none, c.in-Answer.is) at (c.tasks.invariant.tracking view ways has true_of) in (
      t.resumes,
      subst (λ (b : ℕ). Remembers ways c.args.context.now.table.now.heads.items b c.tasks.memory.recall []) (sym c.tasks.invariant.paid.base) t.remembers,
    )

pub returns-in_default-clause-place : goal.returns-in_default-clause-place
returns-in_default-clause-place c =
    answer_place c.args.context.now.table.now (looked_text c.args.text.now) c.args.memory.now.recall.base _
    (subst (IsTaskWithin c.args.context.now.table.now (looked_text c.args.text.now) c.args.memory.now.recall.base) c.in-Answer.is c.tasks.invariant.place.task)

pub returns-in_default-clause-paid : goal.returns-in_default-clause-paid
returns-in_default-clause-paid c = paid_down c.args.context.now _ _ 0 (omega arith) c.tasks.invariant.paid

-- the visit's text and first row are the search's
pub tasks-preserved-in-Visit : goal.tasks-preserved-in-Visit
tasks-preserved-in-Visit c =
    let paid = c.tasks.invariant.paid in
    let here = subst (λ (t : Task). IsPaid c.args.context.now c.args.text.now c.tasks.text c.args.memory.now.recall c.tasks.memory.recall (due c.args.context.now.table.now c.args.part)
    (task_due c.args.context.now.table.now t + pending c.args.context.now.table.now (top_first c.tasks.memory.stack.items))) c.in-Visit.is paid in
    record {
      tracking = λ view ways has true_of.
          tracked_on c.args.context.now (looked_text c.args.text.now) (looked_text c.tasks.text) c.args.memory.now.recall.base c.in-Visit.state c.in-Visit.at _ paid.looks.text paid.base
          c.in_ok-task-in-Visit.ensures.visit view ways has (ways.end c.args.part c.args.at)
          (rw c.in-Visit.is at (c.tasks.invariant.tracking view ways has true_of));
      place = within_on c.args.context.now (looked_text c.args.text.now) (looked_text c.tasks.text) c.args.memory.now.recall.base c.in-Visit.state c.in-Visit.at _ paid.looks.text paid.base
          c.in_ok-task-in-Visit.ensures.visit;
      paid = paid_on c.args.context.now _ _ _ here c.in_ok-task-in-Visit.ensures.paid;
    }

pub tasks-smaller-in-Visit : goal.tasks-smaller-in-Visit
tasks-smaller-in-Visit c =
    let paid = c.tasks.invariant.paid in
    let text : looked_text c.tasks.text ≡ looked_text c.args.text.now = paid.looks.text in
    let after = subst (λ (t : List ℕ). IsOfText c.args.context.now t c.visit.new.memory.recall) text c.visit.ensures.looked.memory in
    let base = c.visit.ensures.looked.base ∙ paid.base in
    let old = known_cap c.args.context.now (looked_text c.args.text.now) c.args.memory.now.recall.base c.tasks.memory.recall paid.memory paid.base in
    let new = known_cap c.args.context.now (looked_text c.args.text.now) c.args.memory.now.recall.base c.visit.new.memory.recall after base in
    let due_is = ap (task_due c.args.context.now.table.now) c.in-Visit.is in
    let mode_is = ap task_mode c.in-Visit.is in
    omega (arith, c.in_ok-task-in-Visit.ensures.visit.progress, old, new, due_is, mode_is)

pub tasks-preserved : goal.tasks-preserved
tasks-preserved c =
    let context = c.args.context.now in
    let base = c.args.memory.now.recall.base in
    let is : top_first c.tasks.memory.stack.items ≡ c.in-Some.frame ∷ top_first c.pop.new.self.items =
    ap top_first c.in-Some.ensures.items ∙ top_pushed c.pop.new.self.items c.in-Some.frame in
    let place = rw (is, c.in-Answer.is) at c.tasks.invariant.place in
    record {
      tracking = λ view ways has true_of.
          rw c.resume-task.ensures.task
          (Tracks-resume ways context.table.now.heads.items base c.in-Some.frame (top_first c.pop.new.self.items) _ (ways.end c.args.part c.args.at) c.resume-task.ensures.recall
          (rw (is, c.in-Answer.is) at (c.tasks.invariant.tracking view ways has true_of)));
      place = record {
        task = rw c.resume-task.ensures.task (resume_within context.table.now (looked_text c.args.text.now) base c.requires.ready.small c.in-Some.frame (top_first c.pop.new.self.items) _ place.frames place.task);
        frames = place.frames.1;
      };
      paid = rw c.resume-task.ensures.task
          (paid_resumed context c.args.text.now c.tasks.text c.args.memory.now.recall c.tasks.memory.recall _ (due context.table.now c.args.part) c.in-Some.frame (top_first c.pop.new.self.items) _
          c.resume-task.ensures.recall place.task (rw (is, c.in-Answer.is) at c.tasks.invariant.paid));
    }

pub tasks-smaller : goal.tasks-smaller
tasks-smaller c =
    let context = c.args.context.now in
    let is : top_first c.tasks.memory.stack.items ≡ c.in-Some.frame ∷ top_first c.pop.new.self.items =
    ap top_first c.in-Some.ensures.items ∙ top_pushed c.pop.new.self.items c.in-Some.frame in
    let left = ap (pending context.table.now) is ∙ pending_cons context.table.now c.in-Some.frame (top_first c.pop.new.self.items) in
    let len : length (top_first c.tasks.memory.stack.items) ≡ length (top_first c.pop.new.self.items) + 1 = ap length is ∙ omega arith in
    let due_is = ap (task_due context.table.now) c.in-Answer.is in
    let new_due = ap (task_due context.table.now) c.resume-task.ensures.task in
    let less = resume_due context.table.now c.in-Some.frame c.in-Answer.end in
    let mode = mode_most c.resume-task.result in
    let same = (kept c.in-Some.frame c.in-Answer.end c.resume-task.ensures.recall).weight (cell_cost context.table.now) in
    rw same (omega (arith, left, len, due_is, new_due, less, mode))
