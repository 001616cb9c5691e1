use Rattle.std.proofs.Common.{Some, None, ◌∙◌, refl, ap, arith}
use Rattle.std.proofs.lemmas.List.{get_or_read}
use Rattle.fancy_regex_parts.specs.Frames.{top_first, step_frames}
use Rattle.fancy_regex_states.specs.declared.state.State.TheVariants.{Match}
use Rattle.fancy_regex_parts.proofs.VisitLemmas.{opened_visit, opened_paid, opened_looked, fails_visit, ends_visit, known_paid, known_looked, no_look, right_at}
use Rattle.fancy_regex_parts.proofs.step.visit_marked.Goals as goal

pub returns-in_ok-task-in-New-clause-visit : goal.returns-in_ok-task-in-New-clause-visit
returns-in_ok-task-in-New-clause-visit c =
    let known = rw c.in-New.is at c.in_ok-known.ensures.known in
    opened_visit c.args.context.now c.args.text.now c.step.new.text c.args.memory.now.recall (top_first c.args.memory.now.stack.items) c.args.q c.args.at c.requires.ready.table c.requires.ready.of_text c.requires.ready.small c.requires.ready.place
    c.open.new.self c.args.mark c.requires.mark c.open.ensures.rows
    c.in-New.cell (rw (← known.0) at known.1) known.0 c.step.ensures.looked.looks c.step.ensures.looked.at_most c.step.ensures.next _ _ _ (get_or_read c.args.context.now.table.now.states.items c.args.q _ c.requires.ready.place.task.state c.index-state.ensures Match) c.in_ok-task-in-New.ensures.task
    (c.in_ok-task-in-New.ensures.frames ∙ ap (step_frames _ c.args.at) c.in_ok-push-in-New.ensures)

pub returns-in_ok-task-in-New-clause-paid : goal.returns-in_ok-task-in-New-clause-paid
returns-in_ok-task-in-New-clause-paid c =
    let known = rw c.in-New.is at c.in_ok-known.ensures.known in
    opened_paid c.args.context.now c.args.text.now c.step.new.text c.args.memory.now.recall (top_first c.args.memory.now.stack.items) c.args.q c.args.at c.requires.ready.table c.requires.ready.of_text c.requires.ready.small c.requires.ready.place
    c.open.new.self c.args.mark c.requires.mark c.open.ensures.rows
    c.in-New.cell (rw (← known.0) at known.1) known.0 c.step.ensures.looked.looks c.step.ensures.looked.at_most c.step.ensures.next _ _ _ (get_or_read c.args.context.now.table.now.states.items c.args.q _ c.requires.ready.place.task.state c.index-state.ensures Match) c.in_ok-task-in-New.ensures.task
    (c.in_ok-task-in-New.ensures.frames ∙ ap (step_frames _ c.args.at) c.in_ok-push-in-New.ensures)

pub returns-in_ok-task-in-New-clause-looked : goal.returns-in_ok-task-in-New-clause-looked
returns-in_ok-task-in-New-clause-looked c =
    let known = rw c.in-New.is at c.in_ok-known.ensures.known in
    opened_looked c.args.context.now c.args.text.now c.step.new.text c.args.memory.now.recall (top_first c.args.memory.now.stack.items) c.args.q c.args.at c.requires.ready.table c.requires.ready.of_text c.requires.ready.small c.requires.ready.place
    c.open.new.self c.args.mark c.requires.mark c.open.ensures.rows
    _ known.1 refl c.step.ensures.looked.looks c.step.ensures.looked.at_most

pub returns-in_err-task-in-New-clause-looked : goal.returns-in_err-task-in-New-clause-looked
returns-in_err-task-in-New-clause-looked c =
    let known = rw c.in-New.is at c.in_ok-known.ensures.known in
    opened_looked c.args.context.now c.args.text.now c.step.new.text c.args.memory.now.recall (top_first c.args.memory.now.stack.items) c.args.q c.args.at c.requires.ready.table c.requires.ready.of_text c.requires.ready.small c.requires.ready.place
    c.open.new.self c.args.mark c.requires.mark c.open.ensures.rows
    _ known.1 refl c.step.ensures.looked.looks c.step.ensures.looked.at_most

pub returns-in_err-push-in-New-clause-looked : goal.returns-in_err-push-in-New-clause-looked
returns-in_err-push-in-New-clause-looked c =
    let known = rw c.in-New.is at c.in_ok-known.ensures.known in
    opened_looked c.args.context.now c.args.text.now c.args.text.now c.args.memory.now.recall (top_first c.args.memory.now.stack.items) c.args.q c.args.at c.requires.ready.table c.requires.ready.of_text c.requires.ready.small c.requires.ready.place
    c.open.new.self c.args.mark c.requires.mark c.open.ensures.rows
    _ known.1 refl (no_look c.args.text.now) (omega arith)

pub returns-in_err-known-clause-looked : goal.returns-in_err-known-clause-looked
returns-in_err-known-clause-looked c =
    known_looked c.args.context.now c.args.text.now c.args.text.now c.args.memory.now.recall (top_first c.args.memory.now.stack.items) c.args.q c.args.at c.requires.ready.table c.requires.ready.of_text c.requires.ready.small c.requires.ready.place
    c.open.new.self c.args.mark c.requires.mark c.open.ensures.rows c.in_err-known.ensures.err

pub returns-in-Fails-clause-visit : goal.returns-in-Fails-clause-visit
returns-in-Fails-clause-visit c =
    let known = rw c.in-Fails.is at c.in_ok-known.ensures.known in
    fails_visit c.args.context.now c.args.text.now c.args.text.now c.args.memory.now.recall (top_first c.args.memory.now.stack.items) c.args.q c.args.at c.requires.ready.table c.requires.ready.of_text c.requires.ready.small c.requires.ready.place
    c.open.new.self c.args.mark c.requires.mark c.open.ensures.rows known.1 known.0

pub returns-in-Fails-clause-paid : goal.returns-in-Fails-clause-paid
returns-in-Fails-clause-paid c =
    let known = rw c.in-Fails.is at c.in_ok-known.ensures.known in
    known_paid c.args.context.now c.args.text.now c.args.text.now c.args.memory.now.recall (top_first c.args.memory.now.stack.items) c.args.q c.args.at c.requires.ready.table c.requires.ready.of_text c.requires.ready.small c.requires.ready.place
    c.open.new.self c.args.mark c.requires.mark c.open.ensures.rows known.1 None

pub returns-in-Fails-clause-looked : goal.returns-in-Fails-clause-looked
returns-in-Fails-clause-looked c =
    let known = rw c.in-Fails.is at c.in_ok-known.ensures.known in
    known_looked c.args.context.now c.args.text.now c.args.text.now c.args.memory.now.recall (top_first c.args.memory.now.stack.items) c.args.q c.args.at c.requires.ready.table c.requires.ready.of_text c.requires.ready.small c.requires.ready.place
    c.open.new.self c.args.mark c.requires.mark c.open.ensures.rows known.1

pub returns-in-Ends-clause-visit : goal.returns-in-Ends-clause-visit
returns-in-Ends-clause-visit c =
    let known = rw c.in-Ends.is at c.in_ok-known.ensures.known in
    ends_visit c.args.context.now c.args.text.now c.args.text.now c.args.memory.now.recall (top_first c.args.memory.now.stack.items) c.args.q c.args.at c.requires.ready.table c.requires.ready.of_text c.requires.ready.small c.requires.ready.place
    c.open.new.self c.args.mark c.requires.mark c.open.ensures.rows known.1 c.in-Ends.end known.0

pub returns-in-Ends-clause-paid : goal.returns-in-Ends-clause-paid
returns-in-Ends-clause-paid c =
    let known = rw c.in-Ends.is at c.in_ok-known.ensures.known in
    known_paid c.args.context.now c.args.text.now c.args.text.now c.args.memory.now.recall (top_first c.args.memory.now.stack.items) c.args.q c.args.at c.requires.ready.table c.requires.ready.of_text c.requires.ready.small c.requires.ready.place
    c.open.new.self c.args.mark c.requires.mark c.open.ensures.rows known.1 (Some c.in-Ends.end)

pub returns-in-Ends-clause-looked : goal.returns-in-Ends-clause-looked
returns-in-Ends-clause-looked c =
    let known = rw c.in-Ends.is at c.in_ok-known.ensures.known in
    known_looked c.args.context.now c.args.text.now c.args.text.now c.args.memory.now.recall (top_first c.args.memory.now.stack.items) c.args.q c.args.at c.requires.ready.table c.requires.ready.of_text c.requires.ready.small c.requires.ready.place
    c.open.new.self c.args.mark c.requires.mark c.open.ensures.rows known.1

pub open-requires-clause-mark : goal.open-requires-clause-mark
open-requires-clause-mark c =
    let m = (right_at c.args.context.now.table.now c.args.q c.requires.ready.table c.requires.ready.place.task.state).marked c.args.mark c.requires.mark in
    omega (arith, m.0, c.requires.ready.of_text.width)

pub open-requires-clause-small : goal.open-requires-clause-small
open-requires-clause-small c = omega (arith, c.requires.ready.small, c.requires.ready.place.task.boundary.0)
