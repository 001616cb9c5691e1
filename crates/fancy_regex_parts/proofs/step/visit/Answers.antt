use Rattle.std.proofs.Common.{◌∙◌, sym}
use Rattle.std.proofs.lemmas.List.{get_or_read}
use Rattle.fancy_regex_parts.specs.Frames.{top_first}
use Rattle.fancy_regex_states.specs.declared.state.State.TheVariants.{Match}
use Rattle.fancy_regex_parts.proofs.VisitLemmas.{unmarked_visit, unmarked_paid, unmarked_looked}
use Rattle.fancy_regex_parts.proofs.step.visit.Goals as goal

pub returns-in_ok-task-in-None-clause-visit : goal.returns-in_ok-task-in-None-clause-visit
returns-in_ok-task-in-None-clause-visit c =
    unmarked_visit c.args.context.now c.args.text.now c.step.new.text c.args.memory.now.recall (top_first c.args.memory.now.stack.items) c.args.q c.args.at c.requires.table c.requires.of_text c.requires.small c.requires.place
    (sym c.mark.ensures ∙ c.in-None.is) c.step.ensures.looked.looks c.step.ensures.looked.at_most
    c.step.ensures.next _ _ _ (get_or_read c.args.context.now.table.now.states.items c.args.q _ c.requires.place.task.state c.index-state.ensures Match) c.in_ok-task-in-None.ensures.task c.in_ok-task-in-None.ensures.frames

pub returns-in_ok-task-in-None-clause-paid : goal.returns-in_ok-task-in-None-clause-paid
returns-in_ok-task-in-None-clause-paid c =
    unmarked_paid c.args.context.now c.args.text.now c.step.new.text c.args.memory.now.recall (top_first c.args.memory.now.stack.items) c.args.q c.args.at c.requires.table c.requires.of_text c.requires.small c.requires.place
    (sym c.mark.ensures ∙ c.in-None.is) c.step.ensures.looked.looks c.step.ensures.looked.at_most
    c.step.ensures.next _ _ _ (get_or_read c.args.context.now.table.now.states.items c.args.q _ c.requires.place.task.state c.index-state.ensures Match) c.in_ok-task-in-None.ensures.task c.in_ok-task-in-None.ensures.frames

pub returns-in_ok-task-in-None-clause-looked : goal.returns-in_ok-task-in-None-clause-looked
returns-in_ok-task-in-None-clause-looked c =
    unmarked_looked c.args.context.now c.args.text.now c.step.new.text c.args.memory.now.recall (top_first c.args.memory.now.stack.items) c.args.q c.args.at c.requires.table c.requires.of_text c.requires.small c.requires.place
    (sym c.mark.ensures ∙ c.in-None.is) c.step.ensures.looked.looks c.step.ensures.looked.at_most

pub returns-in_err-task-in-None-clause-looked : goal.returns-in_err-task-in-None-clause-looked
returns-in_err-task-in-None-clause-looked c =
    unmarked_looked c.args.context.now c.args.text.now c.step.new.text c.args.memory.now.recall (top_first c.args.memory.now.stack.items) c.args.q c.args.at c.requires.table c.requires.of_text c.requires.small c.requires.place
    (sym c.mark.ensures ∙ c.in-None.is) c.step.ensures.looked.looks c.step.ensures.looked.at_most
