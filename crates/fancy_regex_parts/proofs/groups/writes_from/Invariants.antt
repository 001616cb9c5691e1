use Rattle.std.proofs.Common.{◌≡◌, ◌+◌, ◌*◌, ◌≤◌, Some, length}
use Rattle.fancy_regex_class.specs.Looks.{looked_text, look_count}
use Rattle.fancy_regex_states.specs.Attempts.{Trace}
use Rattle.fancy_regex_parts.specs.Tables.{due, known_cost}
use Rattle.fancy_regex_parts.specs.Layers.{LeavesMemory}
use Rattle.fancy_regex_parts.specs.Walk.{AllTasksWithin, AreWalked, ForTried, IsWalkedIn, IsWalking, dearest, last_first, tasks_due, work_left}
use Rattle.fancy_regex_parts.proofs.groups.writes_from.Given as goal

abbrev pub invariant-tasks : goal.invariant-tasks
invariant-tasks l = record {
  within : AllTasksWithin l.context.table.now (looked_text l.fn.text) l.fn.memory.recall.base (dearest l.context.table.now l.context.entry)
      (last_first l.walked.tasks.items);
  walked : IsWalkedIn l.context.table.now (length (looked_text l.fn.text)) l.fn.memory.recall.base l.walked;
  low : l.written ≤ length l.walked.lists.writes.items;
  walking : ForTried l.context (looked_text l.fn.text) l.fn.memory.recall (λ go. AreWalked go l.context.table.now.heads.items l.fn.walked → (t : Trace)
      → (go l.context.entry l.start).answer ≡ Some t
      → IsWalking go l.context.table.now.heads.items l.fn.memory.recall.base l.walked.lists.writes.items l.walked.visited (last_first l.walked.tasks.items)
      l.written t.writes);
  leaves : LeavesMemory l.context l.fn.text l.text l.fn.memory l.memory;
  counted : look_count l.text + known_cost l.context.table.now l.fn.memory.recall
      + dearest l.context.table.now l.context.entry
      * (tasks_due l.context.table.now (last_first l.walked.tasks.items) + known_cost l.context.table.now l.fn.walked.visited)
      ≤ look_count l.fn.text + known_cost l.context.table.now l.memory.recall
      + dearest l.context.table.now l.context.entry * (due l.context.table.now l.context.entry + known_cost l.context.table.now l.walked.visited);
}

abbrev pub decreases-tasks : goal.decreases-tasks
decreases-tasks l =
    work_left l.context.table.now (length (looked_text l.fn.text)) l.fn.memory.recall.base l.walked.visited (last_first l.walked.tasks.items)
