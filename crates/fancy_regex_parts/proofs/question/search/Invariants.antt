use Rattle.std.proofs.Common.{◌+◌, ◌-◌, ◌*◌, length}
use Rattle.fancy_regex_class.specs.Looks.{looked_text}
use Rattle.fancy_regex_parts.specs.Tables.{cost_from, due, known_cost}
use Rattle.fancy_regex_parts.specs.Frames.{Tracks, pending, task_due, task_mode, top_first}
use Rattle.fancy_regex_parts.specs.Layers.{ForTrueWays, IsAtTask, IsPaid}
use Rattle.fancy_regex_parts.proofs.question.search.Given as goal

abbrev pub invariant-tasks : goal.invariant-tasks
invariant-tasks l = record {
  tracking : ForTrueWays l.context l.fn.text l.fn.memory (λ ways. Tracks ways l.context.table.now.heads.items l.fn.memory.recall.base l.memory.recall l.task
      (top_first l.memory.stack.items) (ways.end l.part l.at));
  place : IsAtTask l.context (looked_text l.fn.text) l.fn.memory.recall.base l.task (top_first l.memory.stack.items);
  paid : IsPaid l.context l.fn.text l.text l.fn.memory.recall l.memory.recall (due l.context.table.now l.part)
      (task_due l.context.table.now l.task + pending l.context.table.now (top_first l.memory.stack.items));
}

abbrev pub decreases-tasks : goal.decreases-tasks
decreases-tasks l =
    6 * (task_due l.context.table.now l.task + pending l.context.table.now (top_first l.memory.stack.items)
    + (cost_from l.context.table.now (looked_text l.fn.text) l.fn.memory.recall.base - known_cost l.context.table.now l.memory.recall))
    + 2 * length (top_first l.memory.stack.items) + task_mode l.task
