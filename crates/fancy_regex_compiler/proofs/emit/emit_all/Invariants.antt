use Rattle.std.proofs.Common.{◌≡◌}
use Rattle.fancy_regex_compiler.specs.Tasks.{Leads, IsAllowedTask, IsExpandedTask, past, progress, task_room, tasks_work}
use Rattle.fancy_regex_compiler.specs.Writing.{infos_of}
use Rattle.fancy_regex_compiler.proofs.emit.emit_all.Given as goal

abbrev pub invariant-loop-task : goal.invariant-loop-task
invariant-loop-task l =
    let old = l.fn.emitter in
    let t = l.fn.begin in
    record {
      cap : l.emitter.body.cap ≡ old.body.cap;
      leads : Leads l.context old l.emitter l.slot l.next l.tasks.items (past l.context t (progress old l.slot)) (IsAllowedTask l.context t old.opened.items)
          (task_room l.context t old.opened.items) (λ tree_context. IsExpandedTask tree_context t);
    }

abbrev pub decreases-loop-task : goal.decreases-loop-task
decreases-loop-task l = tasks_work (infos_of l.context) l.tasks.items
