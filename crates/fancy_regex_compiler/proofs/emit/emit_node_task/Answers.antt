use Rattle.std.proofs.Common.{sym, subst}
use Rattle.fancy_regex_compiler.specs.Tasks.{EmitsTask}
use Rattle.fancy_regex_compiler.specs.declared.task.Task.TheVariants as task
use Rattle.fancy_regex_compiler.proofs.emit.emit_node_task.Goals as goal

pub returns-then-steps_back : goal.returns-then-steps_back
returns-then-steps_back c =
    subst (λ back. EmitsTask c.args.context.now (task.Node c.args.info back c.args.scope) c.args.emitter.now c.emit_look_behind_body.new.emitter c.args.slot c.emit_look_behind_body.result)
    (sym c.if-steps_back.true) c.emit_look_behind_body.ensures

pub returns-else-steps_back : goal.returns-else-steps_back
returns-else-steps_back c =
    subst (λ back. EmitsTask c.args.context.now (task.Node c.args.info back c.args.scope) c.args.emitter.now c.emit_node.new.emitter c.args.slot c.emit_node.result)
    (sym c.if-steps_back.false) c.emit_node.ensures
