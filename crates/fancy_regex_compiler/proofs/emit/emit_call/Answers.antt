use Rattle.std.proofs.Common.{◌+◌, arith}
use Rattle.fancy_regex_desugar.specs.CorePatterns.{called}
use Rattle.fancy_regex_compiler.specs.Known.{info_call}
use Rattle.fancy_regex_compiler.specs.Refusals.{TreeContext, IsExpandedTarget}
use Rattle.fancy_regex_compiler.specs.Tasks.{call_work}
use Rattle.fancy_regex_compiler.specs.Writing.{infos_of}
use Rattle.fancy_regex_compiler.proofs.OutcomeLemmas.{emits_as}
use Rattle.fancy_regex_compiler.proofs.RowLemmas.{call_shape}
use Rattle.fancy_regex_compiler.proofs.emit.emit_call.Goals as goal

pub returns-in-Some-Some : goal.returns-in-Some-Some
returns-in-Some-Some c =
    let groups = infos_of c.args.context.now in
    let scope = c.args.scope in
    let k = c.args.target in
    let opened = c.args.emitter.now.opened.items in
    let S = λ (tree_context : TreeContext). IsExpandedTarget tree_context scope.may_keep scope.may_be_absent groups k in
    let shape = call_shape groups scope.calls_left opened k in
    emits_as scope.may_keep (called k shape.0) (info_call groups scope.calls_left opened k) S S 1 (1 + call_work groups scope.calls_left k)
    (c.emit_kept_call.ensures shape.0) shape.1 (λ tree_context s h. h) (omega arith)
