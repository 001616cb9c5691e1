use Rattle.std.proofs.Common.{false}
use Rattle.fancy_regex_info.specs.Infos.{info_of}
use Rattle.fancy_regex_compiler.specs.Refusals.{IsExpandedPart}
use Rattle.fancy_regex_compiler.specs.Tasks.{node_pattern}
use Rattle.fancy_regex_compiler.proofs.StepLemmas.{emits_all}
use Rattle.fancy_regex_compiler.proofs.emit.emit_called.Goals as goal

pub returns : goal.returns
returns c =
    let context = c.args.context.now in
    let scope = c.args.scope in
    let old = c.args.emitter.now in
    let done = c.emit_all.ensures in
    emits_all context (node_pattern context c.args.info.now false scope old.opened.items) scope.may_keep
    (λ tree_context. IsExpandedPart tree_context scope.may_keep scope.may_be_absent false (info_of c.args.info.now)) old c.emit_all.new.emitter c.args.slot c.emit_all.result
    done.cap done.ends done.allowed done.notes done.full done.refused
