use Rattle.std.proofs.Common.{false, refl, arith}
use Rattle.fancy_regex_desugar.specs.CorePatterns.{group}
use Rattle.fancy_regex_info.specs.Infos.{info_of}
use Rattle.fancy_regex_compiler.specs.Refusals.{IsExpandedPart}
use Rattle.fancy_regex_compiler.specs.Tasks.{node_pattern}
use Rattle.fancy_regex_compiler.specs.Writing.{draft_of, layout_of}
use Rattle.fancy_regex_compiler.proofs.OutcomeLemmas.{begins_error}
use Rattle.fancy_regex_compiler.proofs.EmitLemmas.{drew_group}
use Rattle.fancy_regex_compiler.proofs.RoomLemmas.{room_group}
use Rattle.fancy_regex_compiler.proofs.StepLemmas.{leads_enclosed_node}
use Rattle.fancy_regex_compiler.proofs.emit.emit_group.Goals as goal

pub returns : goal.returns
returns c = record {
  cap = c.in_ok-flush_and_push.ensures.cap;
  leads = λ context.
      let a = node_pattern context c.args.child.now false c.args.scope c.args.emitter.now.opened.items in
      leads_enclosed_node context c.args.emitter.now (record { body = c.flush_and_push.new.self; classes = c.args.emitter.now.classes; opened = c.args.emitter.now.opened; parts = c.args.emitter.now.parts; needs = c.args.emitter.now.needs }) c.args.slot c.args.scope.may_keep (group c.args.number a)
      (λ tree_context. IsExpandedPart tree_context c.args.scope.may_keep c.args.scope.may_be_absent false (info_of c.args.child.now)) c.enclosed_node.result c.in_ok-inside.inside _ _ _ _ c.enclosed_node.ensures.tasks c.enclosed_node.ensures.slot
      (drew_group (layout_of context) context.unicode context.whole c.args.number a c.args.slot c.in_ok-inside.inside c.in_ok-start.start c.in_ok-end.end (draft_of c.args.emitter.now.body) (draft_of c.flush_and_push.new.self) _ _ _ c.in_ok-inside.ensures.value c.in_ok-start.ensures.value c.in_ok-end.ensures.value c.in_ok-flush_and_push.ensures.draft refl refl refl)
      (omega (arith, c.in_ok-inside.ensures.value)) refl refl (λ all h. h) (omega (arith, c.in_ok-flush_and_push.ensures.long, room_group (layout_of context) c.args.number a)) (λ tree_context s h. h);
  work = c.enclosed_node.ensures.work;
  full = tt;
  refused = tt;
}

pub returns-in_err-flush_and_push : goal.returns-in_err-flush_and_push
returns-in_err-flush_and_push c =
    let e = c.in_err-flush_and_push in
    begins_error c.from_residual-in_err-flush_and_push.result e.field-0.0 c.from_residual-in_err-flush_and_push.ensures.1 e.ensures.cap
    (λ too. let lt = e.ensures.full too in omega (arith, lt)) e.ensures.refused
