use Rattle.std.proofs.Common.{false, Some, refl, arith}
use Rattle.fancy_regex_desugar.specs.CorePatterns.{repeat}
use Rattle.fancy_regex_info.specs.Infos.{info_of}
use Rattle.fancy_regex_compiler.specs.Refusals.{IsExpandedPart}
use Rattle.fancy_regex_compiler.specs.Tasks.{node_pattern}
use Rattle.fancy_regex_compiler.specs.Writing.{draft_of, layout_of}
use Rattle.fancy_regex_compiler.proofs.OutcomeLemmas.{begins_error}
use Rattle.fancy_regex_compiler.proofs.EmitLemmas.{drew_counted}
use Rattle.fancy_regex_compiler.proofs.RoomLemmas.{room_repeat}
use Rattle.fancy_regex_compiler.proofs.StepLemmas.{leads_enclosed_node}
use Rattle.fancy_regex_compiler.proofs.emit.emit_bounded_repeat.Goals as goal

pub returns : goal.returns
returns c = record {
  cap = c.in_ok-head.ensures.appends.cap;
  leads = λ context.
      let a = node_pattern context c.args.child.now false c.args.scope c.args.emitter.now.opened.items in
      leads_enclosed_node context c.args.emitter.now (record { body = c.begin_loop.new.body; classes = c.args.emitter.now.classes; opened = c.args.emitter.now.opened; parts = c.args.emitter.now.parts; needs = c.args.emitter.now.needs }) c.args.slot c.args.scope.may_keep (repeat a c.args.bounds.0 (Some c.args.bounds.1) c.args.greedy)
      (λ tree_context. IsExpandedPart tree_context c.args.scope.may_keep c.args.scope.may_be_absent false (info_of c.args.child.now)) c.enclosed_node.result c.in_ok-inside.inside _ _ _ _ c.enclosed_node.ensures.tasks c.enclosed_node.ensures.slot
      (drew_counted (layout_of context) context.unicode context.whole a c.args.bounds.0 c.args.bounds.1 c.args.greedy c.args.slot c.in_ok-inside.inside c.in_ok-head.head _ (draft_of c.args.emitter.now.body) _ (draft_of c.begin_loop.new.body) _ _ _ c.in_ok-inside.ensures.value refl c.in_ok-head.ensures.head c.in_ok-head.ensures.appends.draft refl refl refl refl)
      (omega (arith, c.in_ok-inside.ensures.value)) refl refl (λ all h. (tt, h)) (omega (arith, c.in_ok-head.ensures.appends.long, room_repeat (layout_of context) a c.args.bounds.0 (Some c.args.bounds.1) c.args.greedy)) (λ tree_context s h. h);
  work = c.enclosed_node.ensures.work;
  full = tt;
  refused = tt;
}

pub returns-in_err-head : goal.returns-in_err-head
returns-in_err-head c =
    let e = c.in_err-head in
    begins_error c.from_residual-in_err-head.result e.field-0.0 c.from_residual-in_err-head.ensures.1 e.ensures.appends.cap
    e.ensures.appends.full e.ensures.appends.refused
