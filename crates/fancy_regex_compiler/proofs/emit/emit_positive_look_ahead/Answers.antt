use Rattle.std.proofs.Common.{true, false, refl, arith}
use Rattle.fancy_regex_tree.specs.Tree.{tree_of}
use Rattle.fancy_regex_desugar.specs.CorePatterns.{ahead}
use Rattle.fancy_regex_info.specs.Infos.{info_of}
use Rattle.fancy_regex_compiler.specs.Refusals.{IsExpandedBody}
use Rattle.fancy_regex_compiler.specs.Tasks.{body_pattern}
use Rattle.fancy_regex_compiler.specs.Writing.{draft_of, layout_of}
use Rattle.fancy_regex_compiler.proofs.OutcomeLemmas.{begins_error}
use Rattle.fancy_regex_compiler.proofs.EmitLemmas.{drew_ahead}
use Rattle.fancy_regex_compiler.proofs.RoomLemmas.{room_ahead}
use Rattle.fancy_regex_compiler.proofs.StepLemmas.{leads_enclosed_body}
use Rattle.fancy_regex_compiler.proofs.emit.emit_positive_look_ahead.Goals as goal

pub returns : goal.returns
returns c = record {
  cap = c.in_ok-flush_and_push.ensures.cap;
  leads = λ context.
      let a = body_pattern context true c.args.body.now c.args.info.now c.args.scope c.args.emitter.now.opened.items in
      leads_enclosed_body context c.args.emitter.now (record { body = c.flush_and_push.new.self; classes = c.args.emitter.now.classes; opened = c.args.emitter.now.opened; parts = c.args.emitter.now.parts; needs = c.args.emitter.now.needs }) c.args.slot c.args.scope.may_keep (ahead a)
      (λ tree_context. IsExpandedBody tree_context false c.args.scope.may_be_absent false (tree_of c.args.body.now) (info_of c.args.info.now)) c.enclosed_body.result c.in_ok-inside.inside _ _ _ _ _ c.enclosed_body.ensures.tasks c.enclosed_body.ensures.slot
      (drew_ahead (layout_of context) context.unicode context.whole a c.args.slot c.in_ok-inside.inside (draft_of c.args.emitter.now.body) (draft_of c.flush_and_push.new.self) _ _ c.in_ok-inside.ensures.value c.in_ok-flush_and_push.ensures.draft refl refl)
      (omega (arith, c.in_ok-inside.ensures.value)) refl refl (λ all h. h) (omega (arith, c.in_ok-flush_and_push.ensures.long, room_ahead (layout_of context) a)) (λ tree_context s h. h);
  work = c.enclosed_body.ensures.work;
  full = tt;
  refused = tt;
}

pub returns-in_err-flush_and_push : goal.returns-in_err-flush_and_push
returns-in_err-flush_and_push c =
    let e = c.in_err-flush_and_push in
    begins_error c.from_residual-in_err-flush_and_push.result e.field-0.0 c.from_residual-in_err-flush_and_push.ensures.1 e.ensures.cap
    (λ too. let lt = e.ensures.full too in omega (arith, lt)) e.ensures.refused
