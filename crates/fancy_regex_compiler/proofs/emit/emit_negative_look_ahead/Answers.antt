use Rattle.std.proofs.Common.{true, false, refl, arith}
use Rattle.fancy_regex_tree.specs.Tree.{tree_of}
use Rattle.fancy_regex_desugar.specs.CorePatterns.{never}
use Rattle.fancy_regex_info.specs.Infos.{info_of}
use Rattle.fancy_regex_compiler.specs.Refusals.{IsExpandedBody}
use Rattle.fancy_regex_compiler.specs.Tasks.{body_pattern}
use Rattle.fancy_regex_compiler.specs.Writing.{draft_of, layout_of}
use Rattle.fancy_regex_compiler.proofs.OutcomeLemmas.{begins_error}
use Rattle.fancy_regex_compiler.proofs.EmitLemmas.{drew_never}
use Rattle.fancy_regex_compiler.proofs.RoomLemmas.{room_never}
use Rattle.fancy_regex_compiler.proofs.StepLemmas.{leads_enclosed_body}
use Rattle.fancy_regex_compiler.proofs.emit.emit_negative_look_ahead.Goals as goal

pub returns : goal.returns
returns c = record {
  cap = c.in_ok-begins.ensures.appends.cap;
  leads = λ context.
      let a = body_pattern context true c.args.body.now c.args.info.now c.args.scope c.args.emitter.now.opened.items in
      leads_enclosed_body context c.args.emitter.now (record { body = c.begin_atomic_choice.new.body; classes = c.args.emitter.now.classes; opened = c.args.emitter.now.opened; parts = c.args.emitter.now.parts; needs = c.args.emitter.now.needs }) c.args.slot c.args.scope.may_keep (never a)
      (λ tree_context. IsExpandedBody tree_context false c.args.scope.may_be_absent false (tree_of c.args.body.now) (info_of c.args.info.now)) c.enclosed_body.result c.in_ok-inside.inside _ _ _ _ _ c.enclosed_body.ensures.tasks c.enclosed_body.ensures.slot
      (drew_never (layout_of context) context.unicode context.whole a c.args.slot c.in_ok-inside.inside c.in_ok-begins.begins.0 c.in_ok-begins.begins.1 _ (draft_of c.args.emitter.now.body) _ (draft_of c.begin_atomic_choice.new.body) _ _ _ c.in_ok-inside.ensures.value refl c.in_ok-begins.ensures.split c.in_ok-begins.ensures.appends.draft c.in_ok-begins.ensures.first refl refl refl refl)
      (omega (arith, c.in_ok-inside.ensures.value)) refl refl (λ all h. h) (omega (arith, c.in_ok-begins.ensures.appends.long, room_never (layout_of context) a)) (λ tree_context s h. h);
  work = c.enclosed_body.ensures.work;
  full = tt;
  refused = tt;
}

pub returns-in_err-begins : goal.returns-in_err-begins
returns-in_err-begins c =
    let e = c.in_err-begins in
    begins_error c.from_residual-in_err-begins.result e.field-0.0 c.from_residual-in_err-begins.ensures.1 e.ensures.appends.cap
    e.ensures.appends.full e.ensures.appends.refused
