use Rattle.std.proofs.Common.{false, refl, ap, arith}
use Rattle.fancy_regex_desugar.specs.CorePatterns.{absent}
use Rattle.fancy_regex_info.specs.Infos.{info_of}
use Rattle.fancy_regex_compiler.specs.Refusals.{IsExpandedAbsent}
use Rattle.fancy_regex_compiler.specs.Tasks.{node_pattern}
use Rattle.fancy_regex_compiler.specs.Writing.{added, draft_of, infos_of, layout_of}
use Rattle.fancy_regex_compiler.proofs.EmitLemmas.{drew_absent}
use Rattle.fancy_regex_compiler.proofs.OutcomeLemmas.{never_full, emits_want}
use Rattle.fancy_regex_compiler.proofs.RoomLemmas.{room_absent}
use Rattle.fancy_regex_compiler.proofs.StepLemmas.{leads_enclosed_node}
use Rattle.fancy_regex_compiler.proofs.emit.emit_absent.Goals as goal

pub returns : goal.returns
returns c context = record {
  cap = c.in_ok-scan.ensures.appends.cap;
  leads =
      let a = node_pattern context c.args.child.now false c.args.scope c.args.emitter.now.opened.items in
      leads_enclosed_node context c.args.emitter.now (record { body = c.begin_loop.new.body; classes = c.args.emitter.now.classes; opened = c.args.emitter.now.opened; parts = c.args.emitter.now.parts; needs = c.args.emitter.now.needs }) c.args.slot c.args.scope.may_keep (absent a)
      (λ tree_context. IsExpandedAbsent tree_context c.args.scope.may_be_absent (info_of c.args.child.now)) c.enclosed_node.result c.in_ok-inside.inside _ _ _ _ c.enclosed_node.ensures.tasks c.enclosed_node.ensures.slot
      (drew_absent (layout_of context) context.unicode context.whole a c.args.slot c.in_ok-inside.inside c.in_ok-limit.limit c.in_ok-scan.scan _ (draft_of c.args.emitter.now.body) _ (draft_of c.begin_loop.new.body) _ _ _ _ c.in_ok-limit.ensures.value c.in_ok-inside.ensures.value (ap (λ o. added o (draft_of c.args.emitter.now.body)) c.in_ok-begin.ensures) c.in_ok-scan.ensures.head c.in_ok-scan.ensures.appends.draft refl refl refl refl refl)
      (omega (arith, c.in_ok-inside.ensures.value)) refl refl (λ all h. h) (omega (arith, c.in_ok-scan.ensures.appends.long, room_absent (layout_of context) a)) (λ tree_context s h. h.child);
  work = c.enclosed_node.ensures.work (infos_of context);
  full = tt;
  refused = tt;
}

pub returns-in_err-limit : goal.returns-in_err-limit
returns-in_err-limit c context =
    let e = c.in_err-limit in
    emits_want c.from_residual.result e.field-0.0 c.from_residual.ensures.1 refl (never_full e.field-0.0 e.ensures.full) e.ensures.refused

pub returns-in_err-inside : goal.returns-in_err-inside
returns-in_err-inside c context =
    let e = c.in_err-inside in
    let r = c.from_residual-in_err-inside in
    emits_want r.result e.field-0.0 r.ensures.1 refl (never_full e.field-0.0 e.ensures.full) e.ensures.refused

pub returns-in_err-scan : goal.returns-in_err-scan
returns-in_err-scan c context =
    let e = c.in_err-scan in
    let r = c.from_residual-in_err-scan in
    let a = node_pattern context c.args.child.now false c.args.scope c.args.emitter.now.opened.items in
    emits_want r.result e.field-0.0 r.ensures.1 e.ensures.appends.cap
    (λ too. let lt = e.ensures.appends.full too in omega (arith, lt, room_absent (layout_of context) a)) e.ensures.appends.refused
