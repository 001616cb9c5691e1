use Rattle.std.proofs.Common.{◌≡◌, true, false, map, refl, sym, ap, ◌∙◌, subst, arith}
use Rattle.fancy_regex_desugar.specs.Unfolded.{alt_all}
use Rattle.fancy_regex_info.specs.Infos.{info_of}
use Rattle.fancy_regex_info.specs.declared.info.Info.TheViews.{out-Info}
use Rattle.fancy_regex_compiler.specs.Known.{info_call}
use Rattle.fancy_regex_compiler.specs.Refusals.{IsExpandedPart, AreExpandedParts}
use Rattle.fancy_regex_compiler.specs.Tasks.{room_of, node_pattern, branches_pattern, tasks_work, listed}
use Rattle.fancy_regex_compiler.specs.Writing.{layout_of, infos_of, part}
use Rattle.fancy_regex_compiler.specs.declared.task.Step.{Step}
use Rattle.fancy_regex_compiler.specs.declared.task.Task.TheVariants as task
use Rattle.fancy_regex_compiler.proofs.NodeLemmas.{behind_always, behind_alt}
use Rattle.fancy_regex_compiler.proofs.OutcomeLemmas.{emits_want}
use Rattle.fancy_regex_compiler.proofs.RefusalLemmas.{reason_weaker, kids_behind, in_front, has_branches}
use Rattle.fancy_regex_compiler.proofs.RoomLemmas.{full_behind, room_behind}
use Rattle.fancy_regex_compiler.proofs.StepLemmas.{leads_back, leads_one_step}
use Rattle.fancy_regex_compiler.proofs.WorkLemmas.{row_less}
use Rattle.fancy_regex_compiler.proofs.emit.emit_look_behind_body.Goals as goal

pub returns-then-info : goal.returns-then-info
returns-then-info c =
    let call = info_call (infos_of c.args.context.now) c.args.scope.calls_left c.args.emitter.now.opened.items in
    record {
      cap = c.emit_node.ensures.cap ∙ c.in_ok-flush_and_push.ensures.cap;
      leads =
          leads_back c.emit_node.result c.args.context.now c.args.emitter.now (record { body = c.flush_and_push.new.self; classes = c.args.emitter.now.classes; opened = c.args.emitter.now.opened; parts = c.args.emitter.now.parts; needs = c.args.emitter.now.needs }) c.emit_node.new.emitter c.args.slot c.args.scope.may_keep (out-Info c.args.info.now).min_size
          (node_pattern c.args.context.now c.args.info.now false c.args.scope c.args.emitter.now.opened.items) (node_pattern c.args.context.now c.args.info.now true c.args.scope c.args.emitter.now.opened.items)
          (λ tree_context. IsExpandedPart tree_context c.args.scope.may_keep c.args.scope.may_be_absent false (info_of c.args.info.now)) (λ tree_context. IsExpandedPart tree_context c.args.scope.may_keep c.args.scope.may_be_absent true (info_of c.args.info.now))
          (behind_always call c.args.info.now c.if-info.true) c.in_ok-flush_and_push.ensures.draft refl refl c.in_ok-flush_and_push.ensures.long
          (λ tree_context s h. in_front tree_context c.args.scope.may_keep c.args.scope.may_be_absent true (info_of c.args.info.now) h) c.emit_node.ensures.leads;
      work = c.emit_node.ensures.work;
      full =
          full_behind (layout_of c.args.context.now) c.emit_node.result c.args.emitter.now.body c.flush_and_push.new.self (out-Info c.args.info.now).min_size (behind_always call c.args.info.now c.if-info.true)
          c.in_ok-flush_and_push.ensures.cap c.in_ok-flush_and_push.ensures.long c.emit_node.ensures.full;
      refused =
          reason_weaker c.emit_node.result c.args.context.now.unicode (infos_of c.args.context.now) (λ tree_context. IsExpandedPart tree_context c.args.scope.may_keep c.args.scope.may_be_absent false (info_of c.args.info.now)) (λ tree_context. IsExpandedPart tree_context c.args.scope.may_keep c.args.scope.may_be_absent true (info_of c.args.info.now))
          (λ tree_context s h. in_front tree_context c.args.scope.may_keep c.args.scope.may_be_absent true (info_of c.args.info.now) h) c.emit_node.ensures.refused;
    }

pub returns-in_err-flush_and_push : goal.returns-in_err-flush_and_push
returns-in_err-flush_and_push c =
    let call = info_call (infos_of c.args.context.now) c.args.scope.calls_left c.args.emitter.now.opened.items in
    let p = node_pattern c.args.context.now c.args.info.now false c.args.scope c.args.emitter.now.opened.items in
    let e = c.in_err-flush_and_push in
    emits_want c.from_residual.result e.field-0.0 c.from_residual.ensures.1 e.ensures.cap
    (λ too. let lt = e.ensures.full too in omega (arith, lt, ap (room_of c.args.context.now) (behind_always call c.args.info.now c.if-info.true), room_behind (layout_of c.args.context.now) (out-Info c.args.info.now).min_size p))
    e.ensures.refused

pub returns-in-Alt : goal.returns-in-Alt
returns-in-Alt c = record {
  cap = refl;
  leads =
      let call = info_call (infos_of c.args.context.now) c.args.scope.calls_left c.args.emitter.now.opened.items in
      let b = c.deref.result in
      let p = branches_pattern c.args.context.now b.now true c.args.scope c.args.emitter.now.opened.items in
      leads_one_step c.args.context.now c.args.emitter.now c.args.slot c.args.scope.may_keep p (node_pattern c.args.context.now c.args.info.now true c.args.scope c.args.emitter.now.opened.items) (task.Branches b true c.args.scope)
      (λ tree_context. IsExpandedPart tree_context c.args.scope.may_keep c.args.scope.may_be_absent true (info_of c.args.info.now)) c.leads_to.result
      (behind_alt call c.args.info.now c.in-Alt.field-0 c.if-info.false c.in-Alt.is
      ∙ ap (λ xs. alt_all (map (λ x. (part c.args.context.now c.args.scope c.args.emitter.now.opened.items x).behind) xs)) (sym c.deref.ensures.value))
      c.leads_to.ensures refl (λ all h. h) refl (omega arith)
      (λ tree_context s h. subst (AreExpandedParts tree_context c.args.scope.may_keep c.args.scope.may_be_absent true) (sym c.deref.ensures.value) (kids_behind tree_context c.args.scope.may_keep c.args.scope.may_be_absent c.args.info.now c.in-Alt.field-0 c.if-info.false c.in-Alt.is h));
  work =
      let this = ap (λ (s : Step). tasks_work (infos_of c.args.context.now) (listed s.tasks)) c.leads_to.ensures in
      omega (arith, this, row_less (infos_of c.args.context.now) c.args.scope c.args.info.now c.deref.result.now c.deref.ensures.value);
  full = tt;
  refused = tt;
}

pub returns-in_default : goal.returns-in_default
returns-in_default c = record {
  cap = refl;
  leads = tt;
  full = λ h. absurd (let never : false ≡ true = h in cc);
  refused = λ tree_context s h. has_branches tree_context c.args.scope.may_keep c.args.scope.may_be_absent c.args.info.now c.if-info.false c.in_default.not-Alt h;
  work = tt;
}
