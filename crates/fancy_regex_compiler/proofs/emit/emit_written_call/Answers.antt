use Rattle.std.proofs.Common.{◌≡◌, suc, ◌-◌, option_map, refl, sym, ap, ◌∙◌, subst, arith}
use Rattle.std.specs.Prelude.{vec_len}
use Rattle.std.proofs.lemmas.Option.{slice_get-map, slice_get_read}
use Rattle.fancy_regex_desugar.specs.CorePatterns.{fail, called}
use Rattle.fancy_regex_compiler.specs.Known.{info_call}
use Rattle.fancy_regex_compiler.specs.Refusals.{TreeContext, IsExpandedTarget}
use Rattle.fancy_regex_compiler.specs.Tasks.{LeadsTo, room_of, tasks_work, listed}
use Rattle.fancy_regex_compiler.specs.Writing.{layout_of, infos_of, info_at}
use Rattle.fancy_regex_compiler.specs.declared.emitter.Emitter.{Emitter}
use Rattle.fancy_regex_compiler.specs.declared.emitter.Scope.{Scope}
use Rattle.fancy_regex_compiler.specs.declared.task.Step.{Step}
use Rattle.fancy_regex_compiler.proofs.BranchSteps.{leads_call, leads_no_call}
use Rattle.fancy_regex_compiler.proofs.InlinedContext.{no_room}
use Rattle.fancy_regex_compiler.proofs.NeedLemmas.{none_noted}
use Rattle.fancy_regex_compiler.proofs.OutcomeLemmas.{emits_want}
use Rattle.fancy_regex_compiler.proofs.RoomLemmas.{room_fail, room_called}
use Rattle.fancy_regex_compiler.proofs.RowLemmas.{call_full, call_none}
use Rattle.fancy_regex_compiler.proofs.SilentLemmas.{wrote_silent, allowed_silent}
use Rattle.fancy_regex_compiler.proofs.StepLemmas.{leads_nothing, with_node}
use Rattle.fancy_regex_compiler.proofs.WorkLemmas.{body_less}
use Rattle.fancy_regex_compiler.proofs.emit.emit_written_call.Goals as goal
use Rattle.fancy_regex_compiler.proofs.emit.emit_written_call.Goals.{then-is_full-via-then-is_full, then-is_full-via-else-is_full+then-scope-eq0}

-- a call that writes nothing
pub returns-then-writes_nothing : goal.returns-then-writes_nothing
returns-then-writes_nothing c =
    let context = c.args.context.now in
    let groups = infos_of context in
    let old = c.args.emitter.now in
    let scope = c.args.scope in
    let k = c.args.target in
    let p = info_call groups scope.calls_left old.opened.items k in
    let h = c.writes_nothing.ensures in
    let yes = c.if-writes_nothing.true in
    let silent = no_room context scope.calls_left old.opened.items k (h.room yes) (h.left yes) (h.free yes) in
    let S = λ (tree_context : TreeContext). IsExpandedTarget tree_context scope.may_keep scope.may_be_absent groups k in
    record {
      cap = refl;
      leads =
          leads_nothing context old old c.args.slot scope.may_keep p S c.leads_to.result c.leads_to.ensures
          (wrote_silent (layout_of context) context.unicode context.whole old c.args.slot p silent) (omega arith)
          (λ all among. allowed_silent (layout_of context) all context.unicode scope.may_keep p silent) (none_noted groups old.needs.list.items S);
      work = let this = ap (λ (s : Step). tasks_work groups (listed s.tasks)) c.leads_to.ensures in omega (arith, this);
      full = tt;
      refused = tt;
    }

pub returns-in_err-check_text : goal.returns-in_err-check_text
returns-in_err-check_text c =
    let e = c.in_err-check_text in
    emits_want c.from_residual.result e.field-0.0 c.from_residual.ensures.1 refl e.ensures.full e.ensures.refused

pub returns-then-is_full : goal.returns-then-is_full
returns-then-is_full c =
    let context = c.args.context.now in
    let groups = infos_of context in
    let opened = c.args.emitter.now.opened.items in
    let m = c.args.scope.calls_left in
    let k = c.args.target in
    let fails : info_call groups m opened k ≡ called k fail = elim c.then-is_full.branch [
      | then-is_full-via-then-is_full w ↦ call_full groups m opened k (sym c.is_full.ensures ∙ w.if-is_full.true)
      | then-is_full-via-else-is_full+then-scope-eq0 w ↦ call_none groups m opened k w.if-scope-eq0.true
    ] in
    record {
      cap = c.in_ok-flush_and_push.ensures.cap;
      leads =
          leads_no_call context c.args.emitter.now c.flush_and_push.new.self c.args.slot c.args.scope.may_keep k _
          (λ tree_context. IsExpandedTarget tree_context c.args.scope.may_keep c.args.scope.may_be_absent groups k) c.leads_to-then-is_full.result c.requires.inlined fails c.leads_to-then-is_full.ensures
          c.in_ok-flush_and_push.ensures.draft c.in_ok-flush_and_push.ensures.long;
      work = let this = ap (λ (s : Step). tasks_work groups (listed s.tasks)) c.leads_to-then-is_full.ensures in omega (arith, this);
      full = tt;
      refused = tt;
    }

pub returns-in_err-flush_and_push : goal.returns-in_err-flush_and_push
returns-in_err-flush_and_push c =
    let groups = infos_of c.args.context.now in
    let opened = c.args.emitter.now.opened.items in
    let m = c.args.scope.calls_left in
    let k = c.args.target in
    let fails : info_call groups m opened k ≡ called k fail = elim c.then-is_full.branch [
      | then-is_full-via-then-is_full w ↦ call_full groups m opened k (sym c.is_full.ensures ∙ w.if-is_full.true)
      | then-is_full-via-else-is_full+then-scope-eq0 w ↦ call_none groups m opened k w.if-scope-eq0.true
    ] in
    let e = c.in_err-flush_and_push in
    emits_want c.from_residual-in_err-flush_and_push.result e.field-0.0 c.from_residual-in_err-flush_and_push.ensures.1 e.ensures.cap
    (λ too. let lt = e.ensures.full too in omega (
      arith,
      lt,
      ap (room_of c.args.context.now) fails,
      room_called (layout_of c.args.context.now) k fail c.requires.inlined,
      room_fail (layout_of c.args.context.now),
    )) e.ensures.refused

pub returns : goal.returns
returns c = record {
  cap = refl;
  leads =
      let context = c.args.context.now in
      let groups = context.groups.now.items in
      let k = c.args.target in
      let x = c.index-body.result.now in
      let old = c.args.emitter.now in
      let new : Emitter = record { body = old.body; classes = old.classes; opened = c.push.new.self; parts = old.parts; needs = old.needs } in
      let p = info_call (infos_of context) c.args.scope.calls_left old.opened.items k in
      let inner : Scope = record { calls_left = c.args.scope.calls_left - 1; may_keep = c.args.scope.may_keep; may_be_absent = c.args.scope.may_be_absent } in
      let some = c.if-scope-eq0.false in
      let more : c.args.scope.calls_left ≡ suc (c.args.scope.calls_left - 1) = omega (arith, some) in
      let at = slice_get-map info_at groups k ∙ ap (option_map info_at) (slice_get_read groups (vec_len context.groups.now) k x (omega (arith, context.groups.now.ok.0)) c.requires.there c.index-body.ensures) in
      let free = sym c.is_full.ensures ∙ c.if-is_full.false in
      subst (λ r. LeadsTo context p c.args.scope.may_keep
      (λ (tree_context : TreeContext). IsExpandedTarget tree_context c.args.scope.may_keep c.args.scope.may_be_absent (infos_of context) k) old new c.args.slot r)
      (sym (with_node _ _ _ _ _ c.leads_to-2.ensures c.node_task.ensures))
      (leads_call context old new c.args.slot (c.args.scope.calls_left - 1) k c.args.scope inner x c.requires.inlined more refl refl refl at free refl c.in_ok-push.ensures.ok refl);
  work =
      let context = c.args.context.now in
      let groups = context.groups.now.items in
      let k = c.args.target in
      let x = c.index-body.result.now in
      let inner : Scope = record { calls_left = c.args.scope.calls_left - 1; may_keep = c.args.scope.may_keep; may_be_absent = c.args.scope.may_be_absent } in
      let some = c.if-scope-eq0.false in
      let more : c.args.scope.calls_left ≡ suc (c.args.scope.calls_left - 1) = omega (arith, some) in
      let at = slice_get-map info_at groups k ∙ ap (option_map info_at) (slice_get_read groups (vec_len context.groups.now) k x (omega (arith, context.groups.now.ok.0)) c.requires.there c.index-body.ensures) in
      let this = ap (λ (s : Step). tasks_work (infos_of context) (listed s.tasks)) (with_node _ _ _ _ _ c.leads_to-2.ensures c.node_task.ensures) in
      omega (arith, this, body_less (infos_of context) c.args.scope inner k x.now more at);
  full = tt;
  refused = tt;
}
