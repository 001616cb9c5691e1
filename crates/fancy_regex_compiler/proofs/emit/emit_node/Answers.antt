use Rattle.std.proofs.Common.{rules, ◌≡◌, ℕ, ◌+◌, true, false, List, map, length, refl, sym, ap, ◌∙◌, subst, arith}
use Rattle.std.proofs.lemmas.List.{length-map}
use Rattle.fancy_regex_tree.specs.Tree.{tree_of}
use Rattle.fancy_regex_tree.specs.declared.expr.Absent.TheVariants as absents
use Rattle.fancy_regex_tree.specs.declared.expr.Expr.{Expr}
use Rattle.fancy_regex_desugar.specs.CorePatterns.{nothing, group, atomic, conditional, absent, CorePattern}
use Rattle.fancy_regex_desugar.specs.Unfolded.{repeated, look}
use Rattle.fancy_regex_info.specs.Infos.{properties_in, info_of}
use Rattle.fancy_regex_info.specs.declared.info.Info.{Info}
use Rattle.fancy_regex_info.specs.declared.info.Info.TheViews.{out-Info}
use Rattle.fancy_regex_compiler.specs.Known.{info_call}
use Rattle.fancy_regex_compiler.specs.Refusals.{TreeContext, IsReasonWhere, IsExpandedPart, AreExpandedParts, IsExpandedBody, IsExpandedRepeat, IsExpandedAbsent, IsExpandedConditional, IsExpandedTarget, looks_behind}
use Rattle.fancy_regex_compiler.specs.Tasks.{room_of, IsLetThrough, node_pattern, body_pattern, row_pattern, branches_pattern, listed, tasks_work, info_work, call_work, Begins}
use Rattle.fancy_regex_compiler.specs.Writing.{layout_of, Wrote, infos_of, info_at, part}
use Rattle.fancy_regex_compiler.specs.declared.emitter.CompileContext.{CompileContext}
use Rattle.fancy_regex_compiler.specs.declared.emitter.Scope.{Scope}
use Rattle.fancy_regex_compiler.specs.declared.task.Step.{Step}
use Rattle.fancy_regex_compiler.specs.declared.task.Task.TheVariants as task
use Rattle.fancy_regex_compiler.proofs.KindLemmas.{NoParts}
use Rattle.fancy_regex_compiler.proofs.NeedLemmas.{none_noted, same_noted}
use Rattle.fancy_regex_compiler.proofs.NodeLemmas.{info_known, front_leaf, front_empty, front_define, front_concat, front_alt, front_group, front_look, front_repeat, front_atomic, front_conditional, front_call, front_absent}
use Rattle.fancy_regex_compiler.proofs.OutcomeLemmas.{never_full, emits_error, emits_as, emits_begun}
use Rattle.fancy_regex_compiler.proofs.RefusalLemmas.{for_want, absent_stops, kid_group, body_atomic, kid_absent, body_look, kid_repeat, kids_conditional, kids_concat, kids_alt, target_stands, leaf_reason, lacks_group, lacks_atomic, lacks_look, lacks_repeat, lacks_absent, lacks_condition, lacks_yes, lacks_no}
use Rattle.fancy_regex_compiler.proofs.RoomLemmas.{took, room_group, room_atomic, room_conditional, room_look}
use Rattle.fancy_regex_compiler.proofs.RowLemmas.{wrote_nothing}
use Rattle.fancy_regex_compiler.proofs.StepLemmas.{leads_nothing, leads_one_step}
use Rattle.fancy_regex_compiler.proofs.TreeLemmas.{tree_call, tree_empty}
use Rattle.fancy_regex_compiler.proofs.WorkLemmas.{row_less, child_less, three_less, call_less, least_work}
use Rattle.fancy_regex_compiler.proofs.emit.emit_node.Goals as goal

-- what a call is where these targets are open
abbrev calls_of : CompileContext → Scope → List ℕ → ℕ → CorePattern
calls_of context scope opened = info_call (infos_of context) scope.calls_left opened

pub returns-in_ok-child-in-Group : goal.returns-in_ok-child-in-Group
returns-in_ok-child-in-Group c =
    let call = calls_of c.args.context.now c.args.scope c.args.emitter.now.opened.items in
    let q = node_pattern c.args.context.now c.args.info.now false c.args.scope c.args.emitter.now.opened.items in
    let S = λ (tree_context : TreeContext). IsExpandedPart tree_context c.args.scope.may_keep c.args.scope.may_be_absent false (info_of c.args.info.now) in
    let w = info_work (infos_of c.args.context.now) c.args.scope c.args.info.now in
    let child = c.in_ok-child-in-Group.child.now in
    let a = node_pattern c.args.context.now child false c.args.scope c.args.emitter.now.opened.items in
    let number : (out-Info c.args.info.now).start_group ≡ c.start_group.result = sym (ap (λ x. (properties_in x).start) (info_known c.args.info.now)) ∙ sym c.start_group.ensures in
    let is : q ≡ group c.start_group.result a =
    front_group call c.args.info.now c.in-Group.field-0 child c.in-Group.is c.in_ok-child-in-Group.ensures.value ∙ ap (λ n. group n a) number in
    let rooms = ap (room_of c.args.context.now) is in
    emits_begun c.args.context.now q S w c.emit_group.ensures is
    (λ tree_context s h. kid_group tree_context c.args.scope.may_keep c.args.scope.may_be_absent c.args.info.now child c.in-Group.field-0 c.in-Group.is c.in_ok-child-in-Group.ensures.value h)
    (omega (arith, rooms, room_group (layout_of c.args.context.now) c.start_group.result a))
    (omega (arith, child_less (infos_of c.args.context.now) c.args.scope c.args.info.now 0 child c.in_ok-child-in-Group.ensures.value))

pub returns-in_ok-child-in-AtomicGroup : goal.returns-in_ok-child-in-AtomicGroup
returns-in_ok-child-in-AtomicGroup c =
    let call = calls_of c.args.context.now c.args.scope c.args.emitter.now.opened.items in
    let q = node_pattern c.args.context.now c.args.info.now false c.args.scope c.args.emitter.now.opened.items in
    let S = λ (tree_context : TreeContext). IsExpandedPart tree_context c.args.scope.may_keep c.args.scope.may_be_absent false (info_of c.args.info.now) in
    let w = info_work (infos_of c.args.context.now) c.args.scope c.args.info.now in
    let is_body : c.deref-in-AtomicGroup.result.now ≡ c.in-AtomicGroup.body.value = search rules in
    let child = c.in_ok-child-in-AtomicGroup.child.now in
    let old = c.args.emitter.now in
    let body = λ (context : CompileContext) (e : Expr). body_pattern context false e child c.args.scope old.opened.items in
    let is : q ≡ atomic (body c.args.context.now c.in-AtomicGroup.body.value) = front_atomic call c.args.info.now c.in-AtomicGroup.body child c.in-AtomicGroup.is c.in_ok-child-in-AtomicGroup.ensures.value in
    let rooms = ap (room_of c.args.context.now) is in
    let begun = subst (λ (e : Expr). Begins old c.emit_atomic.new.emitter c.args.slot c.emit_atomic.result c.args.scope.may_keep (λ (context : CompileContext). atomic (body context e))
    (λ tree_context. IsExpandedBody tree_context c.args.scope.may_keep c.args.scope.may_be_absent false (tree_of e) (info_of child))
    (λ groups. 3 + info_work groups c.args.scope child)) is_body c.emit_atomic.ensures in
    emits_begun c.args.context.now q S w begun is
    (λ tree_context s h. body_atomic tree_context c.args.scope.may_keep c.args.scope.may_be_absent c.args.info.now child c.in-AtomicGroup.body c.in-AtomicGroup.is c.in_ok-child-in-AtomicGroup.ensures.value h)
    (omega (arith, rooms, room_atomic (layout_of c.args.context.now) (body c.args.context.now c.in-AtomicGroup.body.value)))
    (omega (arith, child_less (infos_of c.args.context.now) c.args.scope c.args.info.now 0 child c.in_ok-child-in-AtomicGroup.ensures.value))

pub returns-in_ok-child-in-LookAround : goal.returns-in_ok-child-in-LookAround
returns-in_ok-child-in-LookAround c =
    let call = calls_of c.args.context.now c.args.scope c.args.emitter.now.opened.items in
    let q = node_pattern c.args.context.now c.args.info.now false c.args.scope c.args.emitter.now.opened.items in
    let S = λ (tree_context : TreeContext). IsExpandedPart tree_context c.args.scope.may_keep c.args.scope.may_be_absent false (info_of c.args.info.now) in
    let w = info_work (infos_of c.args.context.now) c.args.scope c.args.info.now in
    let is_body : c.deref-in-LookAround.result.now ≡ c.in-LookAround.body.value = search rules in
    let child = c.in_ok-child-in-LookAround.child.now in
    let old = c.args.emitter.now in
    let how = c.in-LookAround.how in
    let at = λ (context : CompileContext). part context c.args.scope old.opened.items child in
    let t = tree_of c.in-LookAround.body.value in
    let is : q ≡ look t how (at c.args.context.now) = front_look call c.args.info.now c.in-LookAround.body how child c.in-LookAround.is c.in_ok-child-in-LookAround.ensures.value in
    let rooms = ap (room_of c.args.context.now) is in
    let begun = subst (λ (e : Expr). Begins old c.emit_look_around.new.emitter c.args.slot c.emit_look_around.result c.args.scope.may_keep (λ (context : CompileContext). look (tree_of e) how (at context))
    (λ tree_context. IsExpandedBody tree_context false c.args.scope.may_be_absent (looks_behind how) (tree_of e) (info_of child))
    (λ groups. 3 + info_work groups c.args.scope child)) is_body c.emit_look_around.ensures in
    emits_begun c.args.context.now q S w begun is
    (λ tree_context s h. body_look tree_context c.args.scope.may_keep c.args.scope.may_be_absent (infos_of c.args.context.now) c.args.info.now child c.in-LookAround.body how c.in-LookAround.is c.in_ok-child-in-LookAround.ensures.value s h)
    (omega (arith, rooms, room_look (layout_of c.args.context.now) t how (at c.args.context.now)))
    (omega (arith, child_less (infos_of c.args.context.now) c.args.scope c.args.info.now 0 child c.in_ok-child-in-LookAround.ensures.value))

pub returns-in_ok-child-in-Repeater : goal.returns-in_ok-child-in-Repeater
returns-in_ok-child-in-Repeater c =
    let call = calls_of c.args.context.now c.args.scope c.args.emitter.now.opened.items in
    let q = node_pattern c.args.context.now c.args.info.now false c.args.scope c.args.emitter.now.opened.items in
    let S = λ (tree_context : TreeContext). IsExpandedPart tree_context c.args.scope.may_keep c.args.scope.may_be_absent false (info_of c.args.info.now) in
    let w = info_work (infos_of c.args.context.now) c.args.scope c.args.info.now in
    let repeats : c.in-Absent.absent ≡ absents.Repeater c.in-Repeater.field-0 = c.in-Repeater.is in
    let child = c.in_ok-child-in-Repeater.child.now in
    let groups = infos_of c.args.context.now in
    emits_as c.args.scope.may_keep (absent (node_pattern c.args.context.now child false c.args.scope c.args.emitter.now.opened.items)) q
    (λ tree_context. IsExpandedAbsent tree_context c.args.scope.may_be_absent (info_of child)) S (2 + info_work groups c.args.scope child) w
    (c.emit_absent.ensures c.args.context.now)
    (front_absent call c.args.info.now c.in-Absent.absent c.in-Repeater.field-0 child c.in-Absent.is repeats c.in_ok-child-in-Repeater.ensures.value)
    (λ tree_context s h. kid_absent tree_context c.args.scope.may_keep c.args.scope.may_be_absent groups c.args.info.now child c.in-Absent.absent c.in-Repeater.field-0 c.in-Absent.is repeats c.in_ok-child-in-Repeater.ensures.value s h)
    (omega (arith, child_less groups c.args.scope c.args.info.now 0 child c.in_ok-child-in-Repeater.ensures.value))

pub returns-in_ok-child_at-in-Conditional-2 : goal.returns-in_ok-child_at-in-Conditional-2
returns-in_ok-child_at-in-Conditional-2 c =
    let call = calls_of c.args.context.now c.args.scope c.args.emitter.now.opened.items in
    let q = node_pattern c.args.context.now c.args.info.now false c.args.scope c.args.emitter.now.opened.items in
    let S = λ (tree_context : TreeContext). IsExpandedPart tree_context c.args.scope.may_keep c.args.scope.may_be_absent false (info_of c.args.info.now) in
    let w = info_work (infos_of c.args.context.now) c.args.scope c.args.info.now in
    let is_body : c.deref-in-Conditional.result.now ≡ c.in-Conditional.condition.value = search rules in
    let old = c.args.emitter.now in
    let tested = c.in_ok-tested-in-Conditional.tested.now in
    let yes = c.in_ok-child_at-in-Conditional.field-0.now in
    let no = c.in_ok-child_at-in-Conditional-2.field-0.now in
    let at = λ (context : CompileContext) (i : Info). node_pattern context i false c.args.scope old.opened.items in
    let body = λ (context : CompileContext) (e : Expr). body_pattern context false e tested c.args.scope old.opened.items in
    let is : q ≡ conditional (body c.args.context.now c.in-Conditional.condition.value) (at c.args.context.now yes) (at c.args.context.now no) =
    front_conditional call c.args.info.now c.in-Conditional.condition c.in-Conditional.true_branch c.in-Conditional.false_branch tested yes no c.in-Conditional.is c.in_ok-tested-in-Conditional.ensures.value c.in_ok-child_at-in-Conditional.ensures.value c.in_ok-child_at-in-Conditional-2.ensures.value in
    let rooms = ap (room_of c.args.context.now) is in
    let begun = subst (λ (e : Expr). Begins old c.emit_conditional.new.emitter c.args.slot c.emit_conditional.result c.args.scope.may_keep
    (λ (context : CompileContext). conditional (body context e) (at context yes) (at context no))
    (λ tree_context. IsExpandedConditional tree_context c.args.scope.may_keep c.args.scope.may_be_absent (tree_of e) (info_of tested) (info_of yes) (info_of no))
    (λ groups. 10 + (info_work groups c.args.scope tested + (info_work groups c.args.scope yes + info_work groups c.args.scope no)))) is_body c.emit_conditional.ensures in
    emits_begun c.args.context.now q S w begun is
    (λ tree_context s h. kids_conditional tree_context c.args.scope.may_keep c.args.scope.may_be_absent c.args.info.now tested yes no c.in-Conditional.condition c.in-Conditional.true_branch c.in-Conditional.false_branch c.in-Conditional.is c.in_ok-tested-in-Conditional.ensures.value c.in_ok-child_at-in-Conditional.ensures.value c.in_ok-child_at-in-Conditional-2.ensures.value h)
    (omega (arith, rooms, room_conditional (layout_of c.args.context.now) (body c.args.context.now c.in-Conditional.condition.value) (at c.args.context.now yes) (at c.args.context.now no)))
    (omega (arith, three_less (infos_of c.args.context.now) c.args.scope c.args.info.now tested yes no c.in_ok-tested-in-Conditional.ensures.value c.in_ok-child_at-in-Conditional.ensures.value c.in_ok-child_at-in-Conditional-2.ensures.value))

pub returns-in_ok-child-in-Repeat : goal.returns-in_ok-child-in-Repeat
returns-in_ok-child-in-Repeat c =
    let call = calls_of c.args.context.now c.args.scope c.args.emitter.now.opened.items in
    let q = node_pattern c.args.context.now c.args.info.now false c.args.scope c.args.emitter.now.opened.items in
    let S = λ (tree_context : TreeContext). IsExpandedPart tree_context c.args.scope.may_keep c.args.scope.may_be_absent false (info_of c.args.info.now) in
    let w = info_work (infos_of c.args.context.now) c.args.scope c.args.info.now in
    let v = c.in-Repeat in
    let child = c.in_ok-child-in-Repeat.child.now in
    let groups = infos_of c.args.context.now in
    emits_as c.args.scope.may_keep (repeated (node_pattern c.args.context.now child false c.args.scope c.args.emitter.now.opened.items) v.lo v.hi v.greedy) q
    (λ tree_context. IsExpandedRepeat tree_context c.args.scope.may_keep c.args.scope.may_be_absent v.lo v.hi (info_of child)) S (2 + info_work groups c.args.scope child) w
    (c.emit_repeat.ensures c.args.context.now)
    (front_repeat call c.args.info.now v.child v.lo v.hi v.greedy child v.is c.in_ok-child-in-Repeat.ensures.value)
    (λ tree_context s h. kid_repeat tree_context c.args.scope.may_keep c.args.scope.may_be_absent groups c.args.info.now child v.child v.lo v.hi v.greedy v.is c.in_ok-child-in-Repeat.ensures.value s h)
    (omega (arith, child_less groups c.args.scope c.args.info.now 0 child c.in_ok-child-in-Repeat.ensures.value))

pub returns-in-SubroutineCall : goal.returns-in-SubroutineCall
returns-in-SubroutineCall c =
    let call = calls_of c.args.context.now c.args.scope c.args.emitter.now.opened.items in
    let q = node_pattern c.args.context.now c.args.info.now false c.args.scope c.args.emitter.now.opened.items in
    let S = λ (tree_context : TreeContext). IsExpandedPart tree_context c.args.scope.may_keep c.args.scope.may_be_absent false (info_of c.args.info.now) in
    let w = info_work (infos_of c.args.context.now) c.args.scope c.args.info.now in
    let groups = infos_of c.args.context.now in
    let k = c.in-SubroutineCall.target in
    let calls = ap tree_of c.in-SubroutineCall.is ∙ tree_call k in
    emits_as c.args.scope.may_keep (call k) q (λ tree_context. IsExpandedTarget tree_context c.args.scope.may_keep c.args.scope.may_be_absent groups k) S
    (1 + call_work groups c.args.scope.calls_left k) w c.emit_call.ensures (front_call call c.args.info.now k calls)
    (λ tree_context s h. target_stands tree_context c.args.scope.may_keep c.args.scope.may_be_absent groups c.args.info.now k calls s h)
    (omega (arith, call_less groups c.args.scope c.args.info.now k calls))

pub returns-in_err-emit_leaf-in_default : goal.returns-in_err-emit_leaf-in_default
returns-in_err-emit_leaf-in_default c =
    let call = calls_of c.args.context.now c.args.scope c.args.emitter.now.opened.items in
    let u = c.args.context.now.unicode in
    let gs = infos_of c.args.context.now in
    let i = c.args.info.now in
    let count = length c.args.context.now.groups.now.items in
    let e = c.in_err-emit_leaf-in_default in
    let r = c.from_residual-in_err-emit_leaf-in_default in
    let other : NoParts (out-Info i).expr.now = record {
      empty = c.in_default.not-Empty;
      concat = c.in_default.not-Concat;
      alt = c.in_default.not-Alt;
      group = c.in_default.not-Group;
      look_around = c.in_default.not-LookAround;
      repeat = c.in_default.not-Repeat;
      atomic = c.in_default.not-AtomicGroup;
      conditional = c.in_default.not-Conditional;
      call = c.in_default.not-SubroutineCall;
      absent = c.in_default.not-Absent;
      define = c.in_default.not-DefineGroup;
    } in
    let us = map (part c.args.context.now c.args.scope c.args.emitter.now.opened.items) (out-Info i).children.items in
    let writes = e.ensures.writes call (out-Info i).start_group us in
    emits_error r.result e.field-0.0 r.ensures.1 writes.cap
    (λ too. let lt = writes.full too in omega (arith, lt, ap (room_of c.args.context.now) (front_leaf call i)))
    (λ tree_context s h. leaf_reason tree_context c.args.scope.may_keep c.args.scope.may_be_absent u gs i count e.field-0.0 (sym (length-map c.args.context.now.groups.now.items info_at)) other s h e.ensures.refused)

pub returns-in_default-absent : goal.returns-in_default-absent
returns-in_default-absent c =
    let u = c.args.context.now.unicode in
    let gs = infos_of c.args.context.now in
    let i = c.args.info.now in
    let keeps = c.args.scope.may_keep in
    let absents = c.args.scope.may_be_absent in
    record {
      cap = refl;
      leads = tt;
      work = tt;
      full = λ h. absurd (let never : true ≡ false = sym h ∙ c.not_supported.ensures.full in cc);
      refused = for_want (IsReasonWhere u gs (λ tree_context. IsExpandedPart tree_context keeps absents false (info_of i))) c.not_supported.result c.not_supported.ensures.refused
          (λ feature tree_context s h. absent_stops tree_context keeps absents gs i c.in-Absent.absent c.in-Absent.is c.in_default-absent.not-Repeater s h)
          (λ tree_context s h. tt);
    }

pub returns-in_err-child-in-Group : goal.returns-in_err-child-in-Group
returns-in_err-child-in-Group c =
    let i = c.args.info.now in
    let keeps = c.args.scope.may_keep in
    let absents = c.args.scope.may_be_absent in
    let r = c.from_residual in
    let e = c.in_err-child-in-Group in
    emits_error r.result e.field-0.0 r.ensures.1 refl (never_full e.field-0.0 e.ensures.full)
    (λ tree_context s h. absurd (lacks_group tree_context keeps absents i c.in-Group.field-0 c.in-Group.is h e.ensures.refused))

pub returns-in_err-child-in-AtomicGroup : goal.returns-in_err-child-in-AtomicGroup
returns-in_err-child-in-AtomicGroup c =
    let i = c.args.info.now in
    let keeps = c.args.scope.may_keep in
    let absents = c.args.scope.may_be_absent in
    let r = c.from_residual-in_err-child-in-AtomicGroup in
    let e = c.in_err-child-in-AtomicGroup in
    emits_error r.result e.field-0.0 r.ensures.1 refl (never_full e.field-0.0 e.ensures.full)
    (λ tree_context s h. absurd (lacks_atomic tree_context keeps absents i c.in-AtomicGroup.body c.in-AtomicGroup.is h e.ensures.refused))

pub returns-in_err-child-in-LookAround : goal.returns-in_err-child-in-LookAround
returns-in_err-child-in-LookAround c =
    let i = c.args.info.now in
    let keeps = c.args.scope.may_keep in
    let absents = c.args.scope.may_be_absent in
    let r = c.from_residual-in_err-child-in-LookAround in
    let e = c.in_err-child-in-LookAround in
    emits_error r.result e.field-0.0 r.ensures.1 refl (never_full e.field-0.0 e.ensures.full)
    (λ tree_context s h. absurd (lacks_look tree_context keeps absents i c.in-LookAround.body c.in-LookAround.how c.in-LookAround.is h e.ensures.refused))

pub returns-in_err-child-in-Repeat : goal.returns-in_err-child-in-Repeat
returns-in_err-child-in-Repeat c =
    let i = c.args.info.now in
    let keeps = c.args.scope.may_keep in
    let absents = c.args.scope.may_be_absent in
    let r = c.from_residual-in_err-child-in-Repeat in
    let e = c.in_err-child-in-Repeat in
    emits_error r.result e.field-0.0 r.ensures.1 refl (never_full e.field-0.0 e.ensures.full)
    (λ tree_context s h. absurd (lacks_repeat tree_context keeps absents i c.in-Repeat.child c.in-Repeat.lo c.in-Repeat.hi c.in-Repeat.greedy c.in-Repeat.is h e.ensures.refused))

pub returns-in_err-child-in-Repeater : goal.returns-in_err-child-in-Repeater
returns-in_err-child-in-Repeater c =
    let i = c.args.info.now in
    let keeps = c.args.scope.may_keep in
    let absents = c.args.scope.may_be_absent in
    let r = c.from_residual-in_err-child-in-Repeater in
    let e = c.in_err-child-in-Repeater in
    emits_error r.result e.field-0.0 r.ensures.1 refl (never_full e.field-0.0 e.ensures.full)
    (λ tree_context s h. absurd (lacks_absent tree_context keeps absents i c.in-Absent.absent c.in-Repeater.field-0 c.in-Absent.is c.in-Repeater.is h e.ensures.refused))

pub returns-in_err-tested-in-Conditional : goal.returns-in_err-tested-in-Conditional
returns-in_err-tested-in-Conditional c =
    let i = c.args.info.now in
    let keeps = c.args.scope.may_keep in
    let absents = c.args.scope.may_be_absent in
    let r = c.from_residual-in_err-tested-in-Conditional in
    let e = c.in_err-tested-in-Conditional in
    emits_error r.result e.field-0.0 r.ensures.1 refl (never_full e.field-0.0 e.ensures.full)
    (λ tree_context s h. absurd (lacks_condition tree_context keeps absents i c.in-Conditional.condition c.in-Conditional.true_branch c.in-Conditional.false_branch c.in-Conditional.is h e.ensures.refused))

pub returns-in_err-child_at-in-Conditional : goal.returns-in_err-child_at-in-Conditional
returns-in_err-child_at-in-Conditional c =
    let i = c.args.info.now in
    let keeps = c.args.scope.may_keep in
    let absents = c.args.scope.may_be_absent in
    let r = c.from_residual-in_err-child_at-in-Conditional in
    let e = c.in_err-child_at-in-Conditional in
    emits_error r.result e.field-0.0 r.ensures.1 refl (never_full e.field-0.0 e.ensures.full)
    (λ tree_context s h. absurd (lacks_yes tree_context keeps absents i c.in-Conditional.condition c.in-Conditional.true_branch c.in-Conditional.false_branch c.in-Conditional.is h e.ensures.refused))

pub returns-in_err-child_at-in-Conditional-2 : goal.returns-in_err-child_at-in-Conditional-2
returns-in_err-child_at-in-Conditional-2 c =
    let i = c.args.info.now in
    let keeps = c.args.scope.may_keep in
    let absents = c.args.scope.may_be_absent in
    let r = c.from_residual-in_err-child_at-in-Conditional-2 in
    let e = c.in_err-child_at-in-Conditional-2 in
    emits_error r.result e.field-0.0 r.ensures.1 refl (never_full e.field-0.0 e.ensures.full)
    (λ tree_context s h. absurd (lacks_no tree_context keeps absents i c.in-Conditional.condition c.in-Conditional.true_branch c.in-Conditional.false_branch c.in-Conditional.is h e.ensures.refused))

pub returns-in_ok-emit_leaf-in_default : goal.returns-in_ok-emit_leaf-in_default
returns-in_ok-emit_leaf-in_default c =
    let call = calls_of c.args.context.now c.args.scope c.args.emitter.now.opened.items in
    let i = c.args.info.now in
    let q = (node_pattern c.args.context.now c.args.info.now false c.args.scope c.args.emitter.now.opened.items) in
    let us = map (part c.args.context.now c.args.scope c.args.emitter.now.opened.items) (out-Info i).children.items in
    let e = c.in_ok-emit_leaf-in_default.ensures in
    let writes = e.writes call (out-Info i).start_group us in
    let wrote = subst (λ p. Wrote (layout_of c.args.context.now) c.args.context.now.unicode c.args.context.now.whole c.args.emitter.now c.emit_leaf.new.emitter c.args.slot c.args.slot p) (sym (front_leaf call i))
    (writes.wrote c.args.slot) in
    record {
      cap = writes.cap;
      leads =
          leads_nothing c.args.context.now c.args.emitter.now c.emit_leaf.new.emitter c.args.slot c.args.scope.may_keep q (λ tree_context. IsExpandedPart tree_context c.args.scope.may_keep c.args.scope.may_be_absent false (info_of c.args.info.now)) c.leads_to-in_default.result
          c.leads_to-in_default.ensures wrote (took wrote)
          (λ all among. subst (λ p. IsLetThrough c.args.context.now c.args.scope.may_keep p all) (sym (front_leaf call i)) (e.allowed all call (out-Info i).start_group us))
          (same_noted (infos_of c.args.context.now) c.args.emitter.now.needs.list.items c.emit_leaf.new.emitter.needs.list.items (λ tree_context. IsExpandedPart tree_context c.args.scope.may_keep c.args.scope.may_be_absent false (info_of c.args.info.now)) writes.needs);
      work = let this = ap (λ (s : Step). tasks_work (infos_of c.args.context.now) (listed s.tasks)) c.leads_to-in_default.ensures in
          omega (arith, this, least_work (infos_of c.args.context.now) c.args.scope c.args.info.now);
      full = tt;
      refused = tt;
    }

pub returns-in-Empty : goal.returns-in-Empty
returns-in-Empty c =
    let call = calls_of c.args.context.now c.args.scope c.args.emitter.now.opened.items in
    let q = (node_pattern c.args.context.now c.args.info.now false c.args.scope c.args.emitter.now.opened.items) in
    let is : q ≡ nothing = front_empty call c.args.info.now (ap tree_of c.in-Empty.is ∙ tree_empty) in
    record {
      cap = refl;
      leads =
          leads_nothing c.args.context.now c.args.emitter.now c.args.emitter.now c.args.slot c.args.scope.may_keep q (λ tree_context. IsExpandedPart tree_context c.args.scope.may_keep c.args.scope.may_be_absent false (info_of c.args.info.now)) c.leads_to.result c.leads_to.ensures
          (wrote_nothing (layout_of c.args.context.now) c.args.context.now.unicode c.args.context.now.whole c.args.emitter.now c.args.slot q is) (omega arith) (λ all among. subst (λ p. IsLetThrough c.args.context.now c.args.scope.may_keep p all) (sym is) tt)
          (none_noted (infos_of c.args.context.now) c.args.emitter.now.needs.list.items (λ tree_context. IsExpandedPart tree_context c.args.scope.may_keep c.args.scope.may_be_absent false (info_of c.args.info.now)));
      work =
          let this = ap (λ (s : Step). tasks_work (infos_of c.args.context.now) (listed s.tasks)) c.leads_to.ensures in
          omega (arith, this, least_work (infos_of c.args.context.now) c.args.scope c.args.info.now);
      full = tt;
      refused = tt;
    }

pub returns-in-DefineGroup : goal.returns-in-DefineGroup
returns-in-DefineGroup c =
    let call = calls_of c.args.context.now c.args.scope c.args.emitter.now.opened.items in
    let q = (node_pattern c.args.context.now c.args.info.now false c.args.scope c.args.emitter.now.opened.items) in
    let is : q ≡ nothing = front_define call c.args.info.now c.in-DefineGroup.definitions c.in-DefineGroup.is in
    record {
      cap = refl;
      leads =
          leads_nothing c.args.context.now c.args.emitter.now c.args.emitter.now c.args.slot c.args.scope.may_keep q (λ tree_context. IsExpandedPart tree_context c.args.scope.may_keep c.args.scope.may_be_absent false (info_of c.args.info.now)) c.leads_to-in-DefineGroup.result c.leads_to-in-DefineGroup.ensures
          (wrote_nothing (layout_of c.args.context.now) c.args.context.now.unicode c.args.context.now.whole c.args.emitter.now c.args.slot q is) (omega arith) (λ all among. subst (λ p. IsLetThrough c.args.context.now c.args.scope.may_keep p all) (sym is) tt)
          (none_noted (infos_of c.args.context.now) c.args.emitter.now.needs.list.items (λ tree_context. IsExpandedPart tree_context c.args.scope.may_keep c.args.scope.may_be_absent false (info_of c.args.info.now)));
      work =
          let this = ap (λ (s : Step). tasks_work (infos_of c.args.context.now) (listed s.tasks)) c.leads_to-in-DefineGroup.ensures in
          omega (arith, this, least_work (infos_of c.args.context.now) c.args.scope c.args.info.now);
      full = tt;
      refused = tt;
    }

pub returns-in-Concat : goal.returns-in-Concat
returns-in-Concat c =
    let call = calls_of c.args.context.now c.args.scope c.args.emitter.now.opened.items in
    let b = c.deref.result in
    record {
      cap = refl;
      leads =
          leads_one_step c.args.context.now c.args.emitter.now c.args.slot c.args.scope.may_keep (row_pattern c.args.context.now b.now c.args.scope c.args.emitter.now.opened.items) (node_pattern c.args.context.now c.args.info.now false c.args.scope c.args.emitter.now.opened.items) (task.Row b c.args.scope) (λ tree_context. IsExpandedPart tree_context c.args.scope.may_keep c.args.scope.may_be_absent false (info_of c.args.info.now)) c.leads_to-in-Concat.result
          (front_concat call c.args.info.now c.in-Concat.field-0 c.in-Concat.is ∙ ap (λ xs. row_pattern c.args.context.now xs c.args.scope c.args.emitter.now.opened.items) (sym c.deref.ensures.value))
          c.leads_to-in-Concat.ensures refl (λ all h. h) refl (omega arith)
          (λ tree_context s h. subst (AreExpandedParts tree_context c.args.scope.may_keep c.args.scope.may_be_absent false) (sym c.deref.ensures.value) (kids_concat tree_context c.args.scope.may_keep c.args.scope.may_be_absent c.args.info.now c.in-Concat.field-0 c.in-Concat.is h));
      work =
          let this = ap (λ (s : Step). tasks_work (infos_of c.args.context.now) (listed s.tasks)) c.leads_to-in-Concat.ensures in
          omega (arith, this, row_less (infos_of c.args.context.now) c.args.scope c.args.info.now c.deref.result.now c.deref.ensures.value);
      full = tt;
      refused = tt;
    }

pub returns-in-Alt : goal.returns-in-Alt
returns-in-Alt c =
    let call = calls_of c.args.context.now c.args.scope c.args.emitter.now.opened.items in
    let b = c.deref-in-Alt.result in
    record {
      cap = refl;
      leads =
          leads_one_step c.args.context.now c.args.emitter.now c.args.slot c.args.scope.may_keep (branches_pattern c.args.context.now b.now false c.args.scope c.args.emitter.now.opened.items) (node_pattern c.args.context.now c.args.info.now false c.args.scope c.args.emitter.now.opened.items) (task.Branches b false c.args.scope) (λ tree_context. IsExpandedPart tree_context c.args.scope.may_keep c.args.scope.may_be_absent false (info_of c.args.info.now)) c.leads_to-in-Alt.result
          (front_alt call c.args.info.now c.in-Alt.field-0 c.in-Alt.is ∙ ap (λ xs. branches_pattern c.args.context.now xs false c.args.scope c.args.emitter.now.opened.items) (sym c.deref-in-Alt.ensures.value))
          c.leads_to-in-Alt.ensures refl (λ all h. h) refl (omega arith)
          (λ tree_context s h. subst (AreExpandedParts tree_context c.args.scope.may_keep c.args.scope.may_be_absent false) (sym c.deref-in-Alt.ensures.value) (kids_alt tree_context c.args.scope.may_keep c.args.scope.may_be_absent c.args.info.now c.in-Alt.field-0 c.in-Alt.is h));
      work =
          let this = ap (λ (s : Step). tasks_work (infos_of c.args.context.now) (listed s.tasks)) c.leads_to-in-Alt.ensures in
          omega (arith, this, row_less (infos_of c.args.context.now) c.args.scope c.args.info.now c.deref-in-Alt.result.now c.deref-in-Alt.ensures.value);
      full = tt;
      refused = tt;
    }
