use Rattle.std.proofs.Common.{◌≡◌, ◌+◌, true, false, Some, None, sym, ap, subst, refl, arith}
use Rattle.fancy_regex_desugar.specs.CorePatterns.{nothing, repeat}
use Rattle.fancy_regex_desugar.specs.Unfolded.{repeated}
use Rattle.fancy_regex_info.specs.Infos.{info_of}
use Rattle.fancy_regex_compiler.specs.Refusals.{IsExpandedRepeat}
use Rattle.fancy_regex_compiler.specs.Tasks.{room_of, IsLetThrough, node_pattern, tasks_work, info_work, listed}
use Rattle.fancy_regex_compiler.specs.Writing.{layout_of, infos_of}
use Rattle.fancy_regex_compiler.specs.declared.task.Step.{Step}
use Rattle.fancy_regex_compiler.proofs.NeedLemmas.{none_noted}
use Rattle.fancy_regex_compiler.proofs.OutcomeLemmas.{emits_begun}
use Rattle.fancy_regex_compiler.proofs.RoomLemmas.{room_repeat}
use Rattle.fancy_regex_compiler.proofs.RowLemmas.{repeated_never, repeated_endless, repeated_counted, wrote_nothing}
use Rattle.fancy_regex_compiler.proofs.StepLemmas.{leads_nothing}
use Rattle.fancy_regex_compiler.proofs.emit.emit_repeat.Goals as goal

pub returns-then-lo-hi : goal.returns-then-lo-hi
returns-then-lo-hi c context = record {
  cap = refl;
  leads = tt;
  work = tt;
  full = λ too. absurd (let never : false ≡ true = too in cc);
  refused = λ tree_context s h. absurd (let order = h.counts in omega (arith, order, c.if-lo-hi.true));
}

pub returns-then-hi-eq0 : goal.returns-then-hi-eq0
returns-then-hi-eq0 c context =
    let old = c.args.emitter.now in
    let a = node_pattern context c.args.child.now false c.args.scope old.opened.items in
    let q = repeated a c.args.bounds.0 c.args.bounds.1 c.args.greedy in
    let is : q ≡ nothing = repeated_never a c.args.bounds.0 c.args.bounds.1 c.args.greedy (omega (arith, c.if-lo-hi.false)) (omega (arith, c.if-hi-eq0.true)) in
    record {
      cap = refl;
      leads = leads_nothing context old old c.args.slot c.args.scope.may_keep q
          (λ tree_context. IsExpandedRepeat tree_context c.args.scope.may_keep c.args.scope.may_be_absent c.args.bounds.0 c.args.bounds.1 (info_of c.args.child.now))
          c.leads_to.result c.leads_to.ensures
          (wrote_nothing (layout_of context) context.unicode context.whole old c.args.slot q is) (omega arith) (λ all among. subst (λ x. IsLetThrough context c.args.scope.may_keep x all) (sym is) tt)
          (none_noted (infos_of context) old.needs.list.items
          (λ tree_context. IsExpandedRepeat tree_context c.args.scope.may_keep c.args.scope.may_be_absent c.args.bounds.0 c.args.bounds.1 (info_of c.args.child.now)));
      work = let this = ap (λ (s : Step). tasks_work (infos_of context) (listed s.tasks)) c.leads_to.ensures in omega (arith, this);
      full = tt;
      refused = tt;
    }

pub returns-then-hi : goal.returns-then-hi
returns-then-hi c context =
    let a = node_pattern context c.args.child.now false c.args.scope c.args.emitter.now.opened.items in
    let q = repeated a c.args.bounds.0 c.args.bounds.1 c.args.greedy in
    let is : q ≡ repeat a c.args.bounds.0 None c.args.greedy = repeated_endless a c.args.bounds.0 c.args.bounds.1 c.args.greedy (omega (arith, c.if-lo-hi.false)) (omega (arith, c.if-hi.true)) in
    let rooms = ap (room_of context) is in
    emits_begun context q
    (λ tree_context. IsExpandedRepeat tree_context c.args.scope.may_keep c.args.scope.may_be_absent c.args.bounds.0 c.args.bounds.1 (info_of c.args.child.now))
    (2 + info_work (infos_of context) c.args.scope c.args.child.now) c.emit_unbounded_repeat.ensures is
    (λ tree_context s h. h.child c.if-hi-eq0.false) (omega (arith, rooms, room_repeat (layout_of context) a c.args.bounds.0 None c.args.greedy)) (omega arith)

pub returns-else-hi : goal.returns-else-hi
returns-else-hi c context =
    let a = node_pattern context c.args.child.now false c.args.scope c.args.emitter.now.opened.items in
    let q = repeated a c.args.bounds.0 c.args.bounds.1 c.args.greedy in
    let is : q ≡ repeat a c.args.bounds.0 (Some c.args.bounds.1) c.args.greedy =
    repeated_counted a c.args.bounds.0 c.args.bounds.1 c.args.greedy (omega (arith, c.if-lo-hi.false)) c.if-hi-eq0.false c.if-hi.false in
    let rooms = ap (room_of context) is in
    emits_begun context q
    (λ tree_context. IsExpandedRepeat tree_context c.args.scope.may_keep c.args.scope.may_be_absent c.args.bounds.0 c.args.bounds.1 (info_of c.args.child.now))
    (2 + info_work (infos_of context) c.args.scope c.args.child.now) c.emit_bounded_repeat.ensures is
    (λ tree_context s h. h.child c.if-hi-eq0.false) (omega (arith, rooms, room_repeat (layout_of context) a c.args.bounds.0 (Some c.args.bounds.1) c.args.greedy)) (omega arith)
