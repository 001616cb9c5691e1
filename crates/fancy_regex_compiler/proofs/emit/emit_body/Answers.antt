use Rattle.std.proofs.Common.{◌≡◌, Bool, false, Option, Some, None, refl, ap, ◌∙◌, subst, arith}
use Rattle.std.specs.Prelude.{option_map}
use Rattle.std.specs.declared.alloc.Global.{Global}
use Rattle.std.specs.declared.sync.Arc.{Arc}
use Rattle.fancy_regex_tree.specs.Tree.{Tree, tree_of}
use Rattle.fancy_regex_desugar.specs.Delegates.{is_delegated}
use Rattle.fancy_regex_info.specs.Infos.{info_of}
use Rattle.fancy_regex_program.specs.Parts.{IsDelegateOf, IsDelegateIfAny}
use Rattle.fancy_regex_compiler.specs.Refusals.{IsExpandedBody}
use Rattle.fancy_regex_compiler.specs.Tasks.{listed, node_pattern, tasks_work}
use Rattle.fancy_regex_compiler.specs.Writing.{layout_of, infos_of}
use Rattle.fancy_regex_program.specs.declared.delegate.Delegate.{Delegate}
use Rattle.fancy_regex_compiler.specs.declared.emitter.Emitter.{Emitter}
use Rattle.fancy_regex_compiler.specs.declared.task.Step.{Step}
use Rattle.fancy_regex_compiler.specs.declared.task.Task.{Task}
use Rattle.fancy_regex_compiler.specs.declared.task.Tasks.TheVariants as tasks
use Rattle.fancy_regex_compiler.proofs.DelegateSteps.{leads_delegate, leads_written, delegated_room}
use Rattle.fancy_regex_compiler.proofs.OutcomeLemmas.{never_full, emits_error, emits_want}
use Rattle.fancy_regex_compiler.proofs.PartLemmas.{part_reason}
use Rattle.fancy_regex_compiler.proofs.emit.emit_body.Goals as goal

-- what is known of the part that is there, or is not
delegate_is : (u for_any : Bool) (t : Tree) {o : Option (Arc Delegate Global)} {d : Arc Delegate Global} → o ≡ Some d →
    IsDelegateIfAny u for_any t (option_map (λ (x : Arc Delegate Global). x.value) o) → IsDelegateOf u for_any t d.value
delegate_is u for_any t is h = subst (λ o. IsDelegateIfAny u for_any t (option_map (λ (x : Arc Delegate Global). x.value) o)) is h

none_is : (u for_any : Bool) (t : Tree) {o : Option (Arc Delegate Global)} → o ≡ None →
    IsDelegateIfAny u for_any t (option_map (λ (x : Arc Delegate Global). x.value) o) → is_delegated for_any t ≡ false
none_is u for_any t is h = subst (λ o. IsDelegateIfAny u for_any t (option_map (λ (x : Arc Delegate Global). x.value) o)) is h

pub returns-in_ok-flush_and_push-in-Some : goal.returns-in_ok-flush_and_push-in-Some
returns-in_ok-flush_and_push-in-Some c = record {
  cap = c.in_ok-flush_and_push-in-Some.ensures.cap;
  leads =
      let context = c.args.context.now in
      let old = c.args.emitter.now in
      let new : Emitter = record { body = c.flush_and_push.new.self; classes = old.classes; opened = old.opened; parts = c.delegate.new.self; needs = old.needs } in
      leads_delegate context old new c.args.slot c.args.for_any (tree_of c.args.body.now) (node_pattern context c.args.info.now false c.args.scope old.opened.items) c.in-Some.part (delegate_is c.args.context.now.unicode c.args.for_any (tree_of c.args.body.now) c.in-Some.is c.in_ok-part.ensures.value)
      c.in_ok-flush_and_push-in-Some.ensures.draft refl refl c.args.scope.may_keep
      (λ tree_context. IsExpandedBody tree_context c.args.scope.may_keep c.args.scope.may_be_absent false (tree_of c.args.body.now) (info_of c.args.info.now))
      c.leads_to.result c.leads_to.ensures;
  work = let this = ap (λ (s : Step). tasks_work (infos_of c.args.context.now) (listed s.tasks)) c.leads_to.ensures in omega (arith, this);
  full = tt;
  refused = tt;
}

pub returns-in_err-flush_and_push-in-Some : goal.returns-in_err-flush_and_push-in-Some
returns-in_err-flush_and_push-in-Some c =
    let context = c.args.context.now in
    let rooms = delegated_room (layout_of context) c.args.for_any (tree_of c.args.body.now) (node_pattern context c.args.info.now false c.args.scope c.args.emitter.now.opened.items) (delegate_is c.args.context.now.unicode c.args.for_any (tree_of c.args.body.now) c.in-Some.is c.in_ok-part.ensures.value).delegated in
    let e = c.in_err-flush_and_push-in-Some in
    emits_want c.from_residual-in_err-flush_and_push-in-Some.result e.field-0.0 c.from_residual-in_err-flush_and_push-in-Some.ensures.1 e.ensures.cap
    (λ too. let lt = e.ensures.full too in omega (arith, lt, rooms)) e.ensures.refused

pub returns-in-None : goal.returns-in-None
returns-in-None c =
    let step_is = c.leads_to-in-None.ensures ∙ ap (λ (t : Task). let s : Step = record { slot = c.args.slot; tasks = tasks.One t } in s) c.node_task.ensures in
    let h = leads_written c.args.context.now c.args.emitter.now c.args.slot c.args.for_any c.args.body c.args.info c.args.scope c.leads_to-in-None.result
    (none_is c.args.context.now.unicode c.args.for_any (tree_of c.args.body.now) c.in-None.is c.in_ok-part.ensures.value) step_is in
    record {
      cap = refl;
      leads = record { ends = h.ends; allowed = h.allowed; fits = h.fits; stands = h.stands; notes = h.notes };
      work = let this = ap (λ (s : Step). tasks_work (infos_of c.args.context.now) (listed s.tasks)) step_is in omega (arith, this);
      full = tt;
      refused = tt;
    }

pub returns-in_err-part : goal.returns-in_err-part
returns-in_err-part c =
    let context = c.args.context.now in
    let t = tree_of c.args.body.now in
    let e = c.in_err-part in
    emits_error c.from_residual.result e.field-0.0 c.from_residual.ensures.1 refl (never_full e.field-0.0 e.ensures.full)
    (λ tree_context s h. part_reason tree_context c.args.scope.may_keep c.args.scope.may_be_absent false context.unicode (infos_of context) c.args.for_any t (info_of c.args.info.now) e.field-0.0 s h e.ensures.refused)
