use Rattle.std.proofs.Common.{◌≡◌, Bool, false, Option, None, map, refl, ap, subst, arith}
use Rattle.std.specs.Prelude.{option_map}
use Rattle.std.specs.declared.alloc.Global.{Global}
use Rattle.std.specs.declared.sync.Arc.{Arc}
use Rattle.fancy_regex_tree.specs.Tree.{Tree, concat}
use Rattle.fancy_regex_desugar.specs.Delegates.{is_delegated}
use Rattle.fancy_regex_program.specs.Parts.{IsDelegateIfAny}
use Rattle.fancy_regex_program.specs.declared.delegate.Delegate.{Delegate}
use Rattle.fancy_regex_compiler.specs.Tails.{row_trees}
use Rattle.fancy_regex_compiler.specs.Tasks.{tasks_work, listed}
use Rattle.fancy_regex_compiler.specs.Writing.{draft_of, closed_draft, infos_of, part, layout_of}
use Rattle.fancy_regex_compiler.specs.declared.emitter.Emitter.{Emitter}
use Rattle.fancy_regex_compiler.specs.declared.task.Step.{Step}
use Rattle.fancy_regex_compiler.proofs.OutcomeLemmas.{never_full, emits_error, emits_want}
use Rattle.fancy_regex_compiler.proofs.TailSteps.{leads_tail, leads_plain, tail_room, row_reason, delegated_row}
use Rattle.fancy_regex_compiler.proofs.emit.emit_tail.Goals as goal

pub returns-in_err-part : goal.returns-in_err-part
returns-in_err-part c =
    let u = c.args.context.now.unicode in
    let gs = infos_of c.args.context.now in
    let e = c.in_err-part in
    emits_error c.from_residual.result e.field-0.0 c.from_residual.ensures.1 refl (never_full e.field-0.0 e.ensures.full)
    (λ tree_context s h. row_reason tree_context c.args.scope.may_keep c.args.scope.may_be_absent u gs c.args.parts.now (concat (row_trees c.args.parts.now)) e.field-0.0 refl s h e.ensures.refused)

pub returns-in_err-begin-in-Some : goal.returns-in_err-begin-in-Some
returns-in_err-begin-in-Some c =
    let context = c.args.context.now in
    let parts = c.args.parts.now in
    let h = delegated_row context.unicode (concat (row_trees parts)) parts refl c.in-Some.is c.in_ok-part.ensures.value in
    let rooms = tail_room (layout_of context) (row_trees parts) (map (part context c.args.scope c.args.emitter.now.opened.items) parts) h.delegated in
    let e = c.in_err-begin-in-Some in
    emits_want c.from_residual-in_err-begin-in-Some.result e.field-0.0 c.from_residual-in_err-begin-in-Some.ensures.1 e.ensures.appends.cap
    (λ too. let lt = e.ensures.appends.full too in omega (arith, lt, rooms)) e.ensures.appends.refused

pub returns-in_ok-begin-in-Some : goal.returns-in_ok-begin-in-Some
returns-in_ok-begin-in-Some c = record {
  cap = c.in_ok-begin-in-Some.ensures.appends.cap;
  leads =
      let context = c.args.context.now in
      let old = c.args.emitter.now in
      let new : Emitter = record { body = c.begin_tail.new.body; classes = old.classes; opened = old.opened; parts = c.delegate_row.new.self; needs = old.needs } in
      let h = delegated_row context.unicode (concat (row_trees c.args.parts.now)) c.args.parts.now refl c.in-Some.is c.in_ok-part.ensures.value in
      leads_tail context old new c.args.slot c.args.parts c.args.scope c.in-Some.part c.in_ok-begin-in-Some.begin (closed_draft (draft_of old.body)) h refl c.in_ok-begin-in-Some.ensures.begin
      c.in_ok-begin-in-Some.ensures.appends.draft (omega (arith, c.in_ok-begin-in-Some.ensures.appends.long)) refl refl c.leads_to.result c.leads_to.ensures;
  work = let this = ap (λ (s : Step). tasks_work (infos_of c.args.context.now) (listed s.tasks)) c.leads_to.ensures in omega (arith, this);
  full = tt;
  refused = tt;
}

-- what is known where there is no such part
none_is : (u : Bool) (t : Tree) {o : Option (Arc Delegate Global)} → o ≡ None → IsDelegateIfAny u false t (option_map (λ (x : Arc Delegate Global). x.value) o) →
    is_delegated false t ≡ false
none_is u t is h = subst (λ o. IsDelegateIfAny u false t (option_map (λ (x : Arc Delegate Global). x.value) o)) is h

pub returns-in-None : goal.returns-in-None
returns-in-None c =
    let context = c.args.context.now in
    let h = leads_plain context c.args.emitter.now c.args.slot c.args.parts c.args.scope c.leads_to-in-None.result
    (none_is context.unicode (concat (row_trees c.args.parts.now)) c.in-None.is c.in_ok-part.ensures.value) c.leads_to-in-None.ensures in
    record {
      cap = refl;
      leads = record { ends = h.ends; allowed = h.allowed; fits = h.fits; stands = h.stands; notes = h.notes };
      work = let this = ap (λ (s : Step). tasks_work (infos_of context) (listed s.tasks)) c.leads_to-in-None.ensures in omega (arith, this);
      full = tt;
      refused = tt;
    }
