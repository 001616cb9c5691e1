-- A step of the compiler: a body that is delegated, or written out as any node.
use Rattle.std.proofs.Common.{◌≡◌, ℕ, Bool, true, false, cond, refl, sym, ap, ◌∙◌, subst, arith}
use Rattle.std.specs.Borrow.{Bor}
use Rattle.fancy_regex_tree.specs.Tree.{Tree, tree_of}
use Rattle.fancy_regex_tree.specs.declared.expr.Expr.{Expr}
use Rattle.fancy_regex_class.specs.Classes.{in_class, folded}
use Rattle.fancy_regex_desugar.specs.CorePatterns.{CorePattern, delegate}
use Rattle.fancy_regex_desugar.specs.Delegates.{searched, is_delegated}
use Rattle.fancy_regex_desugar.specs.Unfolded.{body_of}
use Rattle.fancy_regex_info.specs.Infos.{info_of}
use Rattle.fancy_regex_info.specs.declared.info.Info.{Info}
use Rattle.fancy_regex_program.specs.Code.{Layout}
use Rattle.fancy_regex_program.specs.Ops as op
use Rattle.fancy_regex_program.specs.Ops.{op_of}
use Rattle.fancy_regex_program.specs.Parts.{IsDelegateOf}
use Rattle.fancy_regex_compiler.specs.Refusals.{TreeContext, IsExpandedBody}
use Rattle.fancy_regex_compiler.specs.Rooms.{room_with}
use Rattle.fancy_regex_compiler.specs.Tasks.{IsLetThrough, LeadsTo, node_pattern, body_pattern}
use Rattle.fancy_regex_compiler.specs.Writing.{Wrote, draft_of, layout_of, infos_of, added}
use Rattle.std.specs.declared.alloc.Global.{Global}
use Rattle.std.specs.declared.sync.Arc.{Arc}
use Rattle.fancy_regex_program.specs.declared.delegate.Delegate.{Delegate}
use Rattle.fancy_regex_compiler.specs.declared.emitter.CompileContext.{CompileContext}
use Rattle.fancy_regex_compiler.specs.declared.emitter.Emitter.{Emitter}
use Rattle.fancy_regex_compiler.specs.declared.emitter.Scope.{Scope}
use Rattle.fancy_regex_program.specs.declared.insn.Insn.TheVariants as insn
use Rattle.fancy_regex_compiler.specs.declared.task.Step.{Step}
use Rattle.fancy_regex_compiler.specs.declared.task.Task.TheVariants as task
use Rattle.fancy_regex_compiler.specs.declared.task.Tasks.TheVariants as tasks
use Rattle.fancy_regex_compiler.proofs.Drafts.{pat_delegate}
use Rattle.fancy_regex_compiler.proofs.NeedLemmas.{same_noted}
use Rattle.fancy_regex_compiler.proofs.RoomLemmas.{took, room_delegate}
use Rattle.fancy_regex_compiler.proofs.StepLemmas.{leads_nothing, leads_one_step}

is_delegate : (for_any : Bool) (t : Tree) (p : CorePattern) → is_delegated for_any t ≡ true → body_of for_any t p ≡ delegate (searched for_any t) p
is_delegate for_any t p e = ap (λ b. cond b (delegate (searched for_any t) p) p) e

is_other : (for_any : Bool) (t : Tree) (p : CorePattern) → is_delegated for_any t ≡ false → body_of for_any t p ≡ p
is_other for_any t p e = ap (λ b. cond b (delegate (searched for_any t) p) p) e

-- the room of what is delegated
pub delegated_room : (layout : Layout) (for_any : Bool) (t : Tree) (p : CorePattern) → is_delegated for_any t ≡ true → room_with layout (body_of for_any t p) ≡ 12
delegated_room layout for_any t p e = ap (room_with layout) (is_delegate for_any t p e) ∙ room_delegate layout (searched for_any t) p

module _ (context : CompileContext) (old new : Emitter) (slot : ℕ) (for_any : Bool) (t : Tree) (p : CorePattern) (part : Arc Delegate Global)
    (h : IsDelegateOf context.unicode for_any t part.value) (drew : draft_of new.body ≡ added (op_of (insn.Delegate part)) (draft_of old.body))
    (opened : new.opened.items ≡ old.opened.items) (needs : new.needs.list.items ≡ old.needs.list.items) where
  same_op : op_of (insn.Delegate part) ≡ op.delegate (in_class context.unicode) (folded context.unicode) (searched for_any t)
  same_op = λ i. op.delegate (in_class (h.unicode_is i)) (folded (h.unicode_is i)) (searched (h.for_any_is i) (h.part i))

  wrote_delegate : Wrote (layout_of context) context.unicode context.whole old new slot slot (body_of for_any t p)
  wrote_delegate =
      subst (Wrote (layout_of context) context.unicode context.whole old new slot slot) (sym (is_delegate for_any t p h.delegated)) (record {
        draft = drew ∙ ap (λ o. added o (draft_of old.body)) same_op
            ∙ sym (pat_delegate (layout_of context) context.unicode context.whole (searched for_any t) p slot (draft_of old.body));
        slots = omega arith;
        opened = opened;
      })

  pub leads_delegate : (keeps : Bool) (S : TreeContext → Type 0) (step : Step) → step ≡ record { slot = slot; tasks = tasks.Nothing } →
      LeadsTo context (body_of for_any t p) keeps S old new slot step
  leads_delegate keeps S step is =
      leads_nothing context old new slot keeps (body_of for_any t p) S step is wrote_delegate (took wrote_delegate)
      (λ all among. subst (λ q. IsLetThrough context keeps q all) (sym (is_delegate for_any t p h.delegated)) h.read)
      (same_noted (infos_of context) old.needs.list.items new.needs.list.items S needs)

-- a body that is not delegated
pub leads_written : (context : CompileContext) (e : Emitter) (slot : ℕ) (for_any : Bool) (body : Bor Expr) (info : Bor Info) (scope : Scope) (step : Step) →
    is_delegated for_any (tree_of body.now) ≡ false →
    step ≡ record { slot = slot; tasks = tasks.One (task.Node info false scope) } →
    LeadsTo context (body_pattern context for_any body.now info.now scope e.opened.items) scope.may_keep
    (λ tree_context. IsExpandedBody tree_context scope.may_keep scope.may_be_absent false (tree_of body.now) (info_of info.now)) e e slot step
leads_written context e slot for_any body info scope step none is =
    let p = node_pattern context info.now false scope e.opened.items in
    leads_one_step context e slot scope.may_keep p (body_pattern context for_any body.now info.now scope e.opened.items) (task.Node info false scope)
    (λ tree_context. IsExpandedBody tree_context scope.may_keep scope.may_be_absent false (tree_of body.now) (info_of info.now)) step
    (is_other for_any (tree_of body.now) p none) is refl (λ all h. h) refl (omega arith) (λ tree_context s stand. stand.part)
