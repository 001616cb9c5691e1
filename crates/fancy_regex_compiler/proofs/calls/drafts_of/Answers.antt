use Rattle.std.proofs.Common.{rules, arith, ◌≡◌, ℕ, not, Option, Some, IfSome, ⊎_elim, subst, sym, ap, ◌∙◌}
use Rattle.std.specs.Prelude.{slice_get, is_some}
use Rattle.std.specs.declared.alloc.Global.{Global}
use Rattle.std.specs.declared.sync.Arc.{Arc}
use Rattle.fancy_regex_program.specs.declared.insn.Callee.{Callee}
use Rattle.fancy_regex_compiler.specs.Inlined.{is_inlined}
use Rattle.fancy_regex_compiler.proofs.AddedBodies.{got_more}
use Rattle.fancy_regex_compiler.proofs.NeedLemmas.{laid_out_all}
use Rattle.fancy_regex_compiler.proofs.calls.drafts_of.Goals as goal

pub loop-group-preserved : goal.loop-group-preserved
loop-group-preserved c =
    let inv = c.loop-group.invariant in
    let drafts = c.loop-group.drafts.items in
    let made = c.in_ok-draft.draft in
    let names : (k : ℕ) (o : Option (Arc Callee Global)) (draft : Arc Callee Global) → IfSome o (λ d. d.value.start ≡ k) → o ≡ Some draft → draft.value.start ≡ k =
    λ k o draft h is. subst (λ p. IfSome p (λ d. d.value.start ≡ k)) is h in
    record {
      count = search rules;
      named = λ k draft at.
          ⊎_elim (λ before. inv.named k draft before)
          (λ here. names c.loop-group.group made draft c.in_ok-draft.ensures.named here.1 ∙ sym (here.0 ∙ inv.count))
          (got_more drafts made (Some draft) k (ap (λ l. slice_get l k) (sym c.in_ok-push.ensures.items) ∙ at));
      laid_out = λ k drafted at.
          ⊎_elim (λ before. inv.laid_out k drafted before)
          (λ here. ap is_some (sym here.1) ∙ c.in_ok-draft.ensures.laid_out ∙ ap (λ j. not (is_inlined c.args.inlined.now.rooms.items j)) (sym (here.0 ∙ inv.count)))
          (got_more drafts made drafted k (ap (λ l. slice_get l k) (sym c.in_ok-push.ensures.items) ∙ at));
    }

pub returns-clause-laid_out : goal.returns-clause-laid_out
returns-clause-laid_out c =
    let inv = c.loop-group.invariant in
    let drafts = c.loop-group.drafts.items in
    laid_out_all c.args.inlined.now.rooms.items drafts inv.laid_out (λ k is. (let low = c.requires.few k is in let long = inv.count in omega (arith, low, long)))
