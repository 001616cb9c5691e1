use Rattle.std.proofs.Common.{◌≡◌, ℕ, Bool, sym, ap, ◌∙◌, cond, arith}
use Rattle.fancy_regex_desugar.specs.CorePatterns.{keep_out}
use Rattle.fancy_regex_program.specs.Code.{Layout}
use Rattle.fancy_regex_program.specs.Ops as op
use Rattle.fancy_regex_compiler.specs.Writing.{layout_of, Wrote, draft_of, added, closed_draft}
use Rattle.fancy_regex_compiler.specs.declared.emitter.Emitter.{Emitter}
use Rattle.fancy_regex_compiler.proofs.Drafts.{pat_keep}
use Rattle.fancy_regex_compiler.proofs.OutcomeLemmas.{writes_error}
use Rattle.fancy_regex_compiler.proofs.RoomLemmas.{room_keep}
use Rattle.fancy_regex_compiler.proofs.leaf.emit_keep_out.Goals as goal
use Rattle.fancy_regex_compiler.proofs.leaf.emit_keep_out.Goals.{then-context+in_ok-flush_and_push, else-context+in_ok-flush}

wrote_keep_out : (layout : Layout) (u w : Bool) (old new : Emitter) (slot : ℕ) →
    draft_of new.body ≡ cond w (added (op.save 0) (draft_of old.body)) (closed_draft (draft_of old.body)) →
    new.opened.items ≡ old.opened.items → Wrote layout u w old new slot slot keep_out
wrote_keep_out layout u w old new slot drew opened = record {
  draft = drew ∙ sym (pat_keep layout u w slot (draft_of old.body));
  slots = omega arith;
  opened = opened;
}

pub returns-clause-writes : goal.returns-clause-writes
returns-clause-writes c =
    let u = c.args.context.now.unicode in
    let w = c.args.context.now.whole in
    let old = c.args.emitter.now in
    let d = draft_of old.body in
    elim c.if-context.branch [
      | then-context+in_ok-flush_and_push z ↦ record {
        cap = ap (λ e. e.body.cap) z.emitter-is ∙ z.in_ok-flush_and_push.ensures.cap;
        wrote = λ slot. wrote_keep_out (layout_of c.args.context.now) u w old c.if-context.emitter slot
            (ap (λ e. draft_of e.body) z.emitter-is ∙ z.in_ok-flush_and_push.ensures.draft ∙ ap (λ b. cond b (added (op.save 0) d) (closed_draft d)) (sym z.if-context.true))
            (ap (λ e. e.opened.items) z.emitter-is);
        needs = ap (λ e. e.needs.list.items) z.emitter-is;
        full = tt;
      }
      | else-context+in_ok-flush z ↦ record {
        cap = ap (λ e. e.body.cap) z.emitter-is ∙ z.in_ok-flush.ensures.cap;
        wrote = λ slot. wrote_keep_out (layout_of c.args.context.now) u w old c.if-context.emitter slot
            (ap (λ e. draft_of e.body) z.emitter-is ∙ z.in_ok-flush.ensures.draft ∙ ap (λ b. cond b (added (op.save 0) d) (closed_draft d)) (sym z.if-context.false))
            (ap (λ e. e.opened.items) z.emitter-is);
        needs = ap (λ e. e.needs.list.items) z.emitter-is;
        full = tt;
      }
    ]

pub returns-in_err-flush_and_push-clause-writes : goal.returns-in_err-flush_and_push-clause-writes
returns-in_err-flush_and_push-clause-writes c =
    let e = c.in_err-flush_and_push in
    writes_error c.from_residual.result e.field-0.0 c.from_residual.ensures.1 e.ensures.cap (λ too. let lt = e.ensures.full too in omega (arith, lt, room_keep (layout_of c.args.context.now)))

pub returns-in_err-flush-clause-writes : goal.returns-in_err-flush-clause-writes
returns-in_err-flush-clause-writes c =
    let e = c.in_err-flush in
    let r = c.from_residual-in_err-flush in
    writes_error r.result e.field-0.0 r.ensures.1 e.ensures.cap (λ too. let lt = e.ensures.full too in omega (arith, lt, room_keep (layout_of c.args.context.now)))
