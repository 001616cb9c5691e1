use Rattle.std.proofs.Common.{◌≡◌, ℕ, Bool, [], ◌∷◌, true, refl, sym, ap, ◌∙◌, subst, arith}
use Rattle.fancy_regex_tree.specs.Tree as tree
use Rattle.fancy_regex_desugar.specs.CorePatterns.{read, literal, fail}
use Rattle.fancy_regex_program.specs.Code.{Layout}
use Rattle.fancy_regex_compiler.specs.Extents.{IsFull}
use Rattle.fancy_regex_compiler.specs.Known.{front_of}
use Rattle.fancy_regex_compiler.specs.Writing.{layout_of, Wrote, draft_of, with_pat}
use Rattle.fancy_regex_compiler.specs.Tasks.{room_of}
use Rattle.fancy_regex_compiler.specs.declared.emitter.Emitter.{Emitter}
use Rattle.fancy_regex_program.specs.declared.insn.Insn.TheVariants as insn
use Rattle.fancy_regex_compiler.proofs.Drafts.{pat_wait}
use Rattle.fancy_regex_compiler.proofs.LeafLemmas.{leaf_caseless}
use Rattle.fancy_regex_compiler.proofs.OutcomeLemmas.{writes_error}
use Rattle.fancy_regex_compiler.proofs.RoomLemmas.{room_leaf}
use Rattle.fancy_regex_compiler.proofs.leaf.emit_literal.Goals as goal
use Rattle.fancy_regex_compiler.proofs.leaf.emit_literal.Goals.{then-casei+in_ok-flush_and_push, else-casei+in_ok-push_literal_char}

drew : (layout : Layout) (u w casei : Bool) (first : ℕ) (old new : Emitter) (slot : ℕ) → draft_of new.body ≡ with_pat layout u w (read (literal first casei)) slot (draft_of old.body) →
    new.opened.items ≡ old.opened.items → Wrote layout u w old new slot slot (read (literal first casei))
drew layout u w casei first old new slot is opened = record {
  draft = is;
  slots = omega arith;
  opened = opened;
}

pub returns-clause-writes : goal.returns-clause-writes
unfolding front_of
returns-clause-writes c =
    let u = c.args.context.now.unicode in
    let w = c.args.context.now.whole in
    let layout = layout_of c.args.context.now in
    let old = c.args.emitter.now in
    let first = c.args.first in
    let d = draft_of old.body in
    elim c.if-casei.branch [
      | then-casei+in_ok-flush_and_push z ↦
          let is = leaf_caseless u z.new-literal.result (tree.literal (first ∷ []) true) (first ∷ []) first refl refl z.new-literal.ensures in
          record {
            cap = ap (λ e. e.body.cap) z.emitter-is ∙ z.in_ok-flush_and_push.ensures.cap;
            wrote = λ slot. drew layout u w c.args.casei first old c.if-casei.emitter slot
                (ap (λ e. draft_of e.body) z.emitter-is ∙ z.in_ok-flush_and_push.ensures.draft ∙ sym (is.draft layout w (λ _. fail) 0 slot [] d)
                ∙ ap (λ b. with_pat layout u w (read (literal first b)) slot d) (sym z.if-casei.true))
                (ap (λ e. e.opened.items) z.emitter-is);
            needs = ap (λ e. e.needs.list.items) z.emitter-is;
            full = tt;
          }
      | else-casei+in_ok-push_literal_char z ↦ record {
        cap = ap (λ e. e.body.cap) z.emitter-is ∙ z.in_ok-push_literal_char.ensures.cap;
        wrote = λ slot. drew layout u w c.args.casei first old c.if-casei.emitter slot
            (ap (λ e. draft_of e.body) z.emitter-is ∙ z.in_ok-push_literal_char.ensures.draft ∙ sym (pat_wait layout u w first slot d)
            ∙ ap (λ b. with_pat layout u w (read (literal first b)) slot d) (sym z.if-casei.false))
            (ap (λ e. e.opened.items) z.emitter-is);
        needs = ap (λ e. e.needs.list.items) z.emitter-is;
        full = tt;
      }
    ]

pub returns-in_err-flush_and_push-clause-writes : goal.returns-in_err-flush_and_push-clause-writes
unfolding front_of
returns-in_err-flush_and_push-clause-writes c =
    let u = c.args.context.now.unicode in
    let first = c.args.first in
    let t = tree.literal (first ∷ []) true in
    let is = leaf_caseless u c.new-literal.result t (first ∷ []) first refl refl c.new-literal.ensures in
    let some = room_leaf (layout_of c.args.context.now) u (insn.LitCasei c.new-literal.result) t is (λ _. fail) 0 [] in
    let e = c.in_err-flush_and_push in
    writes_error c.from_residual.result e.field-0.0 c.from_residual.ensures.1 e.ensures.cap
    (subst (λ b. IsFull c.args.emitter.now.body (room_of c.args.context.now (read (literal first b))) e.field-0.0) (sym c.if-casei.true)
    (λ too. let lt = e.ensures.full too in omega (arith, lt, some)))
