use Rattle.std.proofs.Common.{◌≡◌, ℕ, Bool, true, false, cond, [], ◌∷◌, ◌++◌, sym, ap, ◌∙◌, append_assoc}
use Rattle.fancy_regex_tree.specs.Tree.{Text}
use Rattle.fancy_regex_program.specs.Ops as op
use Rattle.fancy_regex_program.specs.Code.{closing}
use Rattle.fancy_regex_compiler.specs.Writing.{Draft, draft_of, with_op, closed_draft}
use Rattle.fancy_regex_compiler.proofs.main_program.close.Goals as goal
use Rattle.fancy_regex_compiler.proofs.main_program.close.Goals.{then-whole+in_ok-push_insn, else-whole}

ended : (whole : Bool) (d0 d1 d2 d3 : Draft) → d1 ≡ closed_draft d0 → d2 ≡ cond whole (with_op (op.save 1) d1) d1 → d3 ≡ with_op op.finish d2 →
    (has_member : Text → Bool → ℕ → Bool) (fold : ℕ → ℕ) → d3.ops ≡ (closed_draft d0).ops ++ closing has_member fold whole
unfolding with_op
ended true d0 d1 d2 d3 e1 e2 e3 has_member fold =
    ap (λ d. d.ops) (e3 ∙ ap (with_op op.finish) e2) ∙ append_assoc d1.ops (op.save 1 ∷ []) (op.finish ∷ [])
    ∙ ap (λ d. d.ops ++ op.save 1 ∷ op.finish ∷ []) e1
ended false d0 d1 d2 d3 e1 e2 e3 has_member fold = ap (λ d. d.ops) (e3 ∙ ap (with_op op.finish) (e2 ∙ e1))

pub returns-clause-draft : goal.returns-clause-draft
returns-clause-draft c has_member fold =
    let d0 = draft_of c.args.body.now in
    let d1 = draft_of c.flush.new.self in
    let d2 = draft_of c.if-whole.body in
    let second : d2 ≡ cond c.args.whole (with_op (op.save 1) d1) d1 = elim c.if-whole.branch [
      | then-whole+in_ok-push_insn w ↦
          ap draft_of w.body-is ∙ w.in_ok-push_insn.ensures.draft ∙ ap (λ b. cond b (with_op (op.save 1) d1) d1) (sym w.if-whole.true)
      | else-whole w ↦ ap draft_of w.body-is ∙ ap (λ b. cond b (with_op (op.save 1) d1) d1) (sym w.if-whole.false)
    ] in
    ended c.args.whole d0 d1 d2 (draft_of c.push_insn-2.new.self) c.in_ok-flush.ensures.draft second c.in_ok-push_insn-2.ensures.draft has_member fold

no_text : (whole : Bool) (d0 d1 d2 d3 : Draft) → d1 ≡ closed_draft d0 → d2 ≡ cond whole (with_op (op.save 1) d1) d1 → d3 ≡ with_op op.finish d2 → d3.text ≡ []
unfolding with_op closed_draft
no_text true d0 d1 d2 d3 e1 e2 e3 = ap (λ d. d.text) (e3 ∙ ap (with_op op.finish) e2) ∙ ap (λ d. d.text) e1
no_text false d0 d1 d2 d3 e1 e2 e3 = ap (λ d. d.text) (e3 ∙ ap (with_op op.finish) e2) ∙ ap (λ d. d.text) e1

pub returns-clause-text : goal.returns-clause-text
returns-clause-text c =
    let d0 = draft_of c.args.body.now in
    let d1 = draft_of c.flush.new.self in
    let d2 = draft_of c.if-whole.body in
    let second : d2 ≡ cond c.args.whole (with_op (op.save 1) d1) d1 = elim c.if-whole.branch [
      | then-whole+in_ok-push_insn w ↦
          ap draft_of w.body-is ∙ w.in_ok-push_insn.ensures.draft ∙ ap (λ b. cond b (with_op (op.save 1) d1) d1) (sym w.if-whole.true)
      | else-whole w ↦ ap draft_of w.body-is ∙ ap (λ b. cond b (with_op (op.save 1) d1) d1) (sym w.if-whole.false)
    ] in
    no_text c.args.whole d0 d1 d2 (draft_of c.push_insn-2.new.self) c.in_ok-flush.ensures.draft second c.in_ok-push_insn-2.ensures.draft
